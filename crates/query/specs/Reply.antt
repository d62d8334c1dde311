-- What a granted query is answered.
use Rattle.std.specs.Prelude.{ℕ, Bool, true, false, List, codes}
use Rattle.query.specs.declared.reply.Reply.{Reply}
use Rattle.query.specs.declared.reply.Reply.TheVariants.{Done, Yes, No}

-- the bytes of a reply
abbrev pub reply_text : Reply → List ℕ
reply_text Done = codes "done"
reply_text Yes = codes "yes"
reply_text No = codes "no"

-- yes where the test holds, else no
abbrev pub verdict : Bool → Reply
verdict true = Yes
verdict false = No
