-- Queries: what each is answered, and what the known set is afterwards.
use Rattle.std.specs.Prelude.{ℕ, ◌+◌, cond, List, [], ◌∷◌, length, take, drop, Ok, Err, codes, Result, nat_lt}
use Rattle.std.specs.Str.{bytes_eq}
use Rattle.query.specs.declared.faults.QueryFault.{QueryFault}
use Rattle.query.specs.declared.faults.QueryFault.TheVariants as fault
use Rattle.query.specs.declared.reply.Reply.{Reply}
use Rattle.query.specs.declared.reply.Reply.TheVariants.{Done}
use Rattle.query.specs.Fields.{Field, fields_of}
use Rattle.query.specs.Names.{and_then, with_names}
use Rattle.query.specs.Reply.{verdict}
use Rattle.query.specs.Rows.{holds_in_rows}
use Rattle.text.specs.declared.faults.FieldFault.{FieldFault}
use Rattle.text.specs.declared.faults.FieldFault.TheVariants.{NoNumber}
use Rattle.text.specs.Lines.{line_end_of}
use Rattle.text.specs.Numbers.{number_of}

-- a refusal of a line or a field is passed up whole
abbrev pub pass_up : {X : Type 0} → Result X FieldFault → Result X QueryFault
pass_up (Ok x) = Ok x
pass_up (Err e) = Err (fault.Field e)

-- what a `given` is answered, from the known set with the names
abbrev pub given_reply : Result ℕ QueryFault → Result Reply QueryFault
given_reply (Ok word) = Ok Done
given_reply (Err e) = Err e

-- the known set after a `given`: as before where a name is refused
abbrev pub given_known : (known : ℕ) → Result ℕ QueryFault → ℕ
given_known known (Ok word) = word
given_known known (Err e) = known

-- what is answered on k names that are supposed and further names, on a line of `size` bytes: every name is looked up before the names are counted
abbrev pub suppose_reply : (names : List (List ℕ)) (rows : List ℕ) (known line size k : ℕ) → List Field → Result Reply QueryFault
suppose_reply names rows known line size k fields =
    and_then (with_names names line known (take k fields))
    (λ premise. and_then (with_names names line 0 (drop k fields))
    (λ conclusion. cond (nat_lt (length fields) k) (Err (fault.TooFew line (size + 1))) (Ok (verdict (holds_in_rows rows premise conclusion)))))

-- a refused number is refused at the byte where its field starts
abbrev pub at_start : (line byte : ℕ) → Result ℕ FieldFault → Result ℕ FieldFault
at_start line byte (Ok k) = Ok k
at_start line byte (Err e) = Err (NoNumber line byte)

-- the number that a field writes
abbrev pub count_of : (line : ℕ) → Field → Result ℕ FieldFault
count_of line field = at_start line field.byte (number_of line field.bytes)

-- what a `follows` is answered, from the fields behind the verb
abbrev pub follows_reply : (names : List (List ℕ)) (rows : List ℕ) (known line size : ℕ) → List Field → Result Reply QueryFault
follows_reply names rows known line size [] = Err (fault.Field (NoNumber line (size + 1)))
follows_reply names rows known line size (field ∷ fields) =
    and_then (pass_up (count_of line field)) (λ k. suppose_reply names rows known line size k fields)

-- what a query is answered, from its fields
abbrev pub fields_reply : (names : List (List ℕ)) (rows : List ℕ) (known line size : ℕ) → List Field → Result Reply QueryFault
fields_reply names rows known line size [] = Err (fault.NoVerb line)
fields_reply names rows known line size (verb ∷ fields) =
    cond (bytes_eq verb.bytes (codes "given")) (given_reply (with_names names line known fields))
    (cond (bytes_eq verb.bytes (codes "follows")) (follows_reply names rows known line size fields) (Err (fault.NoVerb line)))

-- the known set after a query, from its fields
abbrev pub fields_known : (names : List (List ℕ)) (known line : ℕ) → List Field → ℕ
fields_known names known line [] = known
fields_known names known line (verb ∷ fields) = cond (bytes_eq verb.bytes (codes "given")) (given_known known (with_names names line known fields)) known

-- what a query line is answered
abbrev pub reply_by_line : (names : List (List ℕ)) (rows : List ℕ) (known line : ℕ) (bytes : List ℕ) → Result Reply QueryFault
reply_by_line names rows known line bytes = fields_reply names rows known line (length bytes) (fields_of bytes)

-- the known set after a query line
abbrev pub known_by_line : (names : List (List ℕ)) (known line : ℕ) (bytes : List ℕ) → ℕ
known_by_line names known line bytes = fields_known names known line (fields_of bytes)

-- the known set after the line that ends there
abbrev pub known_upto : (names : List (List ℕ)) (known line : ℕ) (text : List ℕ) → Result ℕ FieldFault → ℕ
known_upto names known line text (Ok end) = known_by_line names known line (take end text)
known_upto names known line text (Err e) = known

-- what a query is answered: its line ends at the first line feed
abbrev pub reply_of : (names : List (List ℕ)) (rows : List ℕ) (known line : ℕ) (text : List ℕ) → Result Reply QueryFault
reply_of names rows known line text = and_then (pass_up (line_end_of line 0 text)) (λ end. reply_by_line names rows known line (take end text))

-- the known set after a query
abbrev pub known_after : (names : List (List ℕ)) (known line : ℕ) (text : List ℕ) → ℕ
known_after names known line text = known_upto names known line text (line_end_of line 0 text)
