-- The answers to the queries behind a table text, one line a query.
use Rattle.std.specs.Prelude.{ℕ, zero, suc, ◌+◌, cond, List, [], ◌∷◌, ◌++◌, length, Ok, Err, Result, ◌==◌, nat_le}
use Rattle.output.specs.declared.faults.OutputFault.TheVariants.{Full}
use Rattle.query.specs.Faults.{fault_of}
use Rattle.query.specs.Queries.{known_after, reply_of}
use Rattle.query.specs.Reply.{reply_text}
use Rattle.query.specs.declared.faults.QueryFault.{QueryFault}
use Rattle.query.specs.declared.reply.Reply.{Reply}
use Rattle.job.specs.declared.faults.JobFault.{JobFault}
use Rattle.job.specs.declared.faults.JobFault.TheVariants.{Output}
use Rattle.job.specs.Reports.{fault_line}

-- the line that a query is answered: its reply, or a fault line
abbrev pub answer_line : Result Reply QueryFault → List ℕ
answer_line (Ok reply) = reply_text reply ++ 10 ∷ []
answer_line (Err fault) = fault_line (fault_of fault)

-- what is behind the first line of a text; nothing where no line feed, the byte 10, ends it
abbrev pub rest_after : List ℕ → List ℕ
rest_after [] = []
rest_after (b ∷ bs) = cond (b == 10) bs (rest_after bs)

-- the answers to the first n lines of a text, of which the first has the number `line`, where these signals are known
abbrev pub answers_by : (names : List (List ℕ)) (rows : List ℕ) (n known line : ℕ) → List ℕ → List ℕ
answers_by names rows zero known line text = []
answers_by names rows (suc n) known line [] = []
answers_by names rows (suc n) known line (b ∷ bs) =
    answer_line (reply_of names rows known line (b ∷ bs)) ++ answers_by names rows n (known_after names known line (b ∷ bs)) (line + 1) (rest_after (b ∷ bs))

-- the answers to all lines of a text, which has no more lines than bytes; nothing is known at first
abbrev pub answers_of : (names : List (List ℕ)) (rows : List ℕ) (line : ℕ) → List ℕ → List ℕ
answers_of names rows line text = answers_by names rows (length text) 0 line text

-- the answers as a part of the job at a position, which may fill the output to its last byte
abbrev pub answers_part : (at : ℕ) (answers : List ℕ) (size : ℕ) → Result (List ℕ) JobFault
answers_part at answers size = cond (nat_le (at + length answers) size) (Ok answers) (Err (Output Full))
