-- A text that is read line by line: what the next lines are, and what was read of them.
use Rattle.std.specs.Prelude.{◌≡◌, ℕ, ◌+◌, ◌≤◌, List, Ok, Err, Result}
use Rattle.table.specs.declared.faults.TableFault.{TableFault}
use Rattle.table.specs.declared.lines.Lines.{Lines}
use Rattle.table.specs.declared.counts.Counts.{Counts}
use Rattle.table.specs.Reading.{Contents, Head, Item, Taken, body_of, line_at, lines_at}

-- no line is taken yet
pub record IsFresh (lines : Lines) : Type 0 where
  pub line : lines.line ≡ 1
  pub at : lines.at ≡ 0

-- the next line is that of the first name
abbrev pub AtNames : Lines → Type 0
AtNames lines = lines.line ≡ 6

-- the next line, read as an item
abbrev pub line_as : {X : Type 0} → Item X → Lines → Result (Taken X) TableFault
line_as item lines = line_at item lines.line lines.at lines.text.now

-- the next `count` lines, each read as an item
abbrev pub lines_as : {X : Type 0} → Item X → (count : ℕ) → Lines → Result (Taken (List X)) TableFault
lines_as item count lines = lines_at item count lines.line lines.at lines.text.now

-- what was read, with the position behind it
abbrev pub read_to : {X : Type 0} → Result X TableFault → Lines → Result (Taken X) TableFault
read_to (Ok x) lines = Ok (record { value = x; next = lines.at })
read_to (Err e) lines = Err e

-- the position behind what was read
abbrev pub ended : {X : Type 0} → Result X TableFault → Lines → Result ℕ TableFault
ended (Ok x) lines = Ok lines.at
ended (Err e) lines = Err e

-- there is room for a word a row and a place a name
pub record HasRoom (counts : Counts) (row_room place_room : ℕ) : Type 0 where
  pub rows : counts.rows ≤ row_room
  pub names : counts.rows + counts.signals ≤ place_room

-- the numbers that were read in the first five lines, with the position behind them
abbrev pub head_at : Counts → Lines → Head
head_at counts lines = record { rows = counts.rows; signals = counts.signals; next = lines.at }

-- the same of what reading them answered
abbrev pub head_read : Result Counts TableFault → Lines → Result Head TableFault
head_read (Ok counts) lines = Ok (head_at counts lines)
head_read (Err e) lines = Err e

-- the names and rows that the numbers tell of, from the next line on
abbrev pub body_at : Counts → Lines → Result Contents TableFault
body_at counts lines = body_of lines.text.now (head_at counts lines)
