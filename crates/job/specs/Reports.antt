-- What a job puts into its output.
use Rattle.std.specs.Prelude.{ℕ, ◌-◌, cond, List, [], ◌∷◌, ◌++◌, length, take, replicate, Ok, Err, codes, Result, nat_le, nat_lt}
use Rattle.fault.specs.declared.Fault.{Fault}
use Rattle.output.specs.declared.faults.OutputFault.TheVariants.{Full}
use Rattle.fault.specs.Layers.{Near}
use Rattle.output.specs.Records.{record_line}
use Rattle.table.specs.declared.faults.TableFault.{TableFault}
use Rattle.table.specs.declared.place.Place.{Place}
use Rattle.table.specs.Reading.{Contents, read_of}
use Rattle.view.specs.Texts.{shown_text}
use Rattle.view.specs.declared.table_view.TableView.{TableView}
use Rattle.job.specs.declared.faults.JobFault.{JobFault}
use Rattle.job.specs.declared.faults.JobFault.TheVariants.{SmallOutput, Table, Output, Tray, Page, Draft}
use Rattle.job.specs.Faults.{fault_of}

-- the fewest bytes of an output, which a fault line never passes
abbrev pub min_output : ℕ
min_output = 32

-- a fault line: `fault,`, the letter, the number, the line and the byte, parted by commas, and a line feed
abbrev pub fault_line : Fault → List ℕ
fault_line f = record_line (codes "fault," ++ f.letter ∷ []) (f.number ∷ f.line ∷ f.byte ∷ [])

-- the line that tells what was read: `read,`, the number of rows, the number of signals and the bytes taken, parted by commas, and a line feed
abbrev pub read_line : (rows signals bytes : ℕ) → List ℕ
read_line rows signals bytes = record_line (codes "read") (rows ∷ signals ∷ bytes ∷ [])

-- the report of a table in parts: that line, and the table's text
abbrev pub report_text : (text words : List ℕ) → List Place → (bytes : ℕ) → List ℕ
report_text text words places bytes = read_line (length words) (length places - length words) bytes ++ shown_text text words places

-- the same of the table that a view shows
abbrev pub report_of : TableView → (bytes : ℕ) → List ℕ
report_of view bytes = report_text view.text.now view.words.now view.places.now bytes

-- the report of a text: that line, and the bytes that the table's text has in the text itself
abbrev pub reported : List ℕ → Contents → List ℕ
reported text c = read_line (length c.words) c.signals c.bytes ++ take c.bytes text

-- the report of what was read, if it fits an output of this size
abbrev pub fitted : (text : List ℕ) (size : ℕ) → Result Contents TableFault → Result (List ℕ) JobFault
fitted text size (Ok c) = cond (nat_le (length (reported text c)) size) (Ok (reported text c)) (Err (Output Full))
fitted text size (Err e) = Err (Table e)

-- the bytes of a job's report, or why it is refused: first of all a small output, then what reading refuses, then a report that does not fit
abbrev pub job_of : (text : List ℕ) (row_room place_room size : ℕ) → Result (List ℕ) JobFault
job_of text row_room place_room size = cond (nat_lt size min_output) (Err SmallOutput) (fitted text size (read_of text row_room place_room))

-- what is answered: how many bytes the report has
abbrev pub count_of : Result (List ℕ) JobFault → Result ℕ JobFault
count_of (Ok bytes) = Ok (length bytes)
count_of (Err e) = Err e

-- bytes, and zeros up to the size
abbrev pub padded : (size : ℕ) → List ℕ → List ℕ
padded size bytes = bytes ++ replicate (size - length bytes) 0

-- the output of a refused job: one fault line and zeros, or all zeros where the output is small
abbrev pub refused_output : (size : ℕ) → JobFault → List ℕ
refused_output size SmallOutput = replicate size 0
refused_output size (Table inner) = padded size (fault_line (fault_of (Table inner)))
refused_output size (Output inner) = padded size (fault_line (fault_of (Output inner)))
refused_output size (Tray inner) = padded size (fault_line (fault_of (Tray inner)))
refused_output size (Page inner) = padded size (fault_line (fault_of (Page inner)))
refused_output size (Draft inner) = padded size (fault_line (fault_of (Draft inner)))

-- the output after a job
abbrev pub output_after : (size : ℕ) → Result (List ℕ) JobFault → List ℕ
output_after size (Ok bytes) = padded size bytes
output_after size (Err e) = refused_output size e

-- a refusal that has a fault line: of the text or of the output's size, with a line and a byte of at most five digits
abbrev pub Lined : JobFault → Type 0
Lined SmallOutput = ⊥
Lined (Table inner) = Near (fault_of (Table inner))
Lined (Output inner) = Near (fault_of (Output inner))
Lined (Tray inner) = Near (fault_of (Tray inner))
Lined (Page inner) = Near (fault_of (Page inner))
Lined (Draft inner) = Near (fault_of (Draft inner))
