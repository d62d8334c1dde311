-- What a job that lists the closed sets of a table puts into its output.
--
--   part    what one step of a job puts: its bytes, or why the job is refused there
--   at      the position at which a part stands: behind the parts before it
use Rattle.std.specs.Prelude.{◌≡◌, ℕ, ◌^◌, min, true, cond, List, length, Ok, Err, Result, nat_le, nat_lt}
use Rattle.operators.specs.TableClosure.{signals_of}
use Rattle.page.specs.Pages.{closed_head, foot, set_line_of, signal_names}
use Rattle.page.specs.declared.faults.PageFault.{PageFault}
use Rattle.sets.specs.declared.set.Set.{Set}
use Rattle.survey.specs.Fills.{Filled}
use Rattle.table.specs.declared.faults.TableFault.{TableFault}
use Rattle.table.specs.declared.place.Place.{Place}
use Rattle.table.specs.Reading.{Contents, read_of}
use Rattle.theory.specs.Closures.{closed_below}
use Rattle.theory.specs.Rows.{common}
use Rattle.tray.specs.declared.faults.TrayFault.TheVariants.{Full as NoPlace}
use Rattle.tray.specs.Tray.{max_entries}
use Rattle.job.specs.declared.faults.JobFault.{JobFault}
use Rattle.job.specs.declared.faults.JobFault.TheVariants.{SmallOutput, Table, Tray, Page}
use Rattle.job.specs.Lists.{Showing, lines_of, page_at}
use Rattle.job.specs.Reports.{min_output}

-- the closed sets of a table, as words in the lectic order
abbrev pub closed_words : List ℕ → List Place → List ℕ
closed_words words places = closed_below (common (signals_of words places) words) (2 ^ signals_of words places)

-- the line of a set, by its word
abbrev pub shown_word : Showing ℕ
shown_word word names place = record { same_width = true; bytes = set_line_of names word place }

-- the lines of sets, from a place on
abbrev pub lines_of_sets : (names : List (List ℕ)) → (place : ℕ) → List ℕ → List ℕ
lines_of_sets names place ws = lines_of shown_word names place ws

-- a fault of a page, inside a fault of the job
abbrev pub in_job : Result (List ℕ) PageFault → Result (List ℕ) JobFault
in_job (Ok bytes) = Ok bytes
in_job (Err e) = Err (Page e)

-- a page of so many entries: the tray must have place for them, and then the output for the page
abbrev pub part_of : (count room : ℕ) → JobFault → Result (List ℕ) PageFault → Result (List ℕ) JobFault
part_of count room fault page = cond (nat_le count room) (in_job page) (Err fault)

-- the closed page of a table at a position, whose operator has the letter G, the byte 71
abbrev pub closed_part : (text words : List ℕ) → List Place → (set_room at size : ℕ) → Result (List ℕ) JobFault
closed_part text words places set_room at size =
    part_of (length (closed_words words places)) (min set_room max_entries) (Tray NoPlace)
    (page_at at (closed_head 71 (signals_of words places)) (lines_of_sets (signal_names text words places) 0 (closed_words words places)) (foot (length (closed_words words places))) size)

-- the closed page of what was read, at the front of the output
abbrev pub listed : (text : List ℕ) (set_room size : ℕ) → Result Contents TableFault → Result (List ℕ) JobFault
listed text set_room size (Ok c) = closed_part text c.words c.places set_room 0 size
listed text set_room size (Err e) = Err (Table e)

-- the bytes of the job's page, or why it is refused
abbrev pub closed_job_of : (text : List ℕ) (row_room place_room set_room size : ℕ) → Result (List ℕ) JobFault
closed_job_of text row_room place_room set_room size = cond (nat_lt size min_output) (Err SmallOutput) (listed text set_room size (read_of text row_room place_room))

-- the memory of the sets after reading: filled, or as before where the text was refused
abbrev pub SetsAfter : Result Contents TableFault → (before after : List Set) → Type 0
SetsAfter (Ok c) before after = Filled (signals_of c.words c.places) (common (signals_of c.words c.places) c.words) before after
SetsAfter (Err e) before after = after ≡ before
