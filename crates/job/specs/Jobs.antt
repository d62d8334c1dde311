-- What a job puts into its output: the pages of the table, one after another, and the answers to the queries behind it.
use Rattle.std.specs.Prelude.{◌≡◌, ℕ, ◌+◌, ◌^◌, min, true, cond, List, ◌++◌, length, drop, Ok, Err, Result, nat_lt}
use Rattle.draft.specs.Fills as rules
use Rattle.draft.specs.declared.faults.DraftFault.TheVariants.{Tray as OfTray}
use Rattle.operators.specs.TableClosure.{signals_of}
use Rattle.output.specs.declared.output.Output.{Output}
use Rattle.output.specs.Puts.{put_at}
use Rattle.page.specs.Pages.{foot, rule_line_of, rules_head, signal_names}
use Rattle.sets.specs.declared.rule.Rule.{Rule}
use Rattle.sets.specs.declared.set.Set.{Set}
use Rattle.table.specs.declared.faults.TableFault.{TableFault}
use Rattle.table.specs.declared.place.Place.{Place}
use Rattle.table.specs.Reading.{Contents, read_of}
use Rattle.theory.specs.Bases.{base_below}
use Rattle.theory.specs.Rows.{common}
use Rattle.theory.specs.Rules.{Implication}
use Rattle.tray.specs.declared.faults.TrayFault.TheVariants.{Full as NoPlace}
use Rattle.tray.specs.Tray.{max_entries}
use Rattle.job.specs.declared.faults.JobFault.{JobFault}
use Rattle.job.specs.declared.faults.JobFault.TheVariants.{Draft, SmallOutput, Table}
use Rattle.job.specs.Closed.{closed_part, part_of}
use Rattle.job.specs.Lists.{Showing, lines_of, page_at}
use Rattle.job.specs.Replies.{answers_of, answers_part}
use Rattle.job.specs.Reports.{min_output}
use Rattle.view.specs.Shown.{signal_count}
use Rattle.view.specs.declared.table_view.TableView.{TableView}

-- ---- what the pages show

-- the base of a table: the rules of its pseudo-closed sets, in the lectic order
abbrev pub base_rules : List ℕ → List Place → List Implication
base_rules words places = base_below (signals_of words places) (common (signals_of words places) words) (2 ^ signals_of words places)

-- the line of a rule, by the words of its sets
abbrev pub shown_implication : Showing Implication
shown_implication rule names place = record { same_width = true; bytes = rule_line_of names rule.premise rule.conclusion }

-- the lines of rules
abbrev pub lines_of_rules : (names : List (List ℕ)) → List Implication → List ℕ
lines_of_rules names rs = lines_of shown_implication names 0 rs

-- ---- parts

-- the rules page of a table at a position
abbrev pub rules_part : (text words : List ℕ) → List Place → (rule_room at size : ℕ) → Result (List ℕ) JobFault
rules_part text words places rule_room at size =
    part_of (length (base_rules words places)) (min rule_room max_entries) (Draft (OfTray NoPlace))
    (page_at at (rules_head (signals_of words places)) (lines_of_rules (signal_names text words places) (base_rules words places)) (foot (length (base_rules words places))) size)

-- the pages of the table that a view shows
abbrev pub closed_page : TableView → (set_room at size : ℕ) → Result (List ℕ) JobFault
closed_page view = closed_part view.text.now view.words.now view.places.now

abbrev pub rules_page : TableView → (rule_room at size : ℕ) → Result (List ℕ) JobFault
rules_page view = rules_part view.text.now view.words.now view.places.now

-- the closure of its rows
abbrev pub common_in : TableView → ℕ → ℕ
common_in view = common (signal_count view) view.words.now

-- what is answered of a part: the position behind it
abbrev pub behind : (at : ℕ) → Result (List ℕ) JobFault → Result ℕ JobFault
behind at (Ok bytes) = Ok (at + length bytes)
behind at (Err e) = Err e

-- the part stands in the output, where it is granted
abbrev pub Put : (at : ℕ) → Result (List ℕ) JobFault → (before after : List ℕ) → Type 0
Put at (Ok bytes) before after = after ≡ put_at at bytes before
Put at (Err e) before after = Unit {0}

-- what a part is answered
abbrev pub done : Result (List ℕ) JobFault → Result Unit JobFault
done (Ok bytes) = Ok tt
done (Err e) = Err e

-- the output ends behind the part, where it is granted
abbrev pub EndsBehind : (at : ℕ) → Result (List ℕ) JobFault → (end : ℕ) → Type 0
EndsBehind at (Ok bytes) end = end ≡ at + length bytes
EndsBehind at (Err e) end = Unit {0}

-- the part is put behind what was put
pub record PutsPart (part : Result (List ℕ) JobFault) (before : Output) (r : Result Unit JobFault) (after : Output) : Type 0 where
  pub answer : r ≡ done part
  pub output : Put before.at part before.bytes.now after.bytes.now
  pub at : EndsBehind before.at part after.at
  pub lent : after.bytes.ghost_name ≡ before.bytes.ghost_name

-- ---- the whole job

-- bytes before those of a part
abbrev pub onto : List ℕ → Result (List ℕ) JobFault → Result (List ℕ) JobFault
onto bytes (Ok more) = Ok (bytes ++ more)
onto bytes (Err e) = Err e

-- a part, and behind it the part that its end leads to
abbrev pub followed : (at : ℕ) → Result (List ℕ) JobFault → (ℕ → Result (List ℕ) JobFault) → Result (List ℕ) JobFault
followed at (Ok bytes) next = onto bytes (next (at + length bytes))
followed at (Err e) next = Err e

-- the line of a job on which the first query stands: behind five lines of the head, the names and the rows
abbrev pub first_line : (words : List ℕ) → List Place → ℕ
first_line words places = 6 + (length places + length words)

-- the sizes of what is lent for the entries, and of the output
pub record Rooms : Type 0 where
  pub sets : ℕ
  pub rules : ℕ
  pub size : ℕ

-- the sizes of these
abbrev pub rooms_of : List Set → List Rule → (out : List ℕ) → Rooms
rooms_of sets rules out = record { sets = length sets; rules = length rules; size = length out }

-- the parts of the job on a table in parts, of which `queries` is the text behind it: the closed page, the rules page, the answers
abbrev pub parts_of : Rooms → (text words : List ℕ) → List Place → (queries : List ℕ) → Result (List ℕ) JobFault
parts_of rooms text words places queries =
    followed 0 (closed_part text words places rooms.sets 0 rooms.size) (λ at.
    followed at (rules_part text words places rooms.rules at rooms.size) (λ at.
    answers_part at (answers_of (signal_names text words places) words (first_line words places) queries) rooms.size))

-- the same of the table that a view shows
abbrev pub parts_on : Rooms → TableView → (queries : List ℕ) → Result (List ℕ) JobFault
parts_on rooms view queries = parts_of rooms view.text.now view.words.now view.places.now queries

-- the same of what was read
abbrev pub read_parts : Rooms → (text : List ℕ) → Result Contents TableFault → Result (List ℕ) JobFault
read_parts rooms text (Ok c) = parts_of rooms text c.words c.places (drop c.bytes text)
read_parts rooms text (Err e) = Err (Table e)

-- the bytes of a job's output, or why it is refused: a small output first of all
abbrev pub whole_job : Rooms → (text : List ℕ) (row_room place_room : ℕ) → Result (List ℕ) JobFault
whole_job rooms text row_room place_room = cond (nat_lt rooms.size min_output) (Err SmallOutput) (read_parts rooms text (read_of text row_room place_room))

-- ---- the memory of the entries afterwards

-- the rules: filled where the part before them was put
abbrev pub RulesReached : (m : ℕ) (c : ℕ → ℕ) → Result (List ℕ) JobFault → (before after : List Rule) → Type 0
RulesReached m c (Ok bytes) before after = rules.Filled m c before after
RulesReached m c (Err e) before after = after ≡ before

-- the same of what was read
abbrev pub RulesAfter : Rooms → (text : List ℕ) → Result Contents TableFault → (before after : List Rule) → Type 0
RulesAfter rooms text (Ok c) before after =
    RulesReached (signals_of c.words c.places) (common (signals_of c.words c.places) c.words) (closed_part text c.words c.places rooms.sets 0 rooms.size) before after
RulesAfter rooms text (Err e) before after = after ≡ before
