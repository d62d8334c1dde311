-- Every refusal of a job, but that of a small output, has a fault line.
use Rattle.std.proofs.Common.{◌≡◌, ℕ, ◌+◌, Bool, true, false, cond, List, length, drop, IfErr, Ok, Err, Result, sym, refl, subst, arith, MatchResult}
use Rattle.draft.specs.declared.faults.DraftFault.TheVariants.{Tray as OfTray}
use Rattle.fault.specs.Layers.{Near}
use Rattle.output.specs.declared.faults.OutputFault.TheVariants.{Full}
use Rattle.page.specs.declared.faults.PageFault.{PageFault}
use Rattle.page.specs.declared.faults.PageFault.TheVariants.{Output as OfOutput}
use Rattle.table.specs.declared.faults.TableFault.{TableFault}
use Rattle.table.specs.declared.place.Place.{Place}
use Rattle.table.specs.Faults as tables
use Rattle.table.specs.Reading.{Contents, answer_of, read_of}
use Rattle.table.proofs.NearFaults.{near_answered}
use Rattle.tray.specs.declared.faults.TrayFault.TheVariants.{Full as NoPlace}
use Rattle.job.specs.declared.faults.JobFault.{JobFault}
use Rattle.job.specs.declared.faults.JobFault.TheVariants.{Draft, Output, Tray}
use Rattle.job.specs.Closed.{closed_part, in_job, listed}
use Rattle.job.specs.Jobs.{Rooms, behind, followed, onto, parts_of, read_parts, rules_part}
use Rattle.job.specs.Reports.{Lined, fitted}

-- bytes, or a refusal that has a fault line
abbrev pub LinedOr : Result (List ℕ) JobFault → Type 0
LinedOr p = MatchResult p (λ bytes. Unit {0}) Lined

-- what is answered of it
pub lined_behind : (at : ℕ) (p : Result (List ℕ) JobFault) (r : Result ℕ JobFault) → LinedOr p → r ≡ behind at p → IfErr r (λ e. Lined e)
lined_behind at p r lined is = subst (λ x. IfErr x (λ e. Lined e)) (sym is) (of p lined)
  where
    of : (p : Result (List ℕ) JobFault) → LinedOr p → IfErr (behind at p) (λ e. Lined e)
    of (Ok bytes) h = tt
    of (Err e) h = h

-- ---- each part of a job

fitting : (test : Bool) (bytes : List ℕ) → LinedOr (cond test (Ok bytes) (Err (Output Full)))
fitting true bytes = tt
fitting false bytes = record { line = omega arith; byte = omega arith }

paged : (test : Bool) (bytes : List ℕ) → LinedOr (in_job (cond test (Ok bytes) (Err (OfOutput Full))))
paged true bytes = tt
paged false bytes = record { line = omega arith; byte = omega arith }

part : (test : Bool) (page : Result (List ℕ) PageFault) (fault : JobFault) → LinedOr (in_job page) → Lined fault → LinedOr (cond test (in_job page) (Err fault))
part true page fault h lined = h
part false page fault h lined = lined

lined_closed : (text words : List ℕ) (places : List Place) (room at size : ℕ) → LinedOr (closed_part text words places room at size)
lined_closed text words places room at size = part _ _ (Tray NoPlace) (paged _ _) (record { line = omega arith; byte = omega arith })

lined_rules : (text words : List ℕ) (places : List Place) (room at size : ℕ) → LinedOr (rules_part text words places room at size)
lined_rules text words places room at size = part _ _ (Draft (OfTray NoPlace)) (paged _ _) (record { line = omega arith; byte = omega arith })

lined_onto : (bytes : List ℕ) (p : Result (List ℕ) JobFault) → LinedOr p → LinedOr (onto bytes p)
lined_onto bytes (Ok more) h = h
lined_onto bytes (Err e) h = h

lined_followed : (at : ℕ) (p : Result (List ℕ) JobFault) (next : ℕ → Result (List ℕ) JobFault) → LinedOr p → ((n : ℕ) → LinedOr (next n)) → LinedOr (followed at p next)
lined_followed at (Ok bytes) next h more = lined_onto bytes (next (at + length bytes)) (more (at + length bytes))
lined_followed at (Err e) next h more = h

lined_parts : (rooms : Rooms) (text words : List ℕ) (places : List Place) (queries : List ℕ) → LinedOr (parts_of rooms text words places queries)
lined_parts rooms text words places queries =
    lined_followed 0 _ _ (lined_closed text words places rooms.sets 0 rooms.size) (λ at.
    lined_followed at _ _ (lined_rules text words places rooms.rules at rooms.size) (λ next. fitting _ _))

-- ---- what was read

module _ (text : List ℕ) (row_room place_room : ℕ) where
  near : IfErr (answer_of (read_of text row_room place_room)) (λ e. Near (tables.fault_of e))
  near = near_answered text row_room place_room _ refl

  pub lined_fitted : (size : ℕ) → LinedOr (fitted text size (read_of text row_room place_room))
  lined_fitted size = of (read_of text row_room place_room) near
    where
      of : (r : Result Contents TableFault) → IfErr (answer_of r) (λ e. Near (tables.fault_of e)) → LinedOr (fitted text size r)
      of (Ok c) h = fitting _ _
      of (Err e) h = h

  pub lined_listed : (room size : ℕ) → LinedOr (listed text room size (read_of text row_room place_room))
  lined_listed room size = of (read_of text row_room place_room) near
    where
      of : (r : Result Contents TableFault) → IfErr (answer_of r) (λ e. Near (tables.fault_of e)) → LinedOr (listed text room size r)
      of (Ok c) h = lined_closed text c.words c.places room 0 size
      of (Err e) h = h

  pub lined_job : (rooms : Rooms) → LinedOr (read_parts rooms text (read_of text row_room place_room))
  lined_job rooms = of (read_of text row_room place_room) near
    where
      of : (r : Result Contents TableFault) → IfErr (answer_of r) (λ e. Near (tables.fault_of e)) → LinedOr (read_parts rooms text r)
      of (Ok c) h = lined_parts rooms text c.words c.places (drop c.bytes text)
      of (Err e) h = h
