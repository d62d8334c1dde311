-- What each call of a survey answers, and the state that it leaves.
--
--   span, c  the width and the closure of the operator
--   m        the width of the survey
--   before   the state in which the call is made
--   after    the state that it leaves
use Rattle.std.specs.Prelude.{◌≡◌, ℕ, suc, ◌+◌, ◌-◌, ◌^◌, ◌≤◌, cond, Ok, Err, Result, ◌==◌}
use Rattle.fault.specs.Layers.{in_sets}
use Rattle.sets.specs.declared.faults.SetFault.{SetFault}
use Rattle.sets.specs.declared.set.Set.{Set}
use Rattle.sets.specs.Fault.{fault_of}
use Rattle.survey.specs.States.{Answer, FreshAt}
use Rattle.survey.specs.declared.call.Granted.TheVariants.{Listed, Moved}
use Rattle.survey.specs.declared.call.Call.{Call}
use Rattle.survey.specs.declared.call.Call.TheVariants.{Step, Seek, Rewind}
use Rattle.survey.specs.declared.state.State.{State}
use Rattle.survey.specs.declared.state.State.TheVariants.{Fresh, Running, Ended}
use Rattle.survey.specs.declared.survey.Survey.{Survey}
use Rattle.theory.specs.Closures.{LeastClosed}

-- the state once a set is listed: the full set is the end
abbrev pub state_after : (m : ℕ) (set : Set) (serial : ℕ) → State
state_after m set serial = cond (set.word == 2 ^ m - 1) Ended (Running set serial)

-- a set is listed: the least closed one from a mark on, after `count` others
pub record Lists (m : ℕ) (c : ℕ → ℕ) (mark count : ℕ) (set : Set) (serial trials : ℕ) (after : State) : Type 0 where
  pub width : set.width ≡ m
  pub least : LeastClosed m c mark set.word
  pub next : serial ≡ count + 1
  pub tried : trials ≤ m
  pub left : after ≡ state_after m set serial

-- a step is granted
abbrev pub Grants : (m : ℕ) (c : ℕ → ℕ) (mark count : ℕ) → Answer → State → Type 0
Grants m c mark count (Ok (Listed set serial trials)) after = Lists m c mark count set serial trials after
Grants m c mark count (Ok Moved) after = ⊥
Grants m c mark count (Err fault) after = ⊥

-- a call is refused with a number, and the state is as before
abbrev pub Refuses : (number : ℕ) (before : State) → Answer → State → Type 0
Refuses number before (Ok granted) after = ⊥
Refuses number before (Err fault) after = (fault_of fault ≡ in_sets number) × (after ≡ before)

-- the survey begins anew
abbrev pub Begins : (start : ℕ) → Answer → State → Type 0
Begins start answer after = (answer ≡ Ok Moved) × FreshAt start after

-- each call in each state; m is the operator's own width in every survey that was opened
abbrev pub Does : (span m : ℕ) (c : ℕ → ℕ) → Call → (before : State) → Answer → (after : State) → Type 0
Does span m c Step (Fresh start) answer after = m ≡ span → Grants m c start.word 0 answer after
Does span m c Step (Running last serial) answer after = m ≡ span → Grants m c (suc last.word) serial answer after
Does span m c Step Ended answer after = Refuses 14 Ended answer after
Does span m c (Seek set) before answer after =
    (set.width ≡ m → Begins set.word answer after) × ((set.width ≡ m → ⊥) → Refuses 13 before answer after)
Does span m c Rewind before answer after = Begins 0 answer after

-- a survey takes a call: it answers and leaves its state so, and keeps its operator and width
pub record Takes {O : Type 0} (span : O → ℕ) (means : O → ℕ → ℕ) (call : Call) (before : Survey O) (answer : Answer) (after : Survey O) : Type 0 where
  pub does : Does (span before.operator) before.width (means before.operator) call before.state answer after.state
  pub operator : after.operator ≡ before.operator
  pub width : after.width ≡ before.width

-- the answer that a step gives as its result
abbrev pub of_step : Result (Set × ℕ × ℕ) SetFault → Answer
of_step (Ok r) = Ok (Listed r.0 r.1 r.2)
of_step (Err fault) = Err fault

-- the answer that a seek gives as its result
abbrev pub of_seek : Result (Unit {0}) SetFault → Answer
of_seek (Ok r) = Ok Moved
of_seek (Err fault) = Err fault
