-- What an advance answers and leaves.
--
--   m, c     the width and the closure of the operator
--   room     the number of rules that the tray has place for
--   mark     the set that the latest advance took, if any
--   taken    the set that an advance takes: the least one after the mark that is closed under S over the rules
use Rattle.std.specs.Prelude.{◌≡◌, ℕ, suc, ◌-◌, ◌^◌, ◌<◌, Bool, false, ◌&&◌, ◌≢◌, List, [], ◌∷◌, ◌++◌, length, Some, None, Ok, Err, Option, Result, ◌==◌}
use Rattle.draft.specs.declared.call.Advance.{Advance}
use Rattle.draft.specs.declared.call.Advance.TheVariants as found
use Rattle.draft.specs.declared.faults.DraftFault.{DraftFault}
use Rattle.draft.specs.declared.faults.DraftFault.TheVariants as refusal
use Rattle.draft.specs.Faults.{fault_of}
use Rattle.fault.specs.Layers.{in_sets, in_trays}
use Rattle.operators.specs.Heeded.{heeded}
use Rattle.sets.specs.declared.rule.Rule.{Rule}
use Rattle.sets.specs.declared.set.Set.{Set}
use Rattle.theory.specs.Closures.{Closed, LeastClosed}
use Rattle.theory.specs.Rules.{close_s}

-- the first word after the mark, or of all words without a mark
abbrev pub sought_from : Option Set → ℕ
sought_from None = 0
sought_from (Some mark) = suc mark.word

-- the mark, if any, is a set of m signals
abbrev pub OfWidth : (m : ℕ) → Option Set → Type 0
OfWidth m None = Unit {0}
OfWidth m (Some mark) = mark.width ≡ m

-- the mark is the full set of m signals
abbrev pub AtFull : (m : ℕ) → Option Set → Type 0
AtFull m None = ⊥
AtFull m (Some mark) = (mark.width ≡ m) × (mark.word ≡ 2 ^ m - 1)

-- the test of that
abbrev pub at_full : (m : ℕ) → Option Set → Bool
at_full m None = false
at_full m (Some mark) = mark.width == m && mark.word == 2 ^ m - 1

-- the set is the least one after the mark that is closed under S over the rules
pub record Taken (m : ℕ) (rules : List Rule) (mark : Option Set) (set : Set) : Type 0 where
  pub of_width : OfWidth m mark
  pub width : set.width ≡ m
  pub least : LeastClosed m (close_s m (heeded m rules)) (sought_from mark) set.word

-- the next set to take, or why there is none
abbrev pub Next : (m : ℕ) (rules : List Rule) (mark : Option Set) → Result Set DraftFault → Type 0
Next m rules mark (Ok set) = Taken m rules mark set
Next m rules mark (Err (refusal.Set inner)) = (fault_of (refusal.Set inner) ≡ in_sets 13) × (OfWidth m mark → ⊥)
Next m rules mark (Err (refusal.Tray inner)) = ⊥
Next m rules mark (Err refusal.AtEnd) = AtFull m mark
Next m rules mark (Err refusal.NotAtEnd) = ⊥

-- the set taken is closed: it becomes the mark, and the rules stay
pub record Passes (m : ℕ) (c : ℕ → ℕ) (before : List Rule) (mark : Option Set) (after : List Rule) (marked : Option Set) : Type 0 where
  pub set : Set
  pub taken : Taken m before mark set
  pub closed : Closed c set.word
  pub rules : after ≡ before
  pub moved : marked ≡ Some set

-- the set taken is not closed: it becomes the mark, and the rule from it to its closure is put behind the others
pub record Adds (m : ℕ) (c : ℕ → ℕ) (room : ℕ) (before : List Rule) (mark : Option Set) (after : List Rule) (marked : Option Set) : Type 0 where
  pub set : Set
  pub rule : Rule
  pub taken : Taken m before mark set
  pub not_closed : c set.word ≢ set.word
  pub place : length before < room
  pub premise : rule.premise ≡ set
  pub conclusion : rule.conclusion.word ≡ c set.word
  pub rules : after ≡ before ++ rule ∷ []
  pub moved : marked ≡ Some set

-- the set taken is not closed, and its rule has no place
pub record Crowded (m : ℕ) (c : ℕ → ℕ) (room : ℕ) (rules : List Rule) (mark : Option Set) : Type 0 where
  pub set : Set
  pub taken : Taken m rules mark set
  pub not_closed : c set.word ≢ set.word
  pub full : length rules ≡ room

-- why an advance is refused
abbrev pub Stops : (m : ℕ) (c : ℕ → ℕ) (room : ℕ) (rules : List Rule) (mark : Option Set) → DraftFault → Type 0
Stops m c room rules mark (refusal.Set inner) = (fault_of (refusal.Set inner) ≡ in_sets 13) × (OfWidth m mark → ⊥)
Stops m c room rules mark (refusal.Tray inner) = (fault_of (refusal.Tray inner) ≡ in_trays 21) × Crowded m c room rules mark
Stops m c room rules mark refusal.AtEnd = AtFull m mark
Stops m c room rules mark refusal.NotAtEnd = ⊥

-- an advance from the rules and the mark before it to those after it
abbrev pub Advances : (m : ℕ) (c : ℕ → ℕ) (room : ℕ) (before : List Rule) (mark : Option Set) → Result Advance DraftFault → (after : List Rule) (marked : Option Set) → Type 0
Advances m c room before mark (Ok found.Closed) after marked = Passes m c before mark after marked
Advances m c room before mark (Ok found.Rule) after marked = Adds m c room before mark after marked
Advances m c room before mark (Err fault) after marked = Stops m c room before mark fault × (after ≡ before) × (marked ≡ mark)
