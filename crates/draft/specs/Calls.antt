-- What each call of a draft answers, and the rules and the mark that it leaves.
use Rattle.std.specs.Prelude.{◌≡◌, ℕ, List, Ok, Err, Option, Result}
use Rattle.draft.specs.declared.call.DraftGranted.{DraftGranted}
use Rattle.draft.specs.declared.call.DraftGranted.TheVariants.{Advanced, Ready}
use Rattle.draft.specs.declared.call.DraftCall.{DraftCall}
use Rattle.draft.specs.declared.call.DraftCall.TheVariants as call
use Rattle.draft.specs.declared.faults.DraftFault.{DraftFault}
use Rattle.draft.specs.Advances.{Advances, AtFull}
use Rattle.draft.specs.Faults.{fault_of}
use Rattle.fault.specs.Layers.{in_drafts}
use Rattle.sets.specs.declared.rule.Rule.{Rule}
use Rattle.sets.specs.declared.set.Set.{Set}

-- what a draft grants, or why it refuses
abbrev pub DraftAnswer : Type 0
DraftAnswer = Result DraftGranted DraftFault

-- a call from the rules and the mark before it to those after it
abbrev pub Does : (m : ℕ) (c : ℕ → ℕ) (room : ℕ) → DraftCall → (before : List Rule) (mark : Option Set) → DraftAnswer → (after : List Rule) (marked : Option Set) → Type 0
Does m c room call.Advance before mark (Ok (Advanced found)) after marked = Advances m c room before mark (Ok found) after marked
Does m c room call.Advance before mark (Ok Ready) after marked = ⊥
Does m c room call.Advance before mark (Err fault) after marked = Advances m c room before mark (Err fault) after marked
Does m c room call.TryClose before mark (Ok (Advanced found)) after marked = ⊥
Does m c room call.TryClose before mark (Ok Ready) after marked = AtFull m mark × (after ≡ before) × (marked ≡ mark)
Does m c room call.TryClose before mark (Err fault) after marked =
    (AtFull m mark → ⊥) × (fault_of fault ≡ in_drafts 23) × (after ≡ before) × (marked ≡ mark)
