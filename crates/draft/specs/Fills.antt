-- What memory that is filled with the rules of a base holds.
use Rattle.std.specs.Prelude.{◌≡◌, ℕ, ◌^◌, min, List, length, take, drop}
use Rattle.draft.specs.Laws.{implications}
use Rattle.sets.specs.declared.rule.Rule.{Rule}
use Rattle.std.specs.List.{AllByRecursion}
use Rattle.theory.specs.Bases.{base_below}
use Rattle.theory.specs.Rules.{Implication}
use Rattle.tray.specs.Tray.{max_entries}

-- the rules of the base over m signals, as implications, in the lectic order of their premises
abbrev pub whole_base : (m : ℕ) (c : ℕ → ℕ) → List Implication
whole_base m c = base_below m c (2 ^ m)

-- at the front of the memory stand the rules of the base over m signals that fit, and the rest is as before
pub record Filled (m : ℕ) (c : ℕ → ℕ) (before after : List Rule) : Type 0 where
  pub kept : List Rule
  pub front : take (length kept) after ≡ kept
  pub rest : drop (length kept) after ≡ drop (length kept) before
  pub rules : implications kept ≡ take (min (length before) max_entries) (whole_base m c)
  pub widths : AllByRecursion (λ r. r.premise.width ≡ m) kept
