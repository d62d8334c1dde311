-- What memory that is filled with closed sets holds.
use Rattle.std.specs.Prelude.{◌≡◌, ℕ, ◌^◌, min, List, map, length, take, drop}
use Rattle.sets.specs.declared.set.Set.{Set}
use Rattle.std.specs.List.{AllByRecursion}
use Rattle.theory.specs.Closures.{closed_below}
use Rattle.tray.specs.Tray.{max_entries}

-- the words of the sets
abbrev pub words_of : List Set → List ℕ
words_of sets = map (λ s. s.word) sets

-- the words of all closed sets of m signals, in the lectic order
abbrev pub all_closed : (m : ℕ) (c : ℕ → ℕ) → List ℕ
all_closed m c = closed_below c (2 ^ m)

-- at the front of the memory stand the closed sets of m signals that fit, and the rest is as before
pub record Filled (m : ℕ) (c : ℕ → ℕ) (before after : List Set) : Type 0 where
  pub kept : List Set
  pub front : take (length kept) after ≡ kept
  pub rest : drop (length kept) after ≡ drop (length kept) before
  pub words : words_of kept ≡ take (min (length before) max_entries) (all_closed m c)
  pub widths : AllByRecursion (λ s. s.width ≡ m) kept
