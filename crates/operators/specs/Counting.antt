-- What LinClosure knows of the rules while it goes through them.
--
--   done      the set of signals that the counts take into account
--   missing   of a rule: how many signals of its premise are not done
use Rattle.std.specs.Prelude.{◌≡◌, ℕ, ◌+◌, ◌<◌, ◌≤◌, List, bit_and, count_ones, slice_index, slice_index_or}
use Rattle.sets.specs.declared.rule.Rule.{Rule}
use Rattle.theory.specs.Rules.{KeepsAll, inside}
use Rattle.theory.specs.Words.{Sub}
use Rattle.operators.specs.Heeded.{of_width}

-- the count is that of the rule's missing signals, and where none is missing the conclusion lies inside the word
pub record Counted (rule : Rule) (missing done word : ℕ) : Type 0 where
  pub count : missing + count_ones (bit_and rule.premise.word done) ≡ count_ones rule.premise.word
  pub fired : Sub rule.premise.word done → Sub rule.conclusion.word word

-- so it is for each rule of width m at a place not before `from` and before `upto`
abbrev pub AllCounted : (m : ℕ) (rules : List Rule) (missing : List ℕ) (from upto done word : ℕ) → Type 0
AllCounted m rules missing from upto done word =
    (i : ℕ) (rule : Rule) → from ≤ i → i < upto → rule ≡ slice_index_or rules i rule → rule.premise.width ≡ m
    → Counted rule (slice_index missing i) done word

-- y lies inside each set that contains x and keeps the rules of width m
abbrev pub Follows : (m : ℕ) (rules : List Rule) (x y : ℕ) → Type 0
Follows m rules x y = (z : ℕ) → KeepsAll inside (of_width m rules) z → Sub x z → Sub y z
