-- The rules of a list that count, as implications between words.
--
--   heeded   among the list's first rules, as many as may count, and of the width in question
use Rattle.std.specs.Prelude.{◌≡◌, ℕ, ◌^◌, ◌<◌, cond, ◌⊎◌, List, [], ◌∷◌, take, ◌==◌}
use mathlib.Core.List.Memᴰ
use mathlib.Core.List.{Memᴰ}
use Rattle.std.proofs.Common.{inl, inr}
use Rattle.sets.specs.declared.rule.Rule.{Rule}
use Rattle.std.proofs.lemmas.Bool.{eqb-true, cond_both}
use Rattle.theory.specs.Rules.{Implication, Within}

-- the greatest number of rules that count
abbrev pub max_rules : ℕ
max_rules = 4096

-- a rule as words
abbrev pub implication : Rule → Implication
implication rule = record { premise = rule.premise.word; conclusion = rule.conclusion.word }

-- the rules of width m
abbrev pub of_width : (m : ℕ) → List Rule → List Implication
of_width m [] = []
of_width m (rule ∷ rules) = cond (rule.premise.width == m) (implication rule ∷ of_width m rules) (of_width m rules)

-- the rules that count where sets have m signals
abbrev pub heeded : (m : ℕ) → List Rule → List Implication
heeded m rules = of_width m (take max_rules rules)

-- their conclusions are sets of m signals
pub of_width_within : (m : ℕ) (rules : List Rule) → Within m (of_width m rules)
of_width_within m [] = λ rule p. absurd (Memᴰ.not-nil p)
of_width_within m (r ∷ rules) =
    cond_both (r.premise.width == m) (implication r ∷ of_width m rules) (of_width m rules) (Within m)
    (λ t rule p. first (of_width_within m rules rule) (eqb-true _ _ t) (Memᴰ.cases_cons p)) (λ _. of_width_within m rules)
  where
    first :
        {rule : Implication} → (Memᴰ rule (of_width m rules) → rule.conclusion < 2 ^ m) → r.premise.width ≡ m
        → (rule ≡ implication r) ⊎ Memᴰ rule (of_width m rules) → rule.conclusion < 2 ^ m
    first _ e (inl i) = rw (i, ← e, r.same) r.conclusion.below
    first below _ (inr q) = below q
