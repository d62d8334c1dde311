-- Going through the rules that count, one after the other.
use Rattle.std.proofs.Common.{◌≡◌, ℕ, ◌+◌, ◌<◌, Bool, true, false, cond, eqb, List, [], ◌∷◌, ◌++◌, length, get_or, take, sym, refl, ap, ◌∙◌}
use native.Mathlib.Decide.{ℕ_discrete}
use lib.Bits.{bit_and, bit_or}
use Rattle.sets.specs.declared.rule.Rule.{Rule}
use Rattle.std.proofs.lemmas.List.{take_more, append-nil}
use Rattle.std.proofs.lemmas.Bool.{eq-eqb, ne_eqb, cond-true, cond-false}
use Rattle.theory.specs.Rules.{Implication, Trigger, proper, Fires, fire, pass}
use Rattle.theory.proofs.Rules.{pass_push, fire_in, fire_out}
use Rattle.operators.specs.Heeded.{implication, of_width}

-- ---- the rules of a width, list by list

cond_append :
    (b : Bool) (x : Implication) (xs ys zs : List Implication) → ys ≡ xs ++ zs → cond b (x ∷ ys) ys ≡ cond b (x ∷ xs) xs ++ zs
cond_append true x xs ys zs e = ap (λ l. x ∷ l) e
cond_append false x xs ys zs e = e

pub of_width_append : (m : ℕ) (rules more : List Rule) → of_width m (rules ++ more) ≡ of_width m rules ++ of_width m more
of_width_append m [] more = refl
of_width_append m (r ∷ rules) more =
    cond_append (eqb r.premise.width m) (implication r) (of_width m rules) (of_width m (rules ++ more)) (of_width m more)
    (of_width_append m rules more)

-- ---- one rule more

module _ (m : ℕ) (rules : List Rule) (i : ℕ) (rule : Rule) (lt : i < length rules) (is : rule ≡ get_or rules i rule) where
  more : of_width m (take (i + 1) rules) ≡ of_width m (take i rules) ++ of_width m (rule ∷ [])
  more =
      ap (of_width m) (take_more rules i rule lt ∙ ap (λ r. take i rules ++ r ∷ []) (sym is)) ∙ of_width_append m (take i rules) (rule ∷ [])

  -- one of the width
  pub of_width_in : rule.premise.width ≡ m → of_width m (take (i + 1) rules) ≡ of_width m (take i rules) ++ implication rule ∷ []
  of_width_in e =
      more ∙ ap (λ l. of_width m (take i rules) ++ l) (cond-true (eqb rule.premise.width m) (implication rule ∷ []) [] (eq-eqb _ _ e))

  -- one of another
  pub of_width_out : (rule.premise.width ≡ m → ⊥) → of_width m (take (i + 1) rules) ≡ of_width m (take i rules)
  of_width_out n =
      more ∙ ap (λ l. of_width m (take i rules) ++ l) (cond-false (eqb rule.premise.width m) (implication rule ∷ []) [] (ne_eqb _ _ n))
      ∙ append-nil (of_width m (take i rules))

  -- under a trigger, from the word y that the rules so far gave
  module _ (t : Trigger) (x y : ℕ) (so_far : y ≡ pass t (of_width m (take i rules)) x) where
    step : rule.premise.width ≡ m → pass t (of_width m (take (i + 1) rules)) x ≡ fire t (implication rule) y
    step e =
        ap (λ l. pass t l x) (of_width_in e) ∙ pass_push t (of_width m (take i rules)) (implication rule) x
        ∙ ap (fire t (implication rule)) (sym so_far)

    -- a rule of the width that fires
    pub pass_in :
        rule.premise.width ≡ m → Fires t rule.premise.word y → bit_or y rule.conclusion.word ≡ pass t (of_width m (take (i + 1) rules)) x
    pass_in e f = sym (step e ∙ fire_in t (implication rule) y f)

    -- any other
    pub pass_out :
        (rule.premise.width ≡ m → Fires t rule.premise.word y → ⊥) → y ≡ pass t (of_width m (take (i + 1) rules)) x
    pass_out n = at (ℕ_discrete rule.premise.width m)
      where
        at : Dec (rule.premise.width ≡ m) → y ≡ pass t (of_width m (take (i + 1) rules)) x
        at (yes e) = sym (step e ∙ fire_out t (implication rule) y (n e))
        at (no k) = so_far ∙ sym (ap (λ l. pass t l x) (of_width_out k))

  -- what the code reads of a rule, and its tests of a proper part
  module _
      (x y needed span : ℕ) (so_far : y ≡ pass proper (of_width m (take i rules)) x)
      (needs : needed ≡ rule.premise.word) (spans : span ≡ rule.premise.width) where
    pub proper_in :
        {ends : ℕ} → ends ≡ rule.conclusion.word → bit_and needed y ≡ needed → (needed ≡ y → ⊥) → span ≡ m
        → bit_or y ends ≡ pass proper (of_width m (take (i + 1) rules)) x
    proper_in {ends} c e n w =
        ap (bit_or y) c
        ∙ pass_in proper x y so_far (sym spans ∙ w) record { inside = record { same = rw (← needs) e }; differs = λ k. n (needs ∙ k) }

    pub proper_out :
        (span ≡ m → bit_and needed y ≡ needed → (needed ≡ y → ⊥) → ⊥) → y ≡ pass proper (of_width m (take (i + 1) rules)) x
    proper_out n =
        pass_out proper x y so_far
        (λ w f. n (spans ∙ w) (rw needs f.inside.same) (λ k. f.differs (sym needs ∙ k)))
