-- The test of the rows decides whether the implication holds in them.
use Rattle.std.proofs.Common.{◌≡◌, ℕ, Bool, Decides, true, false, not, ◌⊎◌, List, [], ◌∷◌, sym, refl, ◌∙◌, subst, inl, inr}
use mathlib.Core.List.Memᴰ
use mathlib.Core.List.{Memᴰ}
use lib.Bits.{bit_and}
use Rattle.std.proofs.lemmas.Bool.{and_cases, and_parts, cases_Bool, cond-true, cond-false, eq-eqb, eqb-true, not-false, not-true, true≢false}
use Rattle.query.specs.Rows.{breaks, contains, holds_in_rows}
use Rattle.theory.specs.Rows.{Holds}
use Rattle.theory.specs.Words.{Sub}

contains_sub : (row set : ℕ) → contains row set ≡ true → Sub set row
contains_sub row set e = record { same = eqb-true (bit_and set row) set e }

sub_contains : (row set : ℕ) → Sub set row → contains row set ≡ true
sub_contains row set s = eq-eqb (bit_and set row) set s.same

pub tested_holds : (rows : List ℕ) (p q : ℕ) → holds_in_rows rows p q ≡ true → Holds rows p q
tested_holds [] p q e r mem s = absurd (Memᴰ.not-nil mem)
tested_holds (row ∷ rows) p q e r mem s = at (cases_Bool (breaks row p q)) (tested_holds rows p q)
  where
    kept : (contains row p ≡ false) ⊎ (not (contains row q) ≡ false) → Sub p row → Sub q row
    kept (inl n) t = absurd (true≢false (sym (sub_contains row p t) ∙ n))
    kept (inr n) t = contains_sub row q (not-false _ n)

    at : (breaks row p q ≡ true) ⊎ (breaks row p q ≡ false) → (holds_in_rows rows p q ≡ true → Holds rows p q) → Sub q r
    at (inl b) f = absurd (true≢false (sym e ∙ cond-true _ _ _ b))
    at (inr b) f = each (Memᴰ.cases_cons mem)
      where
        each : (r ≡ row) ⊎ Memᴰ r rows → Sub q r
        each (inl same) = subst (Sub q) (sym same) (kept (and_cases (contains row p) (not (contains row q)) b) (subst (Sub p) same s))
        each (inr rest) = f (sym (cond-false _ _ _ b) ∙ e) r rest s

pub holds_tested : (rows : List ℕ) (p q : ℕ) → Holds rows p q → holds_in_rows rows p q ≡ true
holds_tested [] p q h = refl
holds_tested (row ∷ rows) p q h = at (cases_Bool (breaks row p q)) (holds_tested rows p q (λ r mem s. h r (Memᴰ.tail mem) s))
  where
    at : (breaks row p q ≡ true) ⊎ (breaks row p q ≡ false) → holds_in_rows rows p q ≡ true → holds_in_rows (row ∷ rows) p q ≡ true
    at (inl b) e =
        let parts = and_parts (contains row p) (not (contains row q)) b in
        let in_row = sub_contains row q (h row (Memᴰ.head refl) (contains_sub row p parts.0)) in
        absurd (true≢false (sym in_row ∙ not-true _ parts.1))
    at (inr b) e = cond-false _ _ _ b ∙ e

-- so whatever decides whether it holds answers as the test does
pub held : (rows : List ℕ) (p q : ℕ) (r : Bool) → Decides r (Holds rows p q) → r ≡ holds_in_rows rows p q
held rows p q true told = sym (holds_tested rows p q (told.0 refl))
held rows p q false told = at (cases_Bool (holds_in_rows rows p q))
  where
    at : (holds_in_rows rows p q ≡ true) ⊎ (holds_in_rows rows p q ≡ false) → false ≡ holds_in_rows rows p q
    at (inl t) = absurd (true≢false (sym (told.1 (tested_holds rows p q t))))
    at (inr f) = sym f
