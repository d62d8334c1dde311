-- A set has as many signals as its word has ones.
use Rattle.std.proofs.Common.{◌≡◌, ℕ, suc, ◌+◌, ◌-◌, ◌/◌, ◌%◌, ◌^◌, ◌<◌, true, false, ◌⊎◌, eqb, List, [], ◌∷◌, length, sym, ap, ◌∙◌, inl, inr, arith}
use Rattle.std.specs.Prelude.{count_ones}
use lib.Count.{ones_cat, ones_step}
use Rattle.std.proofs.Math.Nat.{mod-eq_of_lt, mod-lt}
use Rattle.std.proofs.lemmas.Bool.{cases_Bool, cond-false, cond-true, eqb-true, eqb-false}
use Rattle.std.proofs.lemmas.Nat.{mod-pow-add, ones_le_self, pow_pos}
use Rattle.page.specs.Pages.{chosen, chosen_from}
use Rattle.theory.specs.Words.{bit_of}

one_digit : (b : ℕ) → b < 2 → count_ones b ≡ b
one_digit b lt = omega (arith, ones_step b, ones_le_self (b / 2))

-- one bit more on top
top_bit : (k word : ℕ) → count_ones (word % 2 ^ suc k) ≡ word / 2 ^ k % 2 + count_ones (word % 2 ^ k)
top_bit k word =
    let b = word / 2 ^ k % 2 in
    let r = word % 2 ^ k in
    let next : suc k ≡ 1 + k = omega arith in
    let small : r < 2 ^ k = mod-lt word {m = 2 ^ k} (pow_pos k) in
    ap (λ i. count_ones (word % 2 ^ i)) next ∙ ap count_ones (mod-pow-add word 1 k) ∙ ones_cat k b r small ∙ ap (λ n. n + count_ones r) (one_digit b (omega arith))

chosen_bit : (m word i : ℕ) (name : List ℕ) (names : List (List ℕ)) → length (chosen_from m word i (name ∷ names)) ≡ bit_of m i word + length (chosen_from m word (i + 1) names)
chosen_bit m word i name names = by_test (cases_Bool (eqb (bit_of m i word) 1))
  where
    by_test : (eqb (bit_of m i word) 1 ≡ true) ⊎ (eqb (bit_of m i word) 1 ≡ false) → length (chosen_from m word i (name ∷ names)) ≡ bit_of m i word + length (chosen_from m word (i + 1) names)
    by_test (inl one) = ap length (cond-true _ _ _ one) ∙ omega (arith, eqb-true (bit_of m i word) 1 one)
    by_test (inr not) = ap length (cond-false _ _ _ not) ∙ omega (arith, eqb-false (bit_of m i word) 1 not)

ones_from : (m word i : ℕ) (names : List (List ℕ)) → m ≡ i + length names → length (chosen_from m word i names) ≡ count_ones (word % 2 ^ length names)
ones_from m word i [] e = omega (arith, ones_le_self (word % 2 ^ 0))
ones_from m word i (name ∷ names) e =
    let place : m - 1 - i ≡ length names = omega arith in
    chosen_bit m word i name names
    ∙ ap (λ n. bit_of m i word + n) (ones_from m word (i + 1) names (omega arith))
    ∙ ap (λ k. word / 2 ^ k % 2 + count_ones (word % 2 ^ length names)) place
    ∙ sym (top_bit (length names) word)

-- the number of a set's signals
pub ones_chosen : (m word : ℕ) (names : List (List ℕ)) → m ≡ length names → word < 2 ^ m → count_ones word ≡ length (chosen m word names)
ones_chosen m word names e lt =
    ap count_ones (sym (mod-eq_of_lt lt)) ∙ ap (λ k. count_ones (word % 2 ^ k)) e ∙ sym (ones_from m word 0 names (omega arith))
