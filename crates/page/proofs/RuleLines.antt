-- The bytes of the lines of rules, as the code has them.
use Rattle.std.proofs.Common.{◌≡◌, ℕ, ◌+◌, ◌-◌, ◌/◌, ◌%◌, ◌^◌, ◌<◌, ◌≤◌, Bool, true, ◌&&◌, cond, eqb, List, [], ◌∷◌, length, sym, refl, ap, ◌∙◌, arith, length-append}
use lib.Bits.{bit_and, bit_xor, xor_add_and, xor_lt, xor_shr}
use Rattle.std.proofs.lemmas.Bool.{eqb-true}
use Rattle.page.specs.Pages.{added, chosen, chosen_from, counted_names, names_from, rule_line_of, rule_names_line}
use Rattle.sets.specs.declared.rule.Rule.{Rule}
use Rattle.sets.specs.declared.set.Set.{Set}
use Rattle.sets.specs.Set.{Fit}
use Rattle.theory.proofs.Signals.{bit_and_at}
use Rattle.theory.specs.Words.{bit_of}

-- the names of a set's signals are those of the signals that pass a test, if the test says which belong to the set
chosen_by : (m word : ℕ) (test : ℕ → Bool) (i : ℕ) (names : List (List ℕ)) → ((k : ℕ) → eqb (bit_of m k word) 1 ≡ test k) → chosen_from m word i names ≡ names_from test i names
chosen_by m word test i [] same = refl
chosen_by m word test i (name ∷ names) same =
    ap (λ xs. cond (eqb (bit_of m i word) 1) (name ∷ xs) xs) (chosen_by m word test (i + 1) names same) ∙ ap (λ b. cond b (name ∷ names_from test (i + 1) names) (names_from test (i + 1) names)) (same i)

-- the line's length, from the lengths of its parts
pub rule_long : (premise more : List (List ℕ)) → length (rule_names_line premise more) ≡ 5 + length (counted_names premise) + length (counted_names more)
rule_long premise more = simp length-append (omega arith)

-- where one bit is at most the other, they differ where the one is 0 and the other 1
bits_differ : (x y z : ℕ) → x < 2 → y ≤ x → z ≡ (x + y) % 2 → eqb z 1 ≡ (eqb x 1 && eqb y 0)
bits_differ x y z hx le is = grind arith

bit_xor_at : (m i a b : ℕ) → bit_of m i (bit_xor a b) ≡ (bit_of m i a + bit_of m i b) % 2
bit_xor_at m i a b =
    let k = m - 1 - i in
    ap (λ x. x % 2) (xor_shr a b k) ∙ omega (arith, xor_add_and (a / 2 ^ k) (b / 2 ^ k))

-- the signals that one set has and a set inside it lacks
added_bit : (m premise conclusion i : ℕ) → bit_and premise conclusion ≡ premise → eqb (bit_of m i (bit_xor conclusion premise)) 1 ≡ (eqb (bit_of m i conclusion) 1 && eqb (bit_of m i premise) 0)
added_bit m premise conclusion i inside =
    let low : bit_of m i premise ≤ bit_of m i conclusion = omega (arith, bit_and_at m i premise conclusion, ap (bit_of m i) inside) in
    bits_differ (bit_of m i conclusion) (bit_of m i premise) _ (omega arith) low (bit_xor_at m i conclusion premise)

module _ (rule : Rule) where
  pub added_fit : Fit rule.premise.width (bit_xor rule.conclusion.word rule.premise.word)
  added_fit =
      let m = rule.premise.width in
      let top : rule.conclusion.word < 2 ^ m = rw rule.same rule.conclusion.below in
      record { narrow = rule.premise.narrow; below = xor_lt m rule.conclusion.word rule.premise.word top rule.premise.below }

  module _ (more : Set) (wide : more.width ≡ rule.premise.width) (is : more.word ≡ bit_xor rule.conclusion.word rule.premise.word) where
    added_names : (names : List (List ℕ)) → chosen more.width more.word names ≡ added rule.premise.width rule.premise.word rule.conclusion.word names
    added_names names =
        ap (λ m. chosen m more.word names) wide ∙ ap (λ w. chosen rule.premise.width w names) is
        ∙ chosen_by rule.premise.width (bit_xor rule.conclusion.word rule.premise.word) _ 0 names (λ i. added_bit rule.premise.width rule.premise.word rule.conclusion.word i rule.inside)

    -- the line as the code puts it
    module _ (names : List (List ℕ)) (premise : Set) (is_premise : premise ≡ rule.premise) (same : eqb premise.width (length names) ≡ true) where
      abbrev pub first : List (List ℕ)
      first = chosen premise.width premise.word names

      abbrev pub second : List (List ℕ)
      second = chosen more.width more.word names

      pub rule_width : eqb rule.premise.width (length names) ≡ true
      rule_width = ap (λ s. eqb s.width (length names)) (sym is_premise) ∙ same

      pub rule_bytes : rule_names_line first second ≡ rule_line_of names rule.premise.word rule.conclusion.word
      rule_bytes =
          ap (λ s. rule_names_line (chosen s.width s.word names) second) is_premise
          ∙ ap (rule_names_line (chosen rule.premise.width rule.premise.word names)) (added_names names)
          ∙ ap (λ m. rule_names_line (chosen m rule.premise.word names) (added m rule.premise.word rule.conclusion.word names)) (eqb-true _ _ rule_width)
