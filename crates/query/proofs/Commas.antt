-- Where a comma is found.
use Rattle.std.proofs.Common.{◌≡◌, sym, ap, ◌∙◌, ℕ, ◌+◌, ◌≤◌, Bool, true, false, cond, List, [], ◌∷◌, length, drop, Some, None, ◌==◌, Option, arith}
use Rattle.std.specs.List.{position, position_from}
use Rattle.std.proofs.lemmas.Iterator.Adapters.{position_from-zero}
use Rattle.std.proofs.lemmas.List.{length-drop}
use Rattle.query.specs.Fields.{comma_from, field_end_of}

-- the answer to where a comma was found, in bytes from position `at` to position `end`
abbrev pub at_comma : (end at : ℕ) → Option ℕ → ℕ
at_comma end at None = end
at_comma end at (Some k) = at + k

comma_shifted : (at k : ℕ) (xs : List ℕ) → comma_from (at + k) xs ≡ at_comma (at + k + length xs) at (position_from (λ b. b == 44) k xs)
comma_shifted at k [] = omega arith
comma_shifted at k (x ∷ xs) =
    by (x == 44)
    (ap (λ i. comma_from i xs) (omega arith) ∙ comma_shifted at (k + 1) xs ∙ ap (λ end. at_comma end at (position_from (λ b. b == 44) (k + 1) xs)) (omega arith))
  where
    by : (b : Bool) → comma_from (at + k + 1) xs ≡ at_comma (at + k + length (x ∷ xs)) at (position_from (λ b. b == 44) (k + 1) xs)
        → cond b (at + k) (comma_from (at + k + 1) xs) ≡ at_comma (at + k + length (x ∷ xs)) at (cond b (Some k) (position_from (λ b. b == 44) (k + 1) xs))
    by true rest = omega arith
    by false rest = rest

-- where a field ends, by where a comma is found behind its start
pub end_is : (at : ℕ) (line rest : List ℕ) (found : Option ℕ) → at ≤ length line → rest ≡ drop at line → found ≡ position (λ b. b == 44) rest
    → field_end_of at line ≡ at_comma (length line) at found
end_is at line rest found le is e =
    let whole : at + 0 + length (drop at line) ≡ length line = omega (arith, length-drop at line) in
    ap (λ i. comma_from i (drop at line)) (omega arith) ∙ comma_shifted at 0 (drop at line)
    ∙ ap (λ end. at_comma end at (position_from (λ b. b == 44) 0 (drop at line))) whole
    ∙ ap (at_comma (length line) at) (sym (position_from-zero (λ b. b == 44) (drop at line)) ∙ ap (position (λ b. b == 44)) (sym is) ∙ sym e)
