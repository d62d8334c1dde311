-- Where a line feed is found.
use Rattle.std.proofs.Common.{◌≡◌, refl, sym, ap, ◌∙◌, ℕ, ◌+◌, Bool, true, false, cond, List, [], ◌∷◌, Some, None, Ok, Err, ◌==◌, Option, Result, arith}
use Rattle.std.specs.List.{position, position_from}
use Rattle.std.proofs.lemmas.Iterator.Adapters.{position_from-zero}
use Rattle.text.specs.declared.faults.FieldFault.{FieldFault}
use Rattle.text.specs.declared.faults.FieldFault.TheVariants.{NoLineFeed}
use Rattle.text.specs.Lines.{feed_from}

-- the answer to where a line feed was found, in bytes that begin at position `at`
abbrev pub at_feed : (line at : ℕ) → Option ℕ → Result ℕ FieldFault
at_feed line at None = Err (NoLineFeed line)
at_feed line at (Some k) = Ok (at + k)

feed_shifted : (line at k : ℕ) (xs : List ℕ) → feed_from line (at + k) xs ≡ at_feed line at (position_from (λ b. b == 10) k xs)
feed_shifted line at k [] = refl
feed_shifted line at k (x ∷ xs) = by (x == 10) (ap (λ i. feed_from line i xs) (omega arith) ∙ feed_shifted line at (k + 1) xs)
  where
    by : (b : Bool) → feed_from line (at + k + 1) xs ≡ at_feed line at (position_from (λ b. b == 10) (k + 1) xs)
        → cond b (Ok (at + k)) (feed_from line (at + k + 1) xs) ≡ at_feed line at (cond b (Some k) (position_from (λ b. b == 10) (k + 1) xs))
    by true rest = refl
    by false rest = rest

pub feed_is : (line at : ℕ) (xs : List ℕ) → feed_from line at xs ≡ at_feed line at (position (λ b. b == 10) xs)
feed_is line at xs =
    ap (λ i. feed_from line i xs) (omega arith) ∙ feed_shifted line at 0 xs
    ∙ sym (ap (at_feed line at) (position_from-zero (λ b. b == 10) xs))
