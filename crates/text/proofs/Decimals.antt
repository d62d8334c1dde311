-- The step and the end of the reading of digits.
use Rattle.std.proofs.Common.{◌≡◌, ℕ, ◌+◌, ◌-◌, ◌*◌, ◌^◌, ◌<◌, ◌≤◌, true, false, leb, ◌⊎◌, List, length, get_or, drop, Ok, Err, ◌∙◌, inl, inr, pow-suc, add-one, arith}
use Rattle.std.specs.Char.{is_ascii_digit}
use Rattle.std.proofs.lemmas.List.{at_drop_more, at_drop_all}
use Rattle.std.proofs.lemmas.Bool.{cond-true, cond-false, and_from, and_left, and_right, lt-ltb, le-ltb, and_parts, leb-true}
use Rattle.text.specs.declared.faults.FieldFault.TheVariants.{NoNumber}
use Rattle.text.specs.Numbers.{digits_from}

pub digit_more : (line v i : ℕ) (xs : List ℕ) → i < length xs → i < 4 → is_ascii_digit (get_or xs i 0) ≡ true
    → digits_from line v i (drop i xs) ≡ digits_from line (v * 10 + (get_or xs i 0 - 48)) (i + 1) (drop (i + 1) xs)
digit_more line v i xs lt few e = at_drop_more (digits_from line v i) xs i 0 lt ∙ cond-true _ _ _ (and_from _ _ (lt-ltb i 4 few) e)

pub digit_wrong : (line v i : ℕ) (xs : List ℕ) → i < length xs → (4 ≤ i) ⊎ (is_ascii_digit (get_or xs i 0) ≡ false)
    → digits_from line v i (drop i xs) ≡ Err (NoNumber line (i + 1))
digit_wrong line v i xs lt (inl many) = at_drop_more (digits_from line v i) xs i 0 lt ∙ cond-false _ _ _ (and_left _ _ (le-ltb i 4 many))
digit_wrong line v i xs lt (inr e) = at_drop_more (digits_from line v i) xs i 0 lt ∙ cond-false _ _ _ (and_right _ _ e)

pub digit_end : (line v i : ℕ) (xs : List ℕ) → length xs ≤ i → digits_from line v i (drop i xs) ≡ Ok v
digit_end line v i xs le = at_drop_all (digits_from line v i) xs i le

-- one digit more
pub power_more : (v d i : ℕ) → v < 10 ^ i → d < 10 → v * 10 + d < 10 ^ (i + 1)
power_more v d i lt small = rw (add-one, pow-suc) (omega arith)

pub digit_small : (b : ℕ) → is_ascii_digit b ≡ true → b - 48 < 10
digit_small b e = let h = and_parts (leb 48 b) (leb b 57) e in omega (arith, leb-true b 57 h.1)
