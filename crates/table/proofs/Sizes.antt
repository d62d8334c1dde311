-- Numbers of rows and signals: what is written of a number is read as that number, and what is read as a number is what is written of it.
use Rattle.std.proofs.Common.{◌≡◌, ℕ, zero, suc, ◌+◌, ◌-◌, ◌*◌, ◌^◌, ◌<◌, ◌≤◌, true, false, cond, ◌&&◌, eqb, ltb, leb, ◌⊎◌, List, [], ◌∷◌, length, get_or, Ok, Err, decimal, Result, sym, refl, ap, ◌∙◌, ap₂, inl, inr, arith, rules}
use Rattle.std.specs.Char.{is_ascii_digit}
use Rattle.std.specs.Str.{all_ascii_digits}
use Rattle.std.proofs.lemmas.Str.Parse.{IsNumeralModel, numerals_by_fold, tells_all_ascii_digits}
use Rattle.std.proofs.lemmas.Fmt.{decimal_digit, decimal-digits_value, digits_value-decimal, digits_decimal, length-decimal-le, first_decimal, decimal_nonempty}
use Rattle.std.proofs.lemmas.Bool.{cond-true, cond-false, and_from, and_parts, lt-ltb, leb-true, le-leb, ne_eqb, eqb-true, eqb-false}
use Rattle.text.specs.declared.faults.FieldFault.{FieldFault}
use Rattle.text.specs.declared.faults.FieldFault.TheVariants.{NoNumber}
use Rattle.text.specs.Numbers.{digits_from, zero_then, number_of}
use Rattle.table.specs.declared.faults.TableFault.{TableFault}
use Rattle.table.specs.declared.faults.TableFault.TheVariants.{TooMany}
use Rattle.table.specs.Reading.{raised, size_item}
use Rattle.table.proofs.Codecs.{Free, not_ok, cond_from, then_from, then_ok, raised_from}

-- the number of the digits that follow `n`
abbrev pub read_on : ℕ → List ℕ → ℕ
read_on n [] = n
read_on n (c ∷ cs) = read_on (n * 10 + (c - 48)) cs

pub own : IsNumeralModel (λ ds. all_ascii_digits ds ≡ true) (read_on 0)
own = numerals_by_fold _ tells_all_ascii_digits read_on (search rules)

-- up to four digits in all are read
pub digits_read : (l v k : ℕ) (ds : List ℕ) → all_ascii_digits ds ≡ true → k + length ds ≤ 4 → digits_from l v k ds ≡ Ok (read_on v ds)
digits_read l v k [] d few = refl
digits_read l v k (b ∷ ds) d few =
    let p = and_parts (is_ascii_digit b) (all_ascii_digits ds) d in
    cond-true (ltb k 4 && is_ascii_digit b) _ _ (and_from (ltb k 4) (is_ascii_digit b) (lt-ltb k 4 (omega arith)) p.0)
    ∙ digits_read l (v * 10 + (b - 48)) (k + 1) ds p.1 (omega arith)

-- what is read as digits is digits
pub digits_read_from : (l v k : ℕ) (ds : List ℕ) (n : ℕ) → digits_from l v k ds ≡ Ok n → (all_ascii_digits ds ≡ true) × (read_on v ds ≡ n)
digits_read_from l v k [] n h = (refl, cc h)
digits_read_from l v k (b ∷ ds) n h = go (cond_from (ltb k 4 && is_ascii_digit b) next (Err (NoNumber l (k + 1))) n h) (digits_read_from l (v * 10 + (b - 48)) (k + 1) ds n)
  where
    next : Result ℕ FieldFault
    next = digits_from l (v * 10 + (b - 48)) (k + 1) ds

    go : (((ltb k 4 && is_ascii_digit b) ≡ true) × (next ≡ Ok n)) ⊎ (((ltb k 4 && is_ascii_digit b) ≡ false) × (◌≡◌ {A = Result ℕ FieldFault} (Err (NoNumber l (k + 1))) (Ok n)))
        → (next ≡ Ok n → (all_ascii_digits ds ≡ true) × (read_on (v * 10 + (b - 48)) ds ≡ n)) → (all_ascii_digits (b ∷ ds) ≡ true) × (read_on v (b ∷ ds) ≡ n)
    go (inl p) f =
        let q = f p.1 in
        (and_from (is_ascii_digit b) (all_ascii_digits ds) (and_parts (ltb k 4) (is_ascii_digit b) p.0).1 q.0, q.1)
    go (inr p) f = absurd (not_ok _ n p.1)

-- digits have no line feed
pub digits_free : (ds : List ℕ) → all_ascii_digits ds ≡ true → Free ds
digits_free [] d = tt
digits_free (b ∷ ds) d =
    let p = and_parts (is_ascii_digit b) (all_ascii_digits ds) d in
    let q = and_parts (leb 48 b) (leb b 57) p.0 in
    let low : 48 ≤ b = leb-true 48 b q.0 in
    ((λ e. omega arith), digits_free ds p.1)

-- zero alone begins with the digit 0
pub zero_from : (l : ℕ) (bs : List ℕ) (n : ℕ) → zero_then l bs ≡ Ok n → (bs ≡ []) × (n ≡ 0)
zero_from l [] n h = (refl, cc h)
zero_from l (b ∷ bs) n h = absurd (not_ok _ n h)

-- what is read as a number is what is written of it
pub number_from : (l : ℕ) (bs : List ℕ) (n : ℕ) → n < 2 ^ 64 → number_of l bs ≡ Ok n → bs ≡ decimal n
number_from l [] n lt h = absurd (not_ok _ n h)
number_from l (b ∷ bs) n lt h = go (cond_from (eqb b 48) (zero_then l bs) (digits_from l 0 0 (b ∷ bs)) n h)
  where
    go : ((eqb b 48 ≡ true) × (zero_then l bs ≡ Ok n)) ⊎ ((eqb b 48 ≡ false) × (digits_from l 0 0 (b ∷ bs) ≡ Ok n)) → b ∷ bs ≡ decimal n
    go (inl p) =
        let z = zero_from l bs n p.1 in
        ap₂ (λ (x : ℕ) (xs : List ℕ). x ∷ xs) (eqb-true b 48 p.0) z.0 ∙ (sym (decimal_digit 0 (omega arith)) ∙ ap decimal (sym z.1))
    go (inr p) =
        let d = digits_read_from l 0 0 (b ∷ bs) n p.1 in
        let small : read_on 0 (b ∷ bs) < 2 ^ 64 = omega (arith, d.1) in
        sym (decimal-digits_value own (b ∷ bs) d.0 (omega arith) (λ e. absurd (eqb-false b 48 p.0 e)) small) ∙ ap decimal d.1

-- what is written of a number below ten thousand is read as that number
pub digits_number : (l : ℕ) (ds : List ℕ) → all_ascii_digits ds ≡ true → 0 < length ds → length ds ≤ 4 → 48 < get_or ds 0 0 → number_of l ds ≡ Ok (read_on 0 ds)
digits_number l [] d some few first = absurd (omega arith)
digits_number l (b ∷ ds) d some few first =
    cond-false (eqb b 48) _ _ (ne_eqb b 48 (λ e. omega arith)) ∙ digits_read l 0 0 (b ∷ ds) d (omega arith)

pub number_reads : (l n : ℕ) → n < 10000 → number_of l (decimal n) ≡ Ok n
number_reads l zero lt = ap (number_of l) (decimal_digit 0 (omega arith))
number_reads l (suc n) lt =
    let small : suc n < 2 ^ 64 = omega arith in
    digits_number l (decimal (suc n)) (digits_decimal own (suc n) small) (decimal_nonempty (suc n) small) (length-decimal-le 4 (suc n) (omega arith) lt small) (first_decimal (suc n) (omega arith) small)
    ∙ ap Ok (digits_value-decimal own (suc n) small)

-- a number within the limit, as it is written
abbrev pub SizeOf : ℕ → ℕ → List ℕ → Type 0
SizeOf limit n bs = (n ≤ limit) × (bs ≡ decimal n)

pub size_read : (limit l at n : ℕ) → limit < 10000 → n ≤ limit → size_item limit l at (decimal n) ≡ Ok n
size_read limit l at n low le =
    then_ok (raised (number_of l (decimal n))) (λ k. cond (leb k limit) (Ok k) (Err (TooMany l))) n (ap raised (number_reads l n (omega arith)))
    ∙ cond-true (leb n limit) _ _ (le-leb n limit le)

pub size_free : (n : ℕ) → n < 10000 → Free (decimal n)
size_free n lt = digits_free (decimal n) (digits_decimal own n (omega arith))

pub size_from : (limit l at : ℕ) (bs : List ℕ) (n : ℕ) → limit < 10000 → size_item limit l at bs ≡ Ok n → SizeOf limit n bs
size_from limit l at bs n low h = go (cond_from (leb k limit) (Ok k) (Err (TooMany l)) n first.2)
  where
    first : (k : ℕ) × (raised (number_of l bs) ≡ Ok k) × (cond (leb k limit) (Ok k) (Err (TooMany l)) ≡ Ok n)
    first = then_from (raised (number_of l bs)) (λ k. cond (leb k limit) (Ok k) (Err (TooMany l))) n h

    k : ℕ
    k = first.0

    go : ((leb k limit ≡ true) × (◌≡◌ {A = Result ℕ TableFault} (Ok k) (Ok n))) ⊎ ((leb k limit ≡ false) × (◌≡◌ {A = Result ℕ TableFault} (Err (TooMany l)) (Ok n))) → SizeOf limit n bs
    go (inl p) =
        let same : k ≡ n = cc p.1 in
        let le : n ≤ limit = omega (arith, leb-true k limit p.0, same) in
        let read : number_of l bs ≡ Ok n = raised_from (number_of l bs) n (first.1 ∙ ap Ok same) in
        (le, number_from l bs n (omega arith) read)
    go (inr p) = absurd (not_ok _ n p.1)
