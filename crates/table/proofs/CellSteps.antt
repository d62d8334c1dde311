-- The step and the end of the reading of a row's cells.
use Rattle.std.proofs.Common.{◌≡◌, ℕ, suc, ◌+◌, ◌-◌, ◌*◌, ◌^◌, ◌<◌, ◌≤◌, Bool, true, false, cond, eqb, ◌⊎◌, List, length, get_or, Some, None, Ok, sym, refl, ap, ◌∙◌, inl, inr, ⊎_elim, add-zero, pow-suc, arith, length-drop, length-take}
use Rattle.std.specs.List.{between}
use Rattle.std.proofs.lemmas.Slice.{first_rest}
use Rattle.std.proofs.lemmas.List.{nil_from_length}
use Rattle.std.proofs.lemmas.Bool.{cond-true, cond-false, eq-eqb, ne_eqb, eqb-true}
use Rattle.table.specs.Reading.{cells_from}

module _ (line word byte : ℕ) (xs : List ℕ) (some : 0 < length xs) where
  pub cell_marked : get_or xs 0 0 ≡ 88 → cells_from line word byte xs ≡ cells_from line (word * 2 + 1) (byte + 1) (between 1 (length xs) xs)
  cell_marked e = ap (cells_from line word byte) (first_rest xs 0 some) ∙ cond-true _ _ _ (eq-eqb (get_or xs 0 0) 88 e)

  pub cell_blank : get_or xs 0 0 ≡ 46 → cells_from line word byte xs ≡ cells_from line (word * 2) (byte + 1) (between 1 (length xs) xs)
  cell_blank e =
      ap (cells_from line word byte) (first_rest xs 0 some)
      ∙ cond-false _ _ _ (ne_eqb (get_or xs 0 0) 88 (λ h. omega arith)) ∙ cond-true _ _ _ (eq-eqb (get_or xs 0 0) 46 e)

pub cell_none : (line word byte : ℕ) (xs : List ℕ) → length xs ≡ 0 → cells_from line word byte xs ≡ Ok word
cell_none line word byte xs e = ap (cells_from line word byte) (nil_from_length xs e)

-- one binary digit more
pub digit_more : (w d b : ℕ) → 1 ≤ b → w < 2 ^ (b - 1) → d < 2 → w * 2 + d < 2 ^ (b + 1 - 1)
digit_more w d b one lt small =
    let e : b + 1 - 1 ≡ suc (b - 1) = omega arith in
    rw e (rw pow-suc (omega arith))

-- what a loop over the cells keeps: what is left gives the answer, and the word has one binary digit for each cell read
pub record CellsRead (line : ℕ) (cells : List ℕ) (word : ℕ) (left : List ℕ) : Type 0 where
  pub byte : ℕ
  pub first : 1 ≤ byte
  pub count : byte + length left ≡ length cells + 1
  pub rest : cells_from line word byte left ≡ cells_from line 0 1 cells
  pub small : word < 2 ^ (byte - 1)

pub cells_none : (line : ℕ) (cells : List ℕ) → CellsRead line cells 0 cells
cells_none line cells = record { byte = 1; first = omega arith; count = omega arith; rest = refl; small = omega arith }

-- the digit that a cell stands for, by its byte
digit_by : (b d : ℕ) (x y : Bool) → eqb b 88 ≡ x → eqb b 46 ≡ y → Some d ≡ cond x (Some 1) (cond y (Some 0) None)
    → ((d ≡ 1) × (b ≡ 88)) ⊎ ((d ≡ 0) × (b ≡ 46))
digit_by b d true y marked blank e = inl ((cc), eqb-true b 88 marked)
digit_by b d false true marked blank e = inr ((cc), eqb-true b 46 blank)
digit_by b d false false marked blank e = let z : ◌≡◌ {A = ℕ} 0 1 = cc in absurd (omega arith)

pub cells_more : (line word d : ℕ) (cells xs : List ℕ) → 0 < length xs → CellsRead line cells word xs
    → Some d ≡ cond (eqb (get_or xs 0 0) 88) (Some 1) (cond (eqb (get_or xs 0 0) 46) (Some 0) None)
    → CellsRead line cells (word * 2 + d) (between 1 (length xs) xs)
cells_more line word d cells xs some r is =
    let byte = r.byte in
    let step : cells_from line (word * 2 + d) (byte + 1) (between 1 (length xs) xs) ≡ cells_from line word byte xs =
    ⊎_elim (λ (h : (d ≡ 1) × (get_or xs 0 0 ≡ 88)). ap (λ k. cells_from line (word * 2 + k) (byte + 1) (between 1 (length xs) xs)) h.0 ∙ sym (cell_marked line word byte xs some h.1))
    (λ (h : (d ≡ 0) × (get_or xs 0 0 ≡ 46)). ap (λ k. cells_from line (word * 2 + k) (byte + 1) (between 1 (length xs) xs)) h.0
    ∙ ap (λ k. cells_from line k (byte + 1) (between 1 (length xs) xs)) (add-zero (word * 2)) ∙ sym (cell_blank line word byte xs some h.1))
    (digit_by (get_or xs 0 0) d _ _ refl refl is) in
    let small : d < 2 =
    ⊎_elim (λ (h : (d ≡ 1) × (get_or xs 0 0 ≡ 88)). omega arith) (λ (h : (d ≡ 0) × (get_or xs 0 0 ≡ 46)). omega arith)
    (digit_by (get_or xs 0 0) d _ _ refl refl is) in
    record {
      byte = byte + 1;
      first = omega arith;
      count = simp (length-take, length-drop) (omega (arith, r.count));
      rest = step ∙ r.rest;
      small = digit_more word d byte r.first r.small small;
    }
