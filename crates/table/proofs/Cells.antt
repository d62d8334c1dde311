-- Rows of cells: the cells of a word are read as that word, and a row that is read is the cells of its word.
use Rattle.std.proofs.Common.{◌≡◌, ℕ, zero, suc, ◌+◌, ◌-◌, ◌*◌, ◌/◌, ◌%◌, ◌^◌, ◌<◌, Bool, true, false, cond, eqb, ◌⊎◌, List, [], ◌∷◌, map, length, Ok, Err, Result, sym, refl, ap, ◌∙◌, subst, ap₂, inl, inr, div-lt_iff_lt-mul, div-one, add-one, arith}
use native.Mathlib.Nat.{div-eq_of_lt}
use Rattle.std.specs.List.{AllByRecursion}
use Rattle.std.proofs.lemmas.Nat.{shr-shr, pow_pos}
use Rattle.std.proofs.lemmas.Bool.{cond-true, eq-eqb, eqb-true}
use Rattle.table.specs.declared.faults.TableFault.{TableFault}
use Rattle.table.specs.declared.faults.TableFault.TheVariants.{CellCount, NotCell}
use Rattle.table.specs.Reading.{cells_from, row_item}
use Rattle.table.specs.Tables.{cells_at, cells}
use Rattle.table.proofs.Codecs.{Free, Both, Codec, not_ok, cond_from}

-- the cell of a digit: X for 1, else a full stop
abbrev pub cell : ℕ → ℕ
cell d = cond (eqb d 1) 88 46

-- one digit more
pub halved : (w n : ℕ) → w / 2 ^ suc n ≡ w / 2 ^ n / 2
halved w n = ap (λ k. w / 2 ^ k) (sym (add-one n)) ∙ sym (shr-shr w n 1)

-- there are as many cells as were asked for
pub length_cells_at : (m w i n : ℕ) → length (cells_at m w i n) ≡ n
length_cells_at m w i zero = refl
length_cells_at m w i (suc n) = ap suc (length_cells_at m w (i + 1) n)

-- a cell is one of two bytes, and no line feed
pub cell_free : (d : ℕ) → cell d ≡ 10 → ⊥
cell_free d = go (eqb d 1)
  where
    go : (b : Bool) → ◌≡◌ {A = ℕ} (cond b 88 46) 10 → ⊥
    go true e = omega arith
    go false e = omega arith

pub cells_free : (m w i n : ℕ) → Free (cells_at m w i n)
cells_free m w i zero = tt
cells_free m w i (suc n) = (cell_free (w / 2 ^ (m - 1 - i) % 2), cells_free m w (i + 1) n)

-- the cell of a binary digit is read as that digit
pub cell_read : (l word byte d : ℕ) (bs : List ℕ) → d < 2 → cells_from l word byte (cell d ∷ bs) ≡ cells_from l (word * 2 + d) (byte + 1) bs
cell_read l word byte zero bs lt = ap (λ v. cells_from l v (byte + 1) bs) (omega arith)
cell_read l word byte (suc zero) bs lt = refl
cell_read l word byte (suc (suc d)) bs lt = absurd (omega arith)

-- the cells of the last n digits, read behind the digits before them, give the whole word
pub cells_read : (l byte m w i n : ℕ) → i + n ≡ m → cells_from l (w / 2 ^ n) byte (cells_at m w i n) ≡ Ok w
cells_read l byte m w i zero e = ap Ok (div-one w)
cells_read l byte m w i (suc n) e =
    let weight : m - 1 - i ≡ n = omega arith in
    let d : ℕ = w / 2 ^ n % 2 in
    let front : w / 2 ^ suc n * 2 + d ≡ w / 2 ^ n = omega (arith, halved w n) in
    ap (λ k. cells_from l (w / 2 ^ suc n) byte (cell (w / 2 ^ k % 2) ∷ cells_at m w (i + 1) n)) weight
    ∙ (cell_read l (w / 2 ^ suc n) byte d (cells_at m w (i + 1) n) (omega arith)
    ∙ (ap (λ v. cells_from l v (byte + 1) (cells_at m w (i + 1) n)) front
    ∙ cells_read l (byte + 1) m w (i + 1) n (omega arith)))

-- a byte that was read is the cell of a binary digit, and reading goes on behind that digit
pub record CellRead (l word byte b : ℕ) (bs : List ℕ) (w : ℕ) : Type 0 where
  pub digit : ℕ
  pub binary : digit < 2
  pub is_cell : b ≡ cell digit
  pub more : cells_from l (word * 2 + digit) (byte + 1) bs ≡ Ok w

pub cell_from : (l word byte b : ℕ) (bs : List ℕ) (w : ℕ) → cells_from l word byte (b ∷ bs) ≡ Ok w → CellRead l word byte b bs w
cell_from l word byte b bs w h = first (cond_from (eqb b 88) one other w h)
  where
    one : Result ℕ TableFault
    one = cells_from l (word * 2 + 1) (byte + 1) bs

    none : Result ℕ TableFault
    none = cells_from l (word * 2) (byte + 1) bs

    other : Result ℕ TableFault
    other = cond (eqb b 46) none (Err (NotCell l byte))

    second : ((eqb b 46 ≡ true) × (none ≡ Ok w)) ⊎ ((eqb b 46 ≡ false) × (◌≡◌ {A = Result ℕ TableFault} (Err (NotCell l byte)) (Ok w))) → CellRead l word byte b bs w
    second (inl p) = record { digit = 0; binary = omega arith; is_cell = eqb-true b 46 p.0; more = ap (λ v. cells_from l v (byte + 1) bs) (omega arith) ∙ p.1 }
    second (inr p) = absurd (not_ok _ w p.1)

    first : ((eqb b 88 ≡ true) × (one ≡ Ok w)) ⊎ ((eqb b 88 ≡ false) × (other ≡ Ok w)) → CellRead l word byte b bs w
    first (inl p) = record { digit = 1; binary = omega arith; is_cell = eqb-true b 88 p.0; more = p.1 }
    first (inr p) = second (cond_from (eqb b 46) none (Err (NotCell l byte)) w p.1)

-- bytes that were read as digits behind `word` are the cells of the last digits of what they gave
pub cells_read_from : (l word byte m w i : ℕ) (bs : List ℕ) → i + length bs ≡ m → cells_from l word byte bs ≡ Ok w
    → (word ≡ w / 2 ^ length bs) × (bs ≡ cells_at m w i (length bs))
cells_read_from l word byte m w i [] e h = (let same : word ≡ w = cc h in same ∙ sym (div-one w), refl)
cells_read_from l word byte m w i (b ∷ bs) e h =
    let c = cell_from l word byte b bs w h in
    let d : ℕ = c.digit in
    let rest = cells_read_from l (word * 2 + d) (byte + 1) m w (i + 1) bs (omega arith) c.more in
    let front : word * 2 + d ≡ w / 2 ^ length bs = rest.0 in
    let small : d < 2 = c.binary in
    let weight : m - 1 - i ≡ length bs = omega arith in
    let last : d ≡ w / 2 ^ (m - 1 - i) % 2 = (let k : d ≡ w / 2 ^ length bs % 2 = omega arith in k) ∙ ap (λ k. w / 2 ^ k % 2) (sym weight) in (
      omega (arith, halved w (length bs)),
      ap₂ (λ (x : ℕ) (xs : List ℕ). x ∷ xs) (c.is_cell ∙ ap cell last) rest.1,
    )

-- the row of a word that is narrow enough
abbrev pub Row : ℕ → List ℕ → Type 0
Row m bs = (w : ℕ) × (w < 2 ^ m) × (bs ≡ cells m w)

abbrev pub RowOf : ℕ → ℕ → List ℕ → Type 0
RowOf m w bs = (w < 2 ^ m) × (bs ≡ cells m w)

pub row_read : (m w l at : ℕ) → w < 2 ^ m → row_item m l at (cells m w) ≡ Ok w
row_read m w l at lt =
    cond-true (eqb (length (cells m w)) m) _ _ (eq-eqb (length (cells m w)) m (length_cells_at m w 0 m))
    ∙ (ap (λ v. cells_from l v 1 (cells m w)) (sym (div-eq_of_lt lt)) ∙ cells_read l 1 m w 0 m (omega arith))

-- a row that is read is the row of its word, which is narrow enough
pub row_from : (m w l at : ℕ) (bs : List ℕ) → row_item m l at bs ≡ Ok w → RowOf m w bs
row_from m w l at bs h = go (cond_from (eqb (length bs) m) (cells_from l 0 1 bs) (Err (CellCount l)) w h)
  where
    go : ((eqb (length bs) m ≡ true) × (cells_from l 0 1 bs ≡ Ok w)) ⊎ ((eqb (length bs) m ≡ false) × (◌≡◌ {A = Result ℕ TableFault} (Err (CellCount l)) (Ok w))) → RowOf m w bs
    go (inl p) =
        let size : length bs ≡ m = eqb-true (length bs) m p.0 in
        let c = cells_read_from l 0 1 m w 0 bs (omega arith) p.1 in
        let none : w / 2 ^ m < 1 = let k : 0 ≡ w / 2 ^ m = c.0 ∙ ap (λ n. w / 2 ^ n) size in omega arith in
        (omega (arith, (div-lt_iff_lt-mul (pow_pos m)).0 none), c.1 ∙ ap (cells_at m w 0) size)
    go (inr p) = absurd (not_ok _ w p.1)

pub row_codec : (text : List ℕ) (m : ℕ) → Codec text (row_item m) (Row m) (RowOf m)
row_codec text m = record {
  free = λ bs r. subst Free (sym r.2) (cells_free m r.0 0 m);
  reads = λ l at bs r. (r.0, ap (row_item m l at) r.2 ∙ row_read m r.0 l at r.1);
  was = λ l at bs next w s h. row_from m w l at bs h;
}

-- one row is the row of one word
pub row_only : (m v w : ℕ) → v < 2 ^ m → w < 2 ^ m → cells m v ≡ cells m w → v ≡ w
row_only m v w p q e =
    let a : row_item m 0 0 (cells m v) ≡ Ok v = row_read m v 0 0 p in
    let b : row_item m 0 0 (cells m w) ≡ Ok w = row_read m w 0 0 q in
    let c : row_item m 0 0 (cells m v) ≡ row_item m 0 0 (cells m w) = ap (row_item m 0 0) e in
    cc (a, b, c)

-- rows and the words that they are rows of
pub rows_are : (m : ℕ) (ws : List ℕ) (rows : List (List ℕ)) → Both (RowOf m) ws rows → rows ≡ map (cells m) ws
rows_are m [] [] b = refl
rows_are m [] (r ∷ rs) b = absurd b
rows_are m (w ∷ ws) [] b = absurd b
rows_are m (w ∷ ws) (r ∷ rs) b = ap₂ (λ (x : List ℕ) (xs : List (List ℕ)). x ∷ xs) b.0.1 (rows_are m ws rs b.1)

pub rows_narrow : (m : ℕ) (ws : List ℕ) (rows : List (List ℕ)) → Both (RowOf m) ws rows → AllByRecursion (λ w. w < 2 ^ m) ws
rows_narrow m [] rs b = tt
rows_narrow m (w ∷ ws) [] b = absurd b
rows_narrow m (w ∷ ws) (r ∷ rs) b = (b.0.0, rows_narrow m ws rs b.1)

pub rows_good : (m : ℕ) (ws : List ℕ) → AllByRecursion (λ w. w < 2 ^ m) ws → AllByRecursion (Row m) (map (cells m) ws)
rows_good m [] h = tt
rows_good m (w ∷ ws) h = ((w, h.0, refl), rows_good m ws h.1)

pub rows_only : (m : ℕ) (vs ws : List ℕ) → AllByRecursion (λ w. w < 2 ^ m) ws → Both (RowOf m) vs (map (cells m) ws) → vs ≡ ws
rows_only m [] [] h b = refl
rows_only m [] (w ∷ ws) h b = absurd b
rows_only m (v ∷ vs) [] h b = absurd b
rows_only m (v ∷ vs) (w ∷ ws) h b =
    ap₂ (λ (x : ℕ) (xs : List ℕ). x ∷ xs) (row_only m v w b.0.0 h.0 (sym b.0.1)) (rows_only m vs ws h.1 b.1)
