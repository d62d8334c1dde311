-- The signals common to rows, read off the columns of the rows.
use Rattle.std.proofs.Common.{◌≡◌, ℕ, zero, suc, ◌+◌, ◌-◌, ◌*◌, ◌/◌, ◌%◌, ◌^◌, ◌<◌, ◌≤◌, true, false, ◌==◌, ◌⊎◌, min, ◌≢◌, ◌↔◌, List, [], ◌∷◌, ◌++◌, length, get_or, set, take, drop, fold, Some, sym, refl, ap, ◌∙◌, subst, inl, inr, arith, pow_mono, pow-suc, below_more}
use mathlib.Core.List.{Memᴰ, reverse}
use native.Mathlib.Decide.{ℕ_discrete, dec_le}
use lib.Bits.{bit_and, bit_or, bit_xor, and_comm, xor_self, xor_zero_r}
use lib.Pow.{ones_lt}
use Rattle.std.proofs.lemmas.Bool.{cases_Bool, cond-true, cond-false}
use Rattle.std.proofs.Math.Seq.{take-append_seam, drop-append_seam}
use Rattle.std.proofs.Math.ListN.{drop_of_length-le}
use Rattle.std.proofs.lemmas.List.{append-nil, drop-drop, get_or-set_same, get_or-set_other, length-append, length-drop, length-take, take_all}
use Rattle.std.proofs.Math.Nat.{mod-eq_of_lt}
use Rattle.std.proofs.lemmas.Grind.{reverse_onto}
use Rattle.std.proofs.lemmas.List.Sums.{fold-append}
use Rattle.std.proofs.lemmas.Nat.{or_disjoint}
use Rattle.theory.specs.Rows.{common}
use Rattle.theory.specs.Words.{Sub}
use Rattle.theory.proofs.Lattice.{and_assoc, and_half, and_low, zero_sub, sub_trans, sub_antisym, sub_lt, sub_full, meet_left, meet_right, meet_greatest}
use Rattle.theory.proofs.Members.{mem_get_d, mem_place}
use Rattle.theory.proofs.Rows.{common_full, common_lt, common_in, common_greatest, common_extends}
use Rattle.operators.specs.Columns.{bit_at, block, TakesBit, Turned, TurnedBlocks, Column, Extent, Covered, Sifted, Taken}
use Rattle.operators.proofs.WordBits.{bit_zero, bit_front, bit_behind, bit_and_at, bit_xor_at, bit_below, bits_sub, sub_bits, without_same, without_less, without_other}

-- ---- the extent of a set, bit after bit of the set

-- the rows of n that the columns of the set's bits have
abbrev pub Through : (n : ℕ) (columns : List ℕ) (set extent : ℕ) → Type 0
Through n columns set extent =
    (s : ℕ) → s < 64 → (bit_at extent s ≡ 1) ↔ ((s < n) × ((k : ℕ) → bit_at set k ≡ 1 → bit_at (get_or columns k 0) s ≡ 1))

module _ (n : ℕ) (columns : List ℕ) where
  -- no bit yet: all rows of the block
  pub through_none :
      (wanted extent : ℕ) → ((s : ℕ) → s < 64 → (bit_at extent s ≡ 1) ↔ (s < n)) → Through n columns (bit_xor wanted wanted) extent
  through_none wanted extent all s h = (
    λ e. ((all s h).0 e, λ k one. absurd (omega (arith, bit_zero k, ap (λ w. bit_at w k) (xor_self wanted)))),
    λ q. (all s h).1 q.0,
  )

  -- a bit more
  through_more :
      (set k before more : ℕ) → Through n columns set before → bit_at more k ≡ 1 → ((j : ℕ) → j ≢ k → bit_at more j ≡ bit_at set j)
      → bit_at set k ≡ 0 → Through n columns more (bit_and before (get_or columns k 0))
  through_more set k before more so_far one same none s h =
      let meet = bit_and_at before (get_or columns k 0) s in (
        λ e. let was = (so_far s h).0 (omega (arith, meet)) in (was.0, λ j. at was.1 (omega (arith, meet)) j (ℕ_discrete j k)),
        λ q. omega (arith, meet, (so_far s h).1 (q.0, λ j o. q.1 j (same j (apart j o) ∙ o)), q.1 k one),
      )
    where
      apart : (j : ℕ) → bit_at set j ≡ 1 → j ≢ k
      apart j o e = let z = ap (bit_at set) e in omega arith

      at :
          ((j : ℕ) → bit_at set j ≡ 1 → bit_at (get_or columns j 0) s ≡ 1) → bit_at (get_or columns k 0) s ≡ 1 → (j : ℕ) → Dec (j ≡ k)
          → bit_at more j ≡ 1 → bit_at (get_or columns j 0) s ≡ 1
      at was here j (yes e) o = rw e here
      at was here j (no d) o = was j (sym (same j d) ∙ o)

  -- a turn of a loop takes a bit from those that are left
  module _
      (wanted left k rest before : ℕ) (some : (j : ℕ) → bit_at left j ≡ 1 → bit_at wanted j ≡ 1) (so_far : Through n columns (bit_xor wanted left) before)
      (takes : TakesBit left (Some k) rest) where
    pub through_turn : Through n columns (bit_xor wanted rest) (bit_and before (get_or columns k 0))
    through_turn =
        rw takes.2
        (through_more (bit_xor wanted left) k before (bit_xor wanted (bit_xor left (2 ^ k))) so_far
        (omega (arith, bit_xor_at wanted (bit_xor left (2 ^ k)) k, without_same left k takes.1, some k takes.1))
        (λ j d. omega (arith, bit_xor_at wanted (bit_xor left (2 ^ k)) j, bit_xor_at wanted left j, without_other left k j d))
        (omega (arith, bit_xor_at wanted left k, some k takes.1)))

    pub some_turn : (j : ℕ) → bit_at rest j ≡ 1 → bit_at wanted j ≡ 1
    some_turn = rw takes.2 (λ j p. at j p (ℕ_discrete j k))
      where
        at : (j : ℕ) → bit_at (bit_xor left (2 ^ k)) j ≡ 1 → Dec (j ≡ k) → bit_at wanted j ≡ 1
        at j p (yes e) = rw e (some k takes.1)
        at j p (no d) = some j (sym (without_other left k j d) ∙ p)

  -- no bit is left
  pub through_last : (wanted left extent : ℕ) → left ≡ 0 → Through n columns (bit_xor wanted left) extent → Through n columns wanted extent
  through_last wanted left extent none so_far = subst (λ w. Through n columns w extent) (ap (bit_xor wanted) none ∙ xor_zero_r wanted) so_far

  -- no row is left
  pub through_empty :
      (wanted left extent : ℕ) → ((j : ℕ) → bit_at left j ≡ 1 → bit_at wanted j ≡ 1) → extent ≡ 0 → Through n columns (bit_xor wanted left) extent
      → Through n columns wanted extent
  through_empty wanted left extent some none so_far s h = (
    λ e. absurd (omega (arith, bit_zero s, ap (λ w. bit_at w s) none)),
    λ q. (so_far s h).1 (q.0, λ k o. q.1 k (at k o (ℕ_discrete (bit_at left k) 1))),
  )
    where
      at : (k : ℕ) → bit_at (bit_xor wanted left) k ≡ 1 → Dec (bit_at left k ≡ 1) → bit_at wanted k ≡ 1
      at k o (yes e) = some k e
      at k o (no d) = omega (arith, bit_xor_at wanted left k)

-- by columns of the rows it is the extent
pub through_extent :
    (m : ℕ) (rows columns : List ℕ) (wanted extent : ℕ) → Turned m rows columns → wanted < 2 ^ m → Through (length rows) columns wanted extent → Extent rows wanted extent
through_extent m rows columns wanted extent turned below through s h = (
  λ e. let told = (through s h).0 e in
      (told.0, bits_sub m wanted (get_or rows s 0) below (λ k hk o. sym (turned k hk s told.0) ∙ told.1 k o)),
  λ q. (through s h).1 (q.0, λ k o. turned k (bit_below m wanted k below o) s q.0 ∙ sub_bits wanted (get_or rows s 0) k q.1.same o),
)

-- ---- rows of an extent taken one by one

pub taken_more :
    (rows : List ℕ) (extent start left word s rest : ℕ) → Taken rows extent start left word → TakesBit left (Some s) rest
    → Taken rows extent start rest (bit_and word (get_or rows s 0))
taken_more rows extent start left word s rest so_far takes =
    rw takes.2
    record {
      most = omega (arith, without_less left s takes.1, so_far.most);
      some = λ j o. at j o (ℕ_discrete j s);
      less = sub_trans (meet_left word (get_or rows s 0)) so_far.less;
      inside = λ j o z. inner j o z (ℕ_discrete j s);
      around = λ x low each. meet_greatest (so_far.around x low each) (each s (so_far.some s takes.1));
    }
  where
    at : (j : ℕ) → bit_at (bit_xor left (2 ^ s)) j ≡ 1 → Dec (j ≡ s) → bit_at extent j ≡ 1
    at j o (yes e) = rw e (so_far.some s takes.1)
    at j o (no n) = so_far.some j (sym (without_other left s j n) ∙ o)

    inner : (j : ℕ) → bit_at extent j ≡ 1 → bit_at (bit_xor left (2 ^ s)) j ≡ 0 → Dec (j ≡ s) → Sub (bit_and word (get_or rows s 0)) (get_or rows j 0)
    inner j o z (yes e) = rw e (meet_right word (get_or rows s 0))
    inner j o z (no n) =
        sub_trans (meet_left word (get_or rows s 0)) (so_far.inside j o (sym (without_other left s j n) ∙ z))

-- ---- what a block leaves of a word

module _
    (m : ℕ) (rows columns : List ℕ) (wanted extent : ℕ) (turned : Turned m rows columns) (below : wanted < 2 ^ m) (few : length rows ≤ 64)
    (fits : extent < 2 ^ 64) (with : Extent rows wanted extent) where
  pub extent_place : (s : ℕ) → bit_at extent s ≡ 1 → s < length rows
  extent_place s p = ((with s (bit_below 64 extent s fits p)).0 p).0

  module _ (left start some : ℕ) (taken : Taken rows extent start left some) where
    small : left < 2 ^ 64
    small = omega (arith, taken.most)

    -- the columns of the set have each row that is left
    pub wanted_covered : (k : ℕ) → bit_at wanted k ≡ 1 → Covered left (get_or columns k 0)
    wanted_covered k o =
        (bits_sub 64 left (get_or columns k 0) small
        (λ s hs p. let e = (with s hs).0 (taken.some s p) in
        turned k (bit_below m wanted k below o) s e.0 ∙ sub_bits wanted (get_or rows s 0) k e.1.same o)).same

    row_common : (s : ℕ) → bit_at extent s ≡ 1 → Sub (common m rows wanted) (get_or rows s 0)
    row_common s p =
        let e = (with s (bit_below 64 extent s fits p)).0 p in
        common_in m rows wanted (get_or rows s 0) (mem_get_d rows s 0 e.0) e.1

    -- and so have those of the common signals
    common_covered : (k : ℕ) → bit_at (common m rows wanted) k ≡ 1 → Covered left (get_or columns k 0)
    common_covered k o =
        (bits_sub 64 left (get_or columns k 0) small
        (λ s hs p. turned k (bit_below m (common m rows wanted) k (common_lt m rows wanted) o) s ((with s hs).0 (taken.some s p)).0
        ∙ sub_bits (common m rows wanted) (get_or rows s 0) k (row_common s (taken.some s p)).same o)).same

    module _ (after : ℕ) (begins : start < 2 ^ m) (tight : after < 2 ^ 64) (sifted : Sifted (λ k. Covered left (get_or columns k 0)) some after) where
      less : Sub after start
      less = sub_trans (bits_sub 64 after some tight (λ k _ o. ((sifted k).0 o).0)) taken.less

      under : after < 2 ^ m
      under = sub_lt m less begins

      -- a row that contains the set is taken, or is left and covered
      within : (s k : ℕ) → s < length rows → k < m → bit_at extent s ≡ 1 → bit_at after k ≡ 1 → Dec (bit_at left s ≡ 1) → bit_at (get_or rows s 0) k ≡ 1
      within s k h hk p o (yes e) = sym (turned k hk s h) ∙ sub_bits left (get_or columns k 0) s ((sifted k).0 o).1 e
      within s k h hk p o (no n) = sub_bits some (get_or rows s 0) k (taken.inside s p (omega arith)).same ((sifted k).0 o).0

      each : (r : ℕ) → Memᴰ r rows → Sub wanted r → Sub after r
      each r q c =
          let place = mem_place rows 0 q in
          let s = place.0 in
          let p : bit_at extent s ≡ 1 = (with s (omega (arith, place.1))).1 (place.1, subst (Sub wanted) (sym place.2) c) in
          subst (Sub after) place.2
          (bits_sub m after (get_or rows s 0) under (λ k hk o. within s k place.1 hk p o (ℕ_discrete (bit_at left s) 1)))

      meets : Sub (bit_and start (common m rows wanted)) after
      meets =
          let x = bit_and start (common m rows wanted) in
          let inside : Sub x (common m rows wanted) = meet_right start (common m rows wanted) in
          bits_sub m x after (sub_lt m inside (common_lt m rows wanted))
          (λ k _ o. (sifted k).1 (
            sub_bits x some k (taken.around x (meet_left start (common m rows wanted)) (λ s p. sub_trans inside (row_common s p))).same o,
            common_covered k (sub_bits x (common m rows wanted) k inside.same o),
          ))

      -- the signals of the word that all rows which contain the set have
      pub narrowed_is : after ≡ bit_and start (common m rows wanted)
      narrowed_is = sub_antisym (meet_greatest less (common_greatest m rows wanted after under each)) meets

-- ---- block after block

-- the rows of two lists have in common what those of each have
common_append : (m x : ℕ) (xs ys : List ℕ) → common m (xs ++ ys) x ≡ bit_and (common m xs x) (common m ys x)
common_append m x [] ys = sym (and_comm (2 ^ m - 1) (common m ys x) ∙ (common_full m ys x).same)
common_append m x (r ∷ xs) ys = at (cases_Bool (bit_and x r == x)) (common_append m x xs ys)
  where
    at :
        (bit_and x r == x ≡ true) ⊎ (bit_and x r == x ≡ false) → common m (xs ++ ys) x ≡ bit_and (common m xs x) (common m ys x)
        → common m (r ∷ (xs ++ ys)) x ≡ bit_and (common m (r ∷ xs) x) (common m ys x)
    at (inl t) e =
        cond-true (bit_and x r == x) (bit_and r (common m (xs ++ ys) x)) (common m (xs ++ ys) x) t ∙ ap (bit_and r) e
        ∙ sym (and_assoc r (common m xs x) (common m ys x))
        ∙ ap (λ w. bit_and w (common m ys x)) (sym (cond-true (bit_and x r == x) (bit_and r (common m xs x)) (common m xs x) t))
    at (inr t) e =
        cond-false (bit_and x r == x) (bit_and r (common m (xs ++ ys) x)) (common m (xs ++ ys) x) t ∙ e
        ∙ ap (λ w. bit_and w (common m ys x)) (sym (cond-false (bit_and x r == x) (bit_and r (common m xs x)) (common m xs x) t))

-- the columns of the rows that are left, block after block
abbrev pub BlocksLeft : (m : ℕ) (rows : List ℕ) (blocks : List (List ℕ)) → Type 0
BlocksLeft m rows [] = length rows ≡ 0
BlocksLeft m rows (columns ∷ blocks) = Turned m (take 64 rows) columns × BlocksLeft m (drop 64 rows) blocks

no_items : {X : Type 0} (xs : List X) → length xs ≡ 0 → xs ≡ []
no_items [] e = refl
no_items (x ∷ xs) e = absurd (omega arith)

-- a chunk that is cut off is the front
module _ (rows chunk others : List ℕ) (parts : rows ≡ chunk ++ others) (size : length chunk ≡ min 64 (length rows)) where
  total : length rows ≡ length chunk + length others
  total = ap length parts ∙ length-append chunk others

  pub chunk_front : chunk ≡ take 64 rows
  chunk_front = at (dec_le 64 (length rows))
    where
      at : Dec (64 ≤ length rows) → chunk ≡ take 64 rows
      at (yes l) =
          let n : length chunk ≡ 64 = omega (arith, size) in
          sym (take-append_seam chunk others) ∙ ap (take (length chunk)) (sym parts) ∙ ap (λ i. take i rows) n
      at (no g) =
          let none : others ≡ [] = no_items others (omega (arith, size, total)) in
          sym (append-nil chunk) ∙ ap (λ l. chunk ++ l) (sym none) ∙ sym parts ∙ sym (take_all 64 rows (omega arith))

  pub chunk_others : others ≡ drop 64 rows
  chunk_others = at (dec_le 64 (length rows))
    where
      at : Dec (64 ≤ length rows) → others ≡ drop 64 rows
      at (yes l) =
          let n : length chunk ≡ 64 = omega (arith, size) in
          sym (drop-append_seam chunk others) ∙ ap (drop (length chunk)) (sym parts) ∙ ap (λ i. drop i rows) n
      at (no g) =
          no_items others (omega (arith, size, total)) ∙ sym (drop_of_length-le rows {i = 64} (omega arith))

pub blocks_first : (m : ℕ) (rows : List ℕ) (blocks : List (List ℕ)) → length rows ≤ length blocks * 64 → TurnedBlocks m rows blocks → BlocksLeft m rows blocks
blocks_first m rows [] few turned = omega arith
blocks_first m rows (columns ∷ blocks) few turned = (
  λ k h s l. turned 0 (omega (arith, l, length-take 64 rows)) k h s l,
  blocks_first m (drop 64 rows) blocks (omega (arith, length-drop 64 rows))
      (λ b l.
      let e : drop (suc b * 64) rows ≡ drop (b * 64) (drop 64 rows) = ap (λ i. drop i rows) (omega arith) ∙ sym (drop-drop (b * 64) 64 rows) in
      subst (λ r. Turned m r (get_or blocks b [])) (ap (take 64) e) (turned (suc b) (omega (arith, l, length-drop 64 rows)))),
)

-- what the loop over the blocks knows: the word so far, with what the rows that are left have in common
pub record Narrowing (m : ℕ) (rows : List ℕ) (wanted : ℕ) (left : List ℕ) (blocks : List (List ℕ)) (word : ℕ) : Type 0 where
  pub turned : BlocksLeft m left blocks
  pub below : word < 2 ^ m
  pub meets : bit_and word (common m left wanted) ≡ common m rows wanted

pub narrowing_first :
    (m : ℕ) (rows : List ℕ) (wanted : ℕ) (blocks : List (List ℕ)) → length rows ≤ length blocks * 64 → TurnedBlocks m rows blocks
    → Narrowing m rows wanted rows blocks (2 ^ m - 1)
narrowing_first m rows wanted blocks few turned =
    record {
      turned = blocks_first m rows blocks few turned;
      below = ones_lt m;
      meets = and_comm (2 ^ m - 1) (common m rows wanted) ∙ (common_full m rows wanted).same;
    }

module _
    (m : ℕ) (rows : List ℕ) (wanted : ℕ) (left : List ℕ) (blocks : List (List ℕ)) (word : ℕ) (so_far : Narrowing m rows wanted left blocks word) where
  -- a block more
  module _
      (chunk others columns : List ℕ) (later : List (List ℕ)) (parts : left ≡ chunk ++ others) (size : length chunk ≡ min 64 (length left))
      (first : blocks ≡ columns ∷ later) where
    pub block_turned : Turned m chunk columns
    block_turned =
        subst (λ r. Turned m r columns) (sym (chunk_front left chunk others parts size)) (subst (BlocksLeft m left) first so_far.turned).0

    pub narrowing_more : (after : ℕ) → after ≡ bit_and word (common m chunk wanted) → Narrowing m rows wanted others later after
    narrowing_more after e =
        record {
          turned = subst (λ r. BlocksLeft m r later) (sym (chunk_others left chunk others parts size)) (subst (BlocksLeft m left) first so_far.turned).1;
          below = sub_lt m (subst (λ w. Sub w word) (sym e) (meet_left word (common m chunk wanted))) so_far.below;
          meets = ap (λ w. bit_and w (common m others wanted)) e ∙ and_assoc word (common m chunk wanted) (common m others wanted)
              ∙ ap (bit_and word) (sym (common_append m wanted chunk others) ∙ ap (λ l. common m l wanted) (sym parts)) ∙ so_far.meets;
        }

  -- nothing but the wanted signals is left
  pub narrowed_wanted : wanted < 2 ^ m → word ≡ wanted → word ≡ common m rows wanted
  narrowed_wanted below e =
      let inside : Sub (common m rows wanted) word = subst (λ w. Sub w word) so_far.meets (meet_left word (common m left wanted)) in
      e ∙ sub_antisym (common_extends m rows wanted below) (subst (Sub (common m rows wanted)) e inside)

  -- no row is left
  pub narrowed_all : length left ≡ 0 → word ≡ common m rows wanted
  narrowed_all none =
      sym (sub_full m word so_far.below).same ∙ ap (λ l. bit_and word (common m l wanted)) (sym (no_items left none)) ∙ so_far.meets

-- as the call of a block tells it
pub narrowed_as :
    {after m n : ℕ} {rows chunk : List ℕ} (word wanted : ℕ) → after ≡ bit_and word (common m rows wanted) → m ≡ n → rows ≡ chunk
    → after ≡ bit_and word (common n chunk wanted)
narrowed_as word wanted e k r = cc

-- ---- the columns are made

-- one row more at the front of a column
abbrev pub gathered : (k word row : ℕ) → ℕ
gathered k word row = bit_or ((word * 2 ^ 1) % 2 ^ 64) (row / 2 ^ k % 2)

-- the bits of that weight of the rows
pub record Gathered (k : ℕ) (rows : List ℕ) (word : ℕ) : Type 0 where
  pub low : word < 2 ^ length rows
  pub column : Column rows k word

and_front : (w b : ℕ) → b < 2 → bit_and (w * 2) b ≡ 0
and_front w b h =
    let none : b / 2 ≡ 0 = omega arith in
    let double : w * 2 / 2 ≡ w = omega arith in
    let half : bit_and (w * 2) b / 2 ≡ 0 =
    and_half (w * 2) b ∙ ap (λ x. bit_and x (b / 2)) double ∙ ap (bit_and w) none ∙ and_comm w 0 ∙ (zero_sub w).same in
    omega (arith, and_low (w * 2) b, half)

gathered_more : (k row word n : ℕ) → n < 64 → word < 2 ^ n → gathered k word row ≡ word * 2 + bit_at row k
gathered_more k row word n l h =
    let most : n ≤ 63 = omega arith in
    let tight : 2 ^ n ≤ 2 ^ 63 = pow_mono most in
    let shift : (word * 2) % 2 ^ 64 ≡ word * 2 = mod-eq_of_lt (omega (arith, h, tight)) in
    let apart : bit_and (word * 2) (bit_at row k) ≡ 0 = and_front word (bit_at row k) (omega arith) in
    ap (λ w. bit_or w (bit_at row k)) shift ∙ or_disjoint (word * 2) (bit_at row k) apart

pub gathers : (k : ℕ) (rows : List ℕ) → length rows ≤ 64 → Gathered k rows (fold (gathered k) 0 (reverse rows))
gathers k [] few = record { low = omega arith; column = λ s l. absurd (omega arith) }
gathers k (r ∷ rows) few = at (gathers k rows (omega arith))
  where
    so_far : ℕ
    so_far = fold (gathered k) 0 (reverse rows)

    bit : Gathered k rows so_far → (s : ℕ) → s < suc (length rows) → bit_at (so_far * 2 + bit_at r k) s ≡ bit_at (get_or (r ∷ rows) s 0) k
    bit g zero l = bit_front so_far (bit_at r k) (omega arith)
    bit g (suc s) l = bit_behind so_far (bit_at r k) s (omega arith) ∙ g.column s (omega arith)

    at : Gathered k rows so_far → Gathered k (r ∷ rows) (fold (gathered k) 0 (reverse (r ∷ rows)))
    at g =
        let same : fold (gathered k) 0 (reverse (r ∷ rows)) ≡ so_far * 2 + bit_at r k =
        ap (fold (gathered k) 0) (reverse_onto rows r []) ∙ fold-append (gathered k) 0 (reverse rows) (r ∷ [])
        ∙ gathered_more k r so_far (length rows) (omega arith) g.low in
        rw same record { low = omega (arith, g.low, pow-suc 2 (length rows)); column = bit g }

-- the blocks so far are turned
abbrev pub Made : (m : ℕ) (rows : List ℕ) (blocks : List (List ℕ)) (b : ℕ) → Type 0
Made m rows blocks b = (j : ℕ) → j < b → j * 64 < length rows → Turned m (block rows j) (get_or blocks j [])

pub made_more :
    (m : ℕ) (rows : List ℕ) (blocks : List (List ℕ)) (b : ℕ) (columns : List ℕ) → Made m rows blocks b → b < length blocks
    → Turned m (block rows b) columns → Made m rows (set blocks b columns) (b + 1)
made_more m rows blocks b columns so_far lt here =
    below_more (λ j. j * 64 < length rows → Turned m (block rows j) (get_or (set blocks b columns) j [])) b
    (λ j h. let n : j ≢ b = omega arith in subst (λ c. j * 64 < length rows → Turned m (block rows j) c) (sym (get_or-set_other blocks b j columns [] n)) (so_far j h))
    (λ _. subst (Turned m (block rows b)) (sym (get_or-set_same blocks b columns [] lt)) here)
