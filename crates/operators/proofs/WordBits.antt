-- Words bit by bit: what the operations do to a bit, and words that lose one bit after the other.
use Rattle.std.proofs.Common.{◌≡◌, ℕ, zero, suc, ◌+◌, ◌-◌, ◌*◌, ◌/◌, ◌%◌, ◌^◌, ◌<◌, ◌≤◌, min, ◌≢◌, ◌↔◌, sym, refl, ap, ◌∙◌, lt_of_lt_of_le, pow-suc, div-one, arith, lit<, pow_pos, pow_mono, Some}
use native.Mathlib.Decide.{ℕ_discrete, dec_lt}
use native.Mathlib.Nat.{zero-div, div_self, div-eq_of_lt, div-div-eq-div-mul, pow-succ'}
use lib.Bits.{bit_and, bit_xor, and_comm, and_shr, xor_shr, xor_add_and}
use lib.Count.{count_trailing_zeros, under}
use lib.Pow.{pow-lt}
use Rattle.std.proofs.lemmas.Nat.{pow-add, one_shl, shl-shr, shr-shr}
use Rattle.theory.specs.Words.{Sub}
use Rattle.theory.proofs.Lattice.{and_low, sub_full}
use Rattle.theory.proofs.Signals.{signals_sub}
use Rattle.operators.specs.Columns.{bit_at, TakesBit}

-- ---- a bit of the results

pub bit_zero : (k : ℕ) → bit_at 0 k ≡ 0
bit_zero k = ap (λ x. x % 2) (zero-div (2 ^ k))

pub bit_and_at : (a b k : ℕ) → bit_at (bit_and a b) k ≡ min (bit_at a k) (bit_at b k)
bit_and_at a b k = ap (λ x. x % 2) (and_shr a b k) ∙ and_low (a / 2 ^ k) (b / 2 ^ k)

pub bit_xor_at : (a b k : ℕ) → bit_at (bit_xor a b) k ≡ (bit_at a k + bit_at b k) % 2
bit_xor_at a b k = ap (λ x. x % 2) (xor_shr a b k) ∙ omega (arith, xor_add_and (a / 2 ^ k) (b / 2 ^ k))

-- a power of two has one bit
pub bit_pow : (k : ℕ) → bit_at (2 ^ k) k ≡ 1
bit_pow k = ap (λ x. x % 2) (div_self (pow_pos k))

bit_pow_other : (k j : ℕ) → j ≢ k → bit_at (2 ^ k) j ≡ 0
bit_pow_other k j n = at (dec_lt k j)
  where
    at : Dec (k < j) → bit_at (2 ^ k) j ≡ 0
    at (yes l) = ap (λ x. x % 2) (div-eq_of_lt (pow-lt l))
    at (no m) =
        let e : k ≡ (k - j - 1 + 1) + j = omega arith in
        let p : 2 ^ k ≡ (2 ^ (k - j - 1) * 2) * 2 ^ j = ap (λ x. 2 ^ x) e ∙ pow-add 2 (k - j - 1 + 1) j ∙ ap (λ x. x * 2 ^ j) (pow-add 2 (k - j - 1) 1) in
        ap (λ x. x / 2 ^ j % 2) p ∙ ap (λ x. x % 2) (shl-shr (2 ^ (k - j - 1) * 2) j) ∙ omega arith

-- ---- one set inside another, by bits

pub bits_sub : (n a b : ℕ) → a < 2 ^ n → ((k : ℕ) → k < n → bit_at a k ≡ 1 → bit_at b k ≡ 1) → Sub a b
bits_sub n a b h f = signals_sub n a b h (λ i l. f (n - 1 - i) (omega arith))

pub sub_bit : (a b k : ℕ) → bit_and a b ≡ a → bit_at a k ≤ bit_at b k
sub_bit a b k e = let s = ap (λ x. bit_at x k) e in omega (arith, bit_and_at a b k)

pub sub_bits : (a b k : ℕ) → bit_and a b ≡ a → bit_at a k ≡ 1 → bit_at b k ≡ 1
sub_bits a b k e h = omega (arith, sub_bit a b k e)

-- all bits of 2 ^ n - 1 below n are 1
pub bit_full : (n k : ℕ) → k < n → bit_at (2 ^ n - 1) k ≡ 1
bit_full n k h = sub_bits (2 ^ k) (2 ^ n - 1) k (sub_full n (2 ^ k) (pow-lt h)).same (bit_pow k)

-- the bits that a word lacks
pub bit_not : (n w k : ℕ) → w < 2 ^ n → k < n → bit_at (2 ^ n - 1 - w) k ≡ 1 - bit_at w k
bit_not n w k h l =
    let meet : bit_and (2 ^ n - 1) w ≡ w = and_comm (2 ^ n - 1) w ∙ (sub_full n w h).same in
    let e : 2 ^ n - 1 - w ≡ bit_xor (2 ^ n - 1) w = omega (arith, xor_add_and (2 ^ n - 1) w, h) in
    ap (λ x. bit_at x k) e ∙ omega (arith, bit_xor_at (2 ^ n - 1) w k, bit_full n k l)

-- ---- the bits that are left of a word, lowest first

pub trailing_bit : (n w : ℕ) → 0 < w → w < 2 ^ n → (count_trailing_zeros n w < n) × (bit_at w (count_trailing_zeros n w) ≡ 1)
unfolding count_trailing_zeros
trailing_bit zero w p h = absurd (omega arith)
trailing_bit (suc n) w p h = at (w % 2) refl (trailing_bit n (w / 2))
  where
    at :
        (d : ℕ) → w % 2 ≡ d
        → (0 < w / 2 → w / 2 < 2 ^ n → (count_trailing_zeros n (w / 2) < n) × (bit_at (w / 2) (count_trailing_zeros n (w / 2)) ≡ 1))
        → (under d (count_trailing_zeros n (w / 2)) < suc n) × (bit_at w (under d (count_trailing_zeros n (w / 2))) ≡ 1)
    at zero e below =
        let t = below (omega arith) (omega (arith, pow-suc 2 n)) in (
          omega (arith, t.0),
          ap (λ x. w / x % 2) (pow-succ' 2 (count_trailing_zeros n (w / 2)))
              ∙ ap (λ x. x % 2) (sym (div-div-eq-div-mul w 2 (2 ^ count_trailing_zeros n (w / 2)))) ∙ t.1,
        )
    at (suc d) e _ = (omega arith, ap (λ x. x % 2) (div-one w) ∙ omega arith)

-- a bit that a word has is below its length
pub bit_below : (n w k : ℕ) → w < 2 ^ n → bit_at w k ≡ 1 → k < n
bit_below n w k h e = at (dec_lt k n)
  where
    at : Dec (k < n) → k < n
    at (yes l) = l
    at (no o) =
        let small : w / 2 ^ k ≡ 0 = div-eq_of_lt (lt_of_lt_of_le h (pow_mono (omega arith))) in
        absurd (omega arith)

-- the n lowest bits
pub bits_first : (n s : ℕ) → n ≤ 64 → s < 64 → (bit_at ((2 ^ 64 - 1) / 2 ^ (64 - n)) s ≡ 1) ↔ (s < n)
bits_first n s l h =
    let e : bit_at ((2 ^ 64 - 1) / 2 ^ (64 - n)) s ≡ bit_at (2 ^ 64 - 1) (64 - n + s) = ap (λ x. x % 2) (shr-shr (2 ^ 64 - 1) (64 - n) s) in (
      λ p. omega (arith, bit_below 64 (2 ^ 64 - 1) (64 - n + s) (lit< tt) (sym e ∙ p)),
      λ q. e ∙ bit_full 64 (64 - n + s) (omega arith),
    )

-- taking a bit out
module _ (w k : ℕ) (has : bit_at w k ≡ 1) where
  pub without_same : bit_at (bit_xor w (2 ^ k)) k ≡ 0
  without_same = omega (arith, bit_xor_at w (2 ^ k) k, bit_pow k)

  pub without_less : bit_xor w (2 ^ k) < w
  without_less =
      let e : bit_and (2 ^ k) w ≡ 2 ^ k = (bits_sub (suc k) (2 ^ k) w (pow-lt (omega arith)) (λ j _ p. at j p (ℕ_discrete j k))).same in
      omega (arith, xor_add_and w (2 ^ k), and_comm w (2 ^ k), pow_pos k)
    where
      at : (j : ℕ) → bit_at (2 ^ k) j ≡ 1 → Dec (j ≡ k) → bit_at w j ≡ 1
      at j p (yes e) = rw e has
      at j p (no n) = absurd (omega (arith, bit_pow_other k j n))

pub without_other : (w k j : ℕ) → j ≢ k → bit_at (bit_xor w (2 ^ k)) j ≡ bit_at w j
without_other w k j n = omega (arith, bit_xor_at w (2 ^ k) j, bit_pow_other k j n)

-- the lowest bit is taken, as the code writes it
takes_lowest_at :
    (w k : ℕ) → k < 64 → bit_at w k ≡ 1 → TakesBit w (Some k) (bit_xor w ((1 * 2 ^ k) % 2 ^ 64)) × (bit_xor w ((1 * 2 ^ k) % 2 ^ 64) < w)
takes_lowest_at w k lt has = rw (one_shl k 64 lt) ((lt, has, refl), without_less w k has)

module _ (w : ℕ) (some : 0 < w) (fits : w < 2 ^ 64) where
  pub takes_lowest : TakesBit w (Some (count_trailing_zeros 64 w)) (bit_xor w ((1 * 2 ^ count_trailing_zeros 64 w) % 2 ^ 64))
  takes_lowest = let bit = trailing_bit 64 w some fits in (takes_lowest_at w (count_trailing_zeros 64 w) bit.0 bit.1).0

  pub lowest_less : bit_xor w ((1 * 2 ^ count_trailing_zeros 64 w) % 2 ^ 64) < w
  lowest_less = let bit = trailing_bit 64 w some fits in (takes_lowest_at w (count_trailing_zeros 64 w) bit.0 bit.1).1

-- a word with one bit more at the front
pub bit_front : (w b : ℕ) → b < 2 → bit_at (w * 2 + b) 0 ≡ b
bit_front w b h = ap (λ x. x % 2) (div-one (w * 2 + b)) ∙ omega arith

pub bit_behind : (w b k : ℕ) → b < 2 → bit_at (w * 2 + b) (suc k) ≡ bit_at w k
bit_behind w b k h =
    let half : (w * 2 + b) / 2 ≡ w = omega arith in
    ap (λ x. (w * 2 + b) / x % 2) (pow-succ' 2 k) ∙ ap (λ x. x % 2) (sym (div-div-eq-div-mul (w * 2 + b) 2 (2 ^ k))) ∙ ap (λ x. x / 2 ^ k % 2) half

-- ---- a word of which bits are tested one after the other

-- of the bits of the start those left are still to test, and of the others just those that pass are in the word
pub record Sifting (Passes : ℕ → Type 0) (start left word : ℕ) : Type 0 where
  pub untested : (k : ℕ) → bit_at left k ≡ 1 → (bit_at word k ≡ 1) × (bit_at start k ≡ 1)
  pub tested : (k : ℕ) → bit_at left k ≡ 0 → (bit_at word k ≡ 1) ↔ ((bit_at start k ≡ 1) × Passes k)

module _ (Passes : ℕ → Type 0) (start : ℕ) where
  -- all but some bits that pass
  pub sifting_first : (some : ℕ) → start < 2 ^ 64 → some < 2 ^ 64 → ((k : ℕ) → bit_at some k ≡ 1 → Passes k) → Sifting Passes start (bit_and start (2 ^ 64 - 1 - some)) start
  sifting_first some tight fits passes =
      record {
        untested = λ k e.
            let one : bit_at start k ≡ 1 = omega (arith, bit_and_at start (2 ^ 64 - 1 - some) k) in (one, one);
        tested = λ k e. (
          λ o. (o, passes k (omega (arith, bit_and_at start (2 ^ 64 - 1 - some) k, bit_not 64 some k fits (bit_below 64 start k tight o)))),
          λ q. q.0,
        );
      }

  module _ (left word k rest : ℕ) (so_far : Sifting Passes start left word) (takes : TakesBit left (Some k) rest) where
    has : bit_at left k ≡ 1
    has = takes.1

    apart : (j : ℕ) → bit_at rest j ≡ 1 → j ≢ k
    apart j p e = omega (arith, without_same left k has, ap (λ w. bit_at w k) takes.2, ap (bit_at rest) e)

    other : (j : ℕ) → j ≢ k → bit_at rest j ≡ bit_at left j
    other j n = ap (λ w. bit_at w j) takes.2 ∙ without_other left k j n

    earlier : (j : ℕ) → bit_at rest j ≡ 1 → (bit_at word j ≡ 1) × (bit_at start j ≡ 1)
    earlier j p = so_far.untested j (sym (other j (apart j p)) ∙ p)

    -- a bit that passes stays
    pub sifting_keep : Passes k → Sifting Passes start rest word
    sifting_keep passes = record { untested = earlier; tested = λ j p. at j p (ℕ_discrete j k) }
      where
        at : (j : ℕ) → bit_at rest j ≡ 0 → Dec (j ≡ k) → (bit_at word j ≡ 1) ↔ ((bit_at start j ≡ 1) × Passes j)
        at j p (yes e) = rw e (λ _. ((so_far.untested k has).1, passes), λ _. (so_far.untested k has).0)
        at j p (no n) = so_far.tested j (sym (other j n) ∙ p)

    -- another goes
    pub sifting_drop : (Passes k → ⊥) → Sifting Passes start rest (bit_xor word ((1 * 2 ^ k) % 2 ^ 64))
    sifting_drop fails =
        rw (one_shl k 64 takes.0)
        record {
          untested = λ j p. let o = earlier j p in (without_other word k j (apart j p) ∙ o.0, o.1);
          tested = λ j p. at j p (ℕ_discrete j k);
        }
      where
        at : (j : ℕ) → bit_at rest j ≡ 0 → Dec (j ≡ k) → (bit_at (bit_xor word (2 ^ k)) j ≡ 1) ↔ ((bit_at start j ≡ 1) × Passes j)
        at j p (yes e) =
            rw e
            (λ o. absurd (omega (arith, o, without_same word k (so_far.untested k has).0)), λ q. absurd (fails q.1))
        at j p (no n) =
            let was = so_far.tested j (sym (other j n) ∙ p) in
            (λ o. was.0 (sym (without_other word k j n) ∙ o), λ q. without_other word k j n ∙ was.1 q)
