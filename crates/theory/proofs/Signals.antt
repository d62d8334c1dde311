-- Subset, lectic order and equality of words, read signal by signal.
use Rattle.std.proofs.Common.{◌≡◌, ℕ, zero, suc, ◌-◌, ◌/◌, ◌%◌, ◌^◌, ◌<◌, ◌≤◌, min, max, ◌⊎◌, ◌↔◌, sym, ap, ◌∙◌, inl, inr, pow-suc, arith}
use native.Mathlib.Nat.{div-div-eq-div-mul, pow-succ'}
use native.Mathlib.Decide.{ℕ_discrete, dec_lt}
use lib.Arith.{lt-one}
use lib.Bits.{bit_and, bit_or, and_shr, or_shr}
use Rattle.theory.specs.Words.{bit_of, Has, Sub, Before}
use Rattle.theory.proofs.Lattice.{by_halves, and_half, and_low, or_low}

-- ---- one signal more: the last signal is the low bit, the others are those of the half

pub bit_half : (m i w : ℕ) → i < m → bit_of (suc m) i w ≡ bit_of m i (w / 2)
bit_half m i w h =
    let e : suc m - 1 - i ≡ suc (m - 1 - i) = omega arith in
    ap (λ k. w / 2 ^ k % 2) e ∙ ap (λ x. w / x % 2) (pow-succ' 2 (m - 1 - i))
    ∙ ap (λ x. x % 2) (sym (div-div-eq-div-mul w 2 (2 ^ (m - 1 - i))))

pub bit_last : (m w : ℕ) → bit_of (suc m) m w ≡ w % 2
bit_last m w = let e : suc m - 1 - m ≡ 0 = omega arith in ap (λ k. w / 2 ^ k % 2) e ∙ ap (λ x. x % 2) (omega arith)

half_lt : (m w : ℕ) → w < 2 ^ suc m → w / 2 < 2 ^ m
half_lt m w h = omega (arith, pow-suc 2 m)

-- a signal of the half is that signal of the word
half_has : (m i w : ℕ) → i < m → Has (suc m) i w ↔ Has m i (w / 2)
half_has m i w h = (λ p. sym (bit_half m i w h) ∙ p, λ p. bit_half m i w h ∙ p)

last_has : (m w : ℕ) → Has (suc m) m w ↔ (w % 2 ≡ 1)
last_has m w = (λ p. sym (bit_last m w) ∙ p, λ p. bit_last m w ∙ p)

same_half : (m a b k : ℕ) → k ≤ m → ((i : ℕ) → i < k → Has (suc m) i a ↔ Has (suc m) i b) → (i : ℕ) → i < k → Has m i (a / 2) ↔ Has m i (b / 2)
same_half m a b k l f i h =
    let lt : i < m = omega arith in
    (λ p. (half_has m i b lt).0 ((f i h).0 ((half_has m i a lt).1 p)), λ p. (half_has m i a lt).0 ((f i h).1 ((half_has m i b lt).1 p)))

same_whole : (m a b : ℕ) → a / 2 ≡ b / 2 → (i : ℕ) → i < m → Has (suc m) i a ↔ Has (suc m) i b
same_whole m a b e i h = (
  λ p. bit_half m i b h ∙ ap (bit_of m i) (sym e) ∙ sym (bit_half m i a h) ∙ p,
  λ p. bit_half m i a h ∙ ap (bit_of m i) e ∙ sym (bit_half m i b h) ∙ p,
)

same_low : (a b : ℕ) → (a % 2 ≡ 1) ↔ (b % 2 ≡ 1) → a % 2 ≡ b % 2
same_low a b f = at (ℕ_discrete (a % 2) 1) (ℕ_discrete (b % 2) 1)
  where
    at : Dec (a % 2 ≡ 1) → Dec (b % 2 ≡ 1) → a % 2 ≡ b % 2
    at (yes p) q = p ∙ sym (f.0 p)
    at (no n) (yes q) = absurd (n (f.1 q))
    at (no n) (no o) = omega arith

-- ---- two words are equal exactly when they have the same signals

pub same_word : (m a b : ℕ) → a < 2 ^ m → b < 2 ^ m → ((i : ℕ) → i < m → Has m i a ↔ Has m i b) → a ≡ b
same_word zero a b ha hb f = lt-one ha ∙ sym (lt-one hb)
same_word (suc m) a b ha hb f =
    by_halves a b
    (same_word m (a / 2) (b / 2) (half_lt m a ha) (half_lt m b hb) (same_half m a b m (omega arith) (λ i h. f i (omega arith))))
    (same_low a b (
      λ p. (last_has m b).0 ((f m (omega arith)).0 ((last_has m a).1 p)),
      λ p. (last_has m a).0 ((f m (omega arith)).1 ((last_has m b).1 p)),
    ))

pub word_iff_signals : (m a b : ℕ) → a < 2 ^ m → b < 2 ^ m → (a ≡ b) ↔ ((i : ℕ) → i < m → Has m i a ↔ Has m i b)
word_iff_signals m a b ha hb =
    (λ e i h. (λ p. ap (bit_of m i) (sym e) ∙ p, λ p. ap (bit_of m i) e ∙ p), same_word m a b ha hb)

-- ---- a lies inside b exactly when every signal of a is one of b

sub_halves : (a b : ℕ) → Sub (a / 2) (b / 2) → (a % 2 ≡ 1 → b % 2 ≡ 1) → Sub a b
sub_halves a b p f =
    record { same = by_halves (bit_and a b) a (and_half a b ∙ p.same) (and_low a b ∙ at (ℕ_discrete (a % 2) 1)) }
  where
    at : Dec (a % 2 ≡ 1) → min (a % 2) (b % 2) ≡ a % 2
    at (yes e) = omega (arith, f e)
    at (no n) = omega arith

pub signals_sub : (m a b : ℕ) → a < 2 ^ m → ((i : ℕ) → i < m → Has m i a → Has m i b) → Sub a b
signals_sub zero a b ha f = record { same = ap (λ x. bit_and x b) (lt-one ha) ∙ sym (lt-one ha) }
signals_sub (suc m) a b ha f =
    sub_halves a b
    (signals_sub m (a / 2) (b / 2) (half_lt m a ha)
    (λ i h p. (half_has m i b h).0 (f i (omega arith) ((half_has m i a h).1 p))))
    (λ p. (last_has m b).0 (f m (omega arith) ((last_has m a).1 p)))

pub bit_and_at : (m i a b : ℕ) → bit_of m i (bit_and a b) ≡ min (bit_of m i a) (bit_of m i b)
bit_and_at m i a b = ap (λ x. x % 2) (and_shr a b (m - 1 - i)) ∙ and_low (a / 2 ^ (m - 1 - i)) (b / 2 ^ (m - 1 - i))

pub bit_or_at : (m i a b : ℕ) → bit_of m i (bit_or a b) ≡ max (bit_of m i a) (bit_of m i b)
bit_or_at m i a b = ap (λ x. x % 2) (or_shr a b (m - 1 - i)) ∙ or_low (a / 2 ^ (m - 1 - i)) (b / 2 ^ (m - 1 - i))

pub sub_signals : {a b : ℕ} (m : ℕ) → Sub a b → (i : ℕ) → Has m i a → Has m i b
sub_signals {a} {b} m p i h = let e = ap (bit_of m i) p.same in omega (arith, bit_and_at m i a b)

pub sub_iff_signals : (m a b : ℕ) → a < 2 ^ m → Sub a b ↔ ((i : ℕ) → i < m → Has m i a → Has m i b)
sub_iff_signals m a b ha = (λ p i _. sub_signals m p i, signals_sub m a b ha)

-- ---- the signals of the meet and of the join

pub meet_signals : (m i a b : ℕ) → Has m i (bit_and a b) ↔ (Has m i a × Has m i b)
meet_signals m i a b =
    (λ h. (omega (arith, bit_and_at m i a b), omega (arith, bit_and_at m i a b)), λ h. omega (arith, bit_and_at m i a b))

pub join_signals : (m i a b : ℕ) → Has m i (bit_or a b) ↔ (Has m i a ⊎ Has m i b)
join_signals m i a b = (λ h. at h (ℕ_discrete (bit_of m i a) 1), back)
  where
    at : Has m i (bit_or a b) → Dec (Has m i a) → Has m i a ⊎ Has m i b
    at h (yes p) = inl p
    at h (no n) = inr (omega (arith, bit_or_at m i a b))

    back : Has m i a ⊎ Has m i b → Has m i (bit_or a b)
    back (inl p) = omega (arith, bit_or_at m i a b)
    back (inr p) = omega (arith, bit_or_at m i a b)

-- ---- a is the smaller word exactly when it comes before b

pub lt_before : (m a b : ℕ) → a < 2 ^ m → b < 2 ^ m → a < b → Before m a b
lt_before zero a b ha hb h = absurd (omega arith)
lt_before (suc m) a b ha hb h =
    at (ℕ_discrete (a / 2) (b / 2)) (lt_before m (a / 2) (b / 2) (half_lt m a ha) (half_lt m b hb))
  where
    up : Before m (a / 2) (b / 2) → Before (suc m) a b
    up f =
        let l = f.low in
        record {
          at = f.at;
          low = omega arith;
          agree = λ i h.
              let lt : i < m = omega arith in (
                λ p. (half_has m i b lt).1 ((f.agree i h).0 ((half_has m i a lt).0 p)),
                λ p. (half_has m i a lt).1 ((f.agree i h).1 ((half_has m i b lt).0 p)),
              );
          lacks = λ p. f.lacks ((half_has m f.at a l).0 p);
          has = (half_has m f.at b l).1 f.has;
        }

    at : Dec (a / 2 ≡ b / 2) → (a / 2 < b / 2 → Before m (a / 2) (b / 2)) → Before (suc m) a b
    at (yes e) _ =
        record {
          at = m;
          low = omega arith;
          agree = same_whole m a b e;
          lacks = λ p. let q = (last_has m a).0 p in omega arith;
          has = (last_has m b).1 (omega arith);
        }
    at (no n) half = up (half (omega arith))

pub before_lt : (m a b : ℕ) → a < 2 ^ m → b < 2 ^ m → Before m a b → a < b
before_lt zero a b ha hb f = let l = f.low in absurd (omega arith)
before_lt (suc m) a b ha hb f =
    at (dec_lt f.at m) (before_lt m (a / 2) (b / 2) (half_lt m a ha) (half_lt m b hb))
  where
    at : Dec (f.at < m) → (Before m (a / 2) (b / 2) → a / 2 < b / 2) → a < b
    at (yes l) below =
        let half : a / 2 < b / 2 =
        below
        record {
          at = f.at;
          low = l;
          agree = same_half m a b f.at (omega arith) f.agree;
          lacks = λ p. f.lacks ((half_has m f.at a l).1 p);
          has = (half_has m f.at b l).0 f.has;
        } in
        omega arith
    at (no n) _ =
        let e : f.at ≡ m = omega (arith, f.low) in
        let half : a / 2 ≡ b / 2 =
        same_word m (a / 2) (b / 2) (half_lt m a ha) (half_lt m b hb)
        (same_half m a b m (omega arith) (λ i h. f.agree i (omega arith))) in
        let one : b % 2 ≡ 1 = (last_has m b).0 (rw e at f.has) in
        let other : a % 2 ≡ 1 → ⊥ = λ p. f.lacks (rw e ((last_has m a).1 p)) in
        omega arith

pub lt_iff_before : (m a b : ℕ) → a < 2 ^ m → b < 2 ^ m → (a < b) ↔ Before m a b
lt_iff_before m a b ha hb = (lt_before m a b ha hb, before_lt m a b ha hb)
