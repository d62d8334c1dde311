-- The next closed word after a: the bits that a lacks are tried from the lowest up, and the first that passes gives it.
use Rattle.std.proofs.Common.{◌≡◌, ℕ, zero, suc, ◌+◌, ◌-◌, ◌*◌, ◌/◌, ◌%◌, ◌^◌, ◌<◌, ◌≤◌, ◌⊎◌, ◌↔◌, sym, ap, ◌∙◌, subst, inl, inr, mod-lt, mul_assoc, pow-suc, arith, pow_pos, pow-add, shl_lt, shr-shr, shr_lt}
use native.Mathlib.Nat.{div-div-eq-div-mul, pow-succ'}
use native.Mathlib.Decide.{ℕ_discrete, dec_lt}
use lib.Bits.{bit_and, bit_or, and_block, and_self, or_step, or_zero_r, shifted_even}
use lib.Pow.{shl-shr, shr_mono, split, ones_lt}
use Rattle.theory.specs.Words.{bit_of, Has, Sub}
use Rattle.theory.specs.Closures.{Closure, Closed, LeastClosed}
use Rattle.theory.proofs.Closures.{full_closed, closure_inside}
use Rattle.theory.proofs.Lattice.{sub_le}
use Rattle.theory.proofs.Signals.{same_word}

-- ---- shifts by one more

pub shr_suc : (w k : ℕ) → w / 2 ^ suc k ≡ w / 2 ^ k / 2
shr_suc w k = ap (λ x. w / x) (pow-suc 2 k) ∙ sym (div-div-eq-div-mul w (2 ^ k) 2)

pub half_shr : (w k : ℕ) → w / 2 / 2 ^ k ≡ w / 2 ^ suc k
half_shr w k = div-div-eq-div-mul w 2 (2 ^ k) ∙ ap (λ x. w / x) (sym (pow-succ' 2 k))

pub shr_more : (v w : ℕ) {i j : ℕ} → i ≤ j → v / 2 ^ i ≡ w / 2 ^ i → v / 2 ^ j ≡ w / 2 ^ j
shr_more v w {i} {j} h e =
    let s : j ≡ i + (j - i) = omega arith in
    ap (λ x. v / 2 ^ x) s ∙ sym (shr-shr v i (j - i)) ∙ ap (λ x. x / 2 ^ (j - i)) e ∙ shr-shr w i (j - i) ∙ ap (λ x. w / 2 ^ x) (sym s)

pub lt_by_shr : (v w k : ℕ) → v / 2 ^ k < w / 2 ^ k → v < w
lt_by_shr v w k h = at (dec_lt v w)
  where
    at : Dec (v < w) → v < w
    at (yes l) = l
    at (no n) = let l : w ≤ v = omega arith in absurd (omega (arith, shr_mono k l))

-- a word without its lowest k bits lies inside it
pub high_sub : (y k : ℕ) → Sub (y / 2 ^ k * 2 ^ k) y
high_sub y k =
    let q = y / 2 ^ k in
    let zeros : q * 2 ^ k + 0 ≡ q * 2 ^ k = omega arith in
    record {
      same = ap (λ x. bit_and x y) (sym zeros) ∙ ap (bit_and (q * 2 ^ k + 0)) (sym (split y k))
          ∙ and_block k q q 0 (y % 2 ^ k) (pow_pos k) (mod-lt y (pow_pos k)) ∙ ap (λ x. x * 2 ^ k + 0) (and_self q) ∙ zeros;
    }

-- ---- the highest bit in which a smaller and a larger word differ

pub record Highest (m a y : ℕ) : Type 0 where
  pub at : ℕ
  pub low : at < m
  pub agree : a / 2 ^ suc at ≡ y / 2 ^ suc at
  pub more : y / 2 ^ at ≡ suc (a / 2 ^ at)

pub highest : (m a y : ℕ) → y < 2 ^ m → a < y → Highest m a y
highest zero a y hy h = absurd (omega arith)
highest (suc m) a y hy h = at (ℕ_discrete (a / 2) (y / 2)) (highest m (a / 2) (y / 2) (omega (arith, pow-suc 2 m)))
  where
    up : Highest m (a / 2) (y / 2) → Highest (suc m) a y
    up f =
        record {
          at = suc f.at;
          low = omega (arith, f.low);
          agree = sym (half_shr a (suc f.at)) ∙ f.agree ∙ half_shr y (suc f.at);
          more = sym (half_shr y f.at) ∙ f.more ∙ ap suc (half_shr a f.at);
        }

    at : Dec (a / 2 ≡ y / 2) → (a / 2 < y / 2 → Highest m (a / 2) (y / 2)) → Highest (suc m) a y
    at (yes e) _ = record { at = 0; low = omega arith; agree = e; more = omega arith }
    at (no n) half = up (half (omega arith))

-- ---- the word that is tried at the bit k: the bits of a above k, the bit k, and none below

abbrev pub trial : (a k : ℕ) → ℕ
trial a k = (a / 2 ^ suc k * 2 + 1) * 2 ^ k

-- the closure of the word tried agrees with a above the bit k
abbrev pub Passes : (c : ℕ → ℕ) (a k : ℕ) → Type 0
Passes c a k = c (trial a k) / 2 ^ suc k ≡ a / 2 ^ suc k

-- no bit below k that a lacks passes
abbrev pub NotYet : (c : ℕ → ℕ) (a k : ℕ) → Type 0
NotYet c a k = (j : ℕ) → j < k → a / 2 ^ j % 2 ≡ 0 → Passes c a j → ⊥

pub trial_from : (a k : ℕ) → trial a k / 2 ^ k ≡ a / 2 ^ suc k * 2 + 1
trial_from a k = shl-shr (a / 2 ^ suc k * 2 + 1) k

pub trial_above : (a k : ℕ) → trial a k / 2 ^ suc k ≡ a / 2 ^ suc k
trial_above a k = omega (arith, shr_suc (trial a k) k, trial_from a k)

-- as code writes it
pub trial_or : (a k : ℕ) → bit_or (a / 2 ^ k) 1 * 2 ^ k ≡ trial a k
trial_or a k =
    let q = a / 2 ^ k in
    let e : bit_or q 1 ≡ a / 2 ^ suc k * 2 + 1 = omega (arith, shr_suc a k, or_step q 1, or_zero_r (q / 2)) in
    ap (λ x. x * 2 ^ k) e

-- where a lacks the bit k
pub trial_lacks : (a k : ℕ) → a / 2 ^ k % 2 ≡ 0 → (a / 2 ^ k + 1) * 2 ^ k ≡ trial a k
trial_lacks a k h =
    let e : a / 2 ^ k + 1 ≡ a / 2 ^ suc k * 2 + 1 = omega (arith, shr_suc a k) in
    ap (λ x. x * 2 ^ k) e

pub trial_lt : (m a k : ℕ) → a < 2 ^ m → k < m → trial a k < 2 ^ m
trial_lt m a k ha hk =
    let j = m - suc k in
    let s : m ≡ j + suc k = omega arith in
    let t : suc j + k ≡ m = omega arith in
    let q : a / 2 ^ suc k < 2 ^ j = shr_lt j (suc k) (rw s at ha) in
    let r : a / 2 ^ suc k * 2 + 1 < 2 ^ suc j = omega (arith, pow-suc 2 j) in
    rw t at (shl_lt (suc j) k r)

-- ---- the search, bit by bit

module _ (c : ℕ → ℕ) (a : ℕ) where
  pub not_yet_none : NotYet c a 0
  not_yet_none j h = absurd (omega arith)

  not_yet_more : (k : ℕ) → NotYet c a k → (a / 2 ^ k % 2 ≡ 0 → Passes c a k → ⊥) → NotYet c a (suc k)
  not_yet_more k below here j h = at (ℕ_discrete j k)
    where
      at : Dec (j ≡ k) → a / 2 ^ j % 2 ≡ 0 → Passes c a j → ⊥
      at (yes e) = subst (λ x. a / 2 ^ x % 2 ≡ 0 → Passes c a x → ⊥) (sym e) here
      at (no n) = below j (omega arith)

  -- a has the bit k
  pub not_yet_has : (k : ℕ) → NotYet c a k → a / 2 ^ k % 2 ≡ 1 → NotYet c a (suc k)
  not_yet_has k below one = not_yet_more k below (λ zero _. omega arith)

  -- the bit k does not pass
  pub not_yet_fails : (k : ℕ) → NotYet c a k → (Passes c a k → ⊥) → NotYet c a (suc k)
  not_yet_fails k below fails = not_yet_more k below (λ _. fails)

  -- a set between the word tried and its closure that differs from a above the bit k shows that k does not pass
  pub fails_early :
      (k y : ℕ) → Sub (trial a k) y → Sub y (c (trial a k)) → (y / 2 ^ suc k ≡ a / 2 ^ suc k → ⊥) → Passes c a k → ⊥
  fails_early k y low high differs pass =
      differs (omega (arith, trial_above a k, shr_mono (suc k) (sub_le low), shr_mono (suc k) (sub_le high)))

-- ---- what it finds

module _ (m : ℕ) (c : ℕ → ℕ) (op : Closure m c) (a : ℕ) (ha : a < 2 ^ m) where
  -- ---- a closed word above a passes at the highest bit in which it differs from a, and contains the closure of the word tried there

  pub reached : (y : ℕ) → y < 2 ^ m → Closed c y → (h : Highest m a y) → Sub (c (trial a h.at)) y
  reached y hy closed h =
      let k = h.at in
      let q : y / 2 ^ k ≡ a / 2 ^ suc k * 2 + 1 = omega (arith, shr_suc a k, shr_suc y k, h.agree, h.more) in
      let inside : Sub (trial a k) y = subst (λ x. Sub (x * 2 ^ k) y) q (high_sub y k) in
      closure_inside m c op (trial a k) y (trial_lt m a k ha h.low) hy inside closed

  lacks : (y : ℕ) → (h : Highest m a y) → a / 2 ^ h.at % 2 ≡ 0
  lacks y h = let k = h.at in omega (arith, shr_suc a k, shr_suc y k, h.agree, h.more)

  extends_above : (k : ℕ) → k < m → a / 2 ^ suc k ≤ c (trial a k) / 2 ^ suc k
  extends_above k hk =
      omega (arith, trial_above a k, shr_mono (suc k) (sub_le (op.extends (trial a k) (trial_lt m a k ha hk))))

  pub passes : (y : ℕ) → y < 2 ^ m → Closed c y → (h : Highest m a y) → Passes c a h.at
  passes y hy closed h =
      let k = h.at in
      omega (arith, h.agree, extends_above k h.low, shr_mono (suc k) (sub_le (reached y hy closed h)))

  -- the first bit that passes gives the least closed word after a
  pub found : (k : ℕ) → k < m → NotYet c a k → a / 2 ^ k % 2 ≡ 0 → Passes c a k → LeastClosed m c (suc a) (c (trial a k))
  found k hk below lack pass =
      let ht = trial_lt m a k ha hk in
      record {
        below = op.below (trial a k) ht;
        above = lt_by_shr a (c (trial a k)) k
            (omega (arith, shr_suc a k, trial_from a k, shr_mono k (sub_le (op.extends (trial a k) ht))));
        closed = op.settles (trial a k) ht;
        least = λ y hy l closed. let h = highest m a y hy l in at y hy closed h (dec_lt h.at k) (ℕ_discrete h.at k);
      }
    where
      at : (y : ℕ) → y < 2 ^ m → Closed c y → (h : Highest m a y) → Dec (h.at < k) → Dec (h.at ≡ k) → c (trial a k) ≤ y
      at y hy closed h (yes l) _ = absurd (below h.at l (lacks y h) (passes y hy closed h))
      at y hy closed h (no n) (yes e) = sub_le (rw e at (reached y hy closed h))
      at y hy closed h (no n) (no d) =
          let l : suc k ≤ h.at = omega arith in
          let e = shr_more (c (trial a k)) a l pass in
          let lt : c (trial a k) < y = lt_by_shr (c (trial a k)) y h.at (omega (arith, h.more)) in
          omega arith

  -- where no bit passes, a is the full word
  pub ended : NotYet c a m → a ≡ 2 ^ m - 1
  ended below = at (ℕ_discrete a (2 ^ m - 1))
    where
      at : Dec (a ≡ 2 ^ m - 1) → a ≡ 2 ^ m - 1
      at (yes e) = e
      at (no n) =
          let y = 2 ^ m - 1 in
          let h = highest m a y (ones_lt m) (omega arith) in
          absurd (below h.at h.low (lacks y h) (passes y (ones_lt m) (full_closed m c op) h))

-- ---- in signals: the bit k is the signal m - 1 - k

-- the word tried has the signals of a below the one tried, that one, and none after it
pub trial_signals :
    (m a k i : ℕ) → k < m → i < m → Has m i (trial a k) ↔ (((i < m - 1 - k) × Has m i a) ⊎ (i ≡ m - 1 - k))
trial_signals m a k i hk hi = at (dec_lt i (m - 1 - k)) (ℕ_discrete i (m - 1 - k))
  where
    at :
        Dec (i < m - 1 - k) → Dec (i ≡ m - 1 - k) → Has m i (trial a k) ↔ (((i < m - 1 - k) × Has m i a) ⊎ (i ≡ m - 1 - k))
    at (yes l) _ =
        let h : suc k ≤ m - 1 - i = omega arith in
        let e : bit_of m i (trial a k) ≡ bit_of m i a = ap (λ x. x % 2) (shr_more (trial a k) a h (trial_above a k)) in
        (λ p. inl (l, sym e ∙ p), back e)
      where
        back : bit_of m i (trial a k) ≡ bit_of m i a → ((i < m - 1 - k) × Has m i a) ⊎ (i ≡ m - 1 - k) → Has m i (trial a k)
        back e (inl p) = e ∙ p.1
        back e (inr d) = absurd (omega arith)
    at (no n) (yes e) =
        let s : m - 1 - i ≡ k = omega arith in
        let one : bit_of m i (trial a k) ≡ 1 = rw s (omega (arith, trial_from a k)) in
        (λ _. inr e, λ _. one)
    at (no n) (no d) =
        let j = m - 1 - i in
        let q = a / 2 ^ suc k * 2 + 1 in
        let s : k ≡ suc (k - suc j) + j = omega arith in
        let t : trial a k ≡ q * 2 ^ suc (k - suc j) * 2 ^ j =
        ap (λ x. q * 2 ^ x) s ∙ ap (λ x. q * x) (pow-add 2 (suc (k - suc j)) j) ∙ sym (mul_assoc q (2 ^ suc (k - suc j)) (2 ^ j)) in
        let zero : bit_of m i (trial a k) ≡ 0 =
        ap (λ x. x / 2 ^ j % 2) t ∙ ap (λ x. x % 2) (shl-shr (q * 2 ^ suc (k - suc j)) j) ∙ shifted_even q (k - suc j) in
        (λ p. absurd (omega arith), λ p. absurd (at_most p))
      where
        at_most : ((i < m - 1 - k) × Has m i a) ⊎ (i ≡ m - 1 - k) → ⊥
        at_most (inl p) = n p.0
        at_most (inr e) = d e

-- two words agree above the bit k exactly when they have the same signals below the signal of that bit
pub agree_signals :
    (m k v w : ℕ) → k < m → v < 2 ^ m → w < 2 ^ m
    → (v / 2 ^ suc k ≡ w / 2 ^ suc k) ↔ ((i : ℕ) → i < m - 1 - k → Has m i v ↔ Has m i w)
agree_signals m k v w hk hv hw = (forth, back)
  where
    shifted : (x i : ℕ) → i < m - 1 - k → bit_of (m - 1 - k) i (x / 2 ^ suc k) ≡ bit_of m i x
    shifted x i h =
        let s : suc k + (m - 1 - k - 1 - i) ≡ m - 1 - i = omega arith in
        ap (λ y. y % 2) (shr-shr x (suc k) (m - 1 - k - 1 - i)) ∙ ap (λ y. x / 2 ^ y % 2) s

    high_lt : (x : ℕ) → x < 2 ^ m → x / 2 ^ suc k < 2 ^ (m - 1 - k)
    high_lt x h = let s : m ≡ m - 1 - k + suc k = omega arith in shr_lt (m - 1 - k) (suc k) (subst (λ y. x < 2 ^ y) s h)

    forth : v / 2 ^ suc k ≡ w / 2 ^ suc k → (i : ℕ) → i < m - 1 - k → Has m i v ↔ Has m i w
    forth e i h =
        let l : suc k ≤ m - 1 - i = omega arith in
        let same = ap (λ x. x % 2) (shr_more v w l e) in
        (λ p. sym same ∙ p, λ p. same ∙ p)

    back : ((i : ℕ) → i < m - 1 - k → Has m i v ↔ Has m i w) → v / 2 ^ suc k ≡ w / 2 ^ suc k
    back f =
        same_word (m - 1 - k) (v / 2 ^ suc k) (w / 2 ^ suc k) (high_lt v hv) (high_lt w hw)
        (λ i h. (λ p. shifted w i h ∙ (f i h).0 (sym (shifted v i h) ∙ p), λ p. shifted v i h ∙ (f i h).1 (sym (shifted w i h) ∙ p)))
