-- What closure operators have in common.
use Rattle.std.proofs.Common.{◌≡◌, ℕ, zero, suc, ◌+◌, ◌-◌, ◌^◌, ◌<◌, ◌≤◌, arith, pow_pos}
use native.Mathlib.Decide.{ℕ_discrete}
use lib.Bits.{bit_and}
use lib.Pow.{ones_lt}
use Rattle.theory.specs.Words.{Sub}
use Rattle.theory.specs.Closures.{Closure, Closed, LeastClosed}
use Rattle.theory.proofs.Lattice.{sub_le, sub_lt, sub_antisym, sub_full, zero_sub, meet_left, meet_right, meet_greatest}

-- ---- the least closed word

module _ (m : ℕ) (c : ℕ → ℕ) where
  -- a closed word is the least from itself on
  pub least_here : {x : ℕ} → x < 2 ^ m → Closed c x → LeastClosed m c x x
  least_here {x} h e = record { below = h; above = omega arith; closed = e; least = λ y _ l _. l }

  -- the least after a word that is not closed is the least from that word on
  pub least_skip : {a x : ℕ} → (Closed c a → ⊥) → LeastClosed m c (suc a) x → LeastClosed m c a x
  least_skip {a} {x} n f =
      record {
        below = f.below;
        above = omega (arith, f.above);
        closed = f.closed;
        least = λ y h l e. at y h l e (ℕ_discrete a y);
      }
    where
      at : (y : ℕ) → y < 2 ^ m → a ≤ y → Closed c y → Dec (a ≡ y) → x ≤ y
      at y h l e (yes d) = absurd (n (rw d e))
      at y h l e (no d) = f.least y h (omega arith) e

  pub least_same : {from x y : ℕ} → LeastClosed m c from x → LeastClosed m c from y → x ≡ y
  least_same {from} {x} {y} f g =
      omega (arith, f.least y g.below g.above g.closed, g.least x f.below f.above f.closed)

  -- nothing comes after the full word
  pub least_ended : {x : ℕ} → LeastClosed m c (suc (2 ^ m - 1)) x → ⊥
  least_ended f = omega (arith, f.below, f.above, pow_pos m)

-- ---- closed words of a closure operator

module _ (m : ℕ) (c : ℕ → ℕ) (op : Closure m c) where
  -- the full word is closed
  pub full_closed : Closed c (2 ^ m - 1)
  full_closed =
      let h = ones_lt m in
      sub_antisym (sub_full m (c (2 ^ m - 1)) (op.below (2 ^ m - 1) h)) (op.extends (2 ^ m - 1) h)

  -- the closure of x lies inside each closed set that contains x
  pub closure_inside : (x y : ℕ) → x < 2 ^ m → y < 2 ^ m → Sub x y → Closed c y → Sub (c x) y
  closure_inside x y hx hy p closed = rw closed at (op.grows x y hx hy p)

  -- the intersection of two closed sets is closed
  pub closed_meet : (x y : ℕ) → x < 2 ^ m → y < 2 ^ m → Closed c x → Closed c y → Closed c (bit_and x y)
  closed_meet x y hx hy cx cy =
      let h = sub_lt m (meet_left x y) hx in
      sub_antisym (meet_greatest (closure_inside (bit_and x y) x h hx (meet_left x y) cx) (closure_inside (bit_and x y) y h hy (meet_right x y) cy))
      (op.extends (bit_and x y) h)

  -- the closure of the empty set is the least closed word
  pub least_first : LeastClosed m c 0 (c 0)
  least_first =
      record {
        below = op.below 0 (pow_pos m);
        above = omega arith;
        closed = op.settles 0 (pow_pos m);
        least = λ y hy _ closed. sub_le (closure_inside 0 y (pow_pos m) hy (zero_sub y) closed);
      }

  -- from each word on there is a least closed one
  pub least_exists : (a : ℕ) → a < 2 ^ m → (x : ℕ) × LeastClosed m c a x
  least_exists a h = go (2 ^ m - 1 - a) a (omega arith)
    where
      go : (d a : ℕ) → a + d ≡ 2 ^ m - 1 → (x : ℕ) × LeastClosed m c a x
      go zero a e =
          let full : a ≡ 2 ^ m - 1 = omega arith in
          (a, least_here m c (omega (arith, pow_pos m)) (rw full full_closed))
      go (suc d) a e = at (ℕ_discrete (c a) a) (go d (suc a) (omega arith))
        where
          at : Dec (Closed c a) → (x : ℕ) × LeastClosed m c (suc a) x → (x : ℕ) × LeastClosed m c a x
          at (yes closed) _ = (a, least_here m c (omega (arith, pow_pos m)) closed)
          at (no n) f = (f.0, least_skip m c n f.1)
