-- Pseudo-closed sets: the definition as it is stated, its one solution, its test, and the meet of two of them.
use Rattle.std.proofs.Common.{◌≡◌, ℕ, zero, suc, ◌-◌, ◌^◌, ◌<◌, true, ◌↔◌, arith}
use native.Mathlib.Decide.{ℕ_discrete, dec_lt}
use lib.Bits.{bit_and}
use Rattle.theory.specs.Words.{Sub, Proper}
use Rattle.theory.specs.Closures.{Closure, Closed}
use Rattle.theory.specs.Rules.{proper}
use Rattle.theory.specs.Bases.{PseudoOver, PseudoAsStated, Textbook, PseudoAt, Pseudo}
use Rattle.theory.proofs.Lattice.{sub_antisym, sub_lt, sub_dec, proper_lt, meet_left, meet_right, meet_greatest}
use Rattle.theory.proofs.Closures.{full_closed}
use Rattle.theory.proofs.Rules.{fires_dec, fires_larger}

-- ---- the definition

module _ (m : ℕ) (c : ℕ → ℕ) where
  -- it asks only of the words below p which have the property
  over_same : {P Q : ℕ → Type 0} {p : ℕ} → ((q : ℕ) → q < p → Q q → P q) → PseudoOver m c P p → PseudoOver m c Q p
  over_same same f =
      record { below = f.below; not_closed = f.not_closed; parts = λ q at part. f.parts q (same q (proper_lt part) at) part }

  -- any bound above p will do
  pseudo_at_same : (n k p : ℕ) → p < n → p < k → PseudoAt m c n p ↔ PseudoAt m c k p
  pseudo_at_same zero k p hn hk = absurd (omega arith)
  pseudo_at_same (suc n) zero p hn hk = absurd (omega arith)
  pseudo_at_same (suc n) (suc k) p hn hk = (
    over_same (λ q l. (pseudo_at_same n k q (omega arith) (omega arith)).1),
    over_same (λ q l. (pseudo_at_same n k q (omega arith) (omega arith)).0),
  )

  -- the definition as it is stated
  pub pseudo_stated : PseudoAsStated m c (Pseudo m c)
  unfolding Pseudo
  pseudo_stated p = (
    over_same (λ q l. (pseudo_at_same (suc q) p q (omega arith) l).0),
    over_same (λ q l. (pseudo_at_same (suc q) p q (omega arith) l).1),
  )

  -- it has one solution
  pub stated_same : (P Q : ℕ → Type 0) → PseudoAsStated m c P → PseudoAsStated m c Q → (p : ℕ) → P p ↔ Q p
  stated_same P Q sp sq p = go (suc p) p (omega arith)
    where
      go : (n p : ℕ) → p < n → P p ↔ Q p
      go zero p h = absurd (omega arith)
      go (suc n) p h = (
        λ at. (sq p).1 (over_same (λ q l. (go n q (omega arith)).1) ((sp p).0 at)),
        λ at. (sp p).1 (over_same (λ q l. (go n q (omega arith)).0) ((sq p).0 at)),
      )

  pub pseudo_only : (P : ℕ → Type 0) → PseudoAsStated m c P → (p : ℕ) → P p ↔ Pseudo m c p
  pseudo_only P stated p = stated_same P (Pseudo m c) stated pseudo_stated p

  pub textbook : Textbook m c
  textbook = record { stated = pseudo_stated; only = λ test. pseudo_only (λ p. test p ≡ true) }

-- ---- the test

all_below : (Q : ℕ → Type 0) → ((q : ℕ) → Dec (Q q)) → (n : ℕ) → Dec ((q : ℕ) → q < n → Q q)
all_below Q dec zero = yes (λ q h. absurd (omega arith))
all_below Q dec (suc n) = at (dec n) (all_below Q dec n)
  where
    at : Dec (Q n) → Dec ((q : ℕ) → q < n → Q q) → Dec ((q : ℕ) → q < suc n → Q q)
    at (no d) _ = no (λ f. d (f n (omega arith)))
    at (yes d) (no e) = no (λ f. e (λ q h. f q (omega arith)))
    at (yes d) (yes e) = yes (λ q h. each q h (ℕ_discrete q n))
      where
        each : (q : ℕ) → q < suc n → Dec (q ≡ n) → Q q
        each q h (yes s) = rw s d
        each q h (no s) = e q (omega arith)

implies_dec : {A B : Type 0} → Dec A → Dec B → Dec (A → B)
implies_dec (no a) _ = yes (λ x. absurd (a x))
implies_dec (yes a) (yes b) = yes (λ _. b)
implies_dec (yes a) (no b) = no (λ f. b (f a))

module _ (m : ℕ) (c : ℕ → ℕ) where
  pseudo_at_dec : (n p : ℕ) → Dec (PseudoAt m c n p)
  pseudo_at_dec zero p = no (λ f. f)
  pseudo_at_dec (suc n) p =
      at (dec_lt p (2 ^ m)) (ℕ_discrete (c p) p)
      (all_below (λ q. PseudoAt m c n q → Proper q p → Sub (c q) p)
      (λ q. implies_dec (pseudo_at_dec n q) (implies_dec (fires_dec proper q p) (sub_dec (c q) p))) p)
    where
      at :
          Dec (p < 2 ^ m) → Dec (Closed c p) → Dec ((q : ℕ) → q < p → PseudoAt m c n q → Proper q p → Sub (c q) p)
          → Dec (PseudoOver m c (PseudoAt m c n) p)
      at (no h) _ _ = no (λ f. h f.below)
      at (yes h) (yes e) _ = no (λ f. f.not_closed e)
      at (yes h) (no e) (no g) = no (λ f. g (λ q _. f.parts q))
      at (yes h) (no e) (yes g) =
          yes record { below = h; not_closed = e; parts = λ q at part. g q (proper_lt part) at part }

  pub pseudo_dec : (p : ℕ) → Dec (Pseudo m c p)
  unfolding Pseudo
  pseudo_dec p = pseudo_at_dec (suc p) p

-- ---- pseudo-closed sets of a closure operator

module _ (m : ℕ) (c : ℕ → ℕ) where
  pub pseudo_over : {p : ℕ} → Pseudo m c p → PseudoOver m c (Pseudo m c) p
  pseudo_over {p} f = (pseudo_stated m c p).0 f

  pub over_pseudo : {p : ℕ} → PseudoOver m c (Pseudo m c) p → Pseudo m c p
  over_pseudo {p} f = (pseudo_stated m c p).1 f

module _ (m : ℕ) (c : ℕ → ℕ) (op : Closure m c) where
  -- the full word is closed, so it is not pseudo-closed
  pub full_not_pseudo : Pseudo m c (2 ^ m - 1) → ⊥
  full_not_pseudo f = (pseudo_over m c f).not_closed (full_closed m c op)

  -- a pseudo-closed set does not contain its closure
  pub pseudo_open : {p : ℕ} → Pseudo m c p → Sub (c p) p → ⊥
  pseudo_open {p} f s = let o = pseudo_over m c f in o.not_closed (sub_antisym s (op.extends p o.below))

  -- two pseudo-closed sets of which neither contains the other have a closed intersection
  pub pseudo_meet :
      {a b : ℕ} → Pseudo m c a → Pseudo m c b → (Sub a b → ⊥) → (Sub b a → ⊥) → Closed c (bit_and a b)
  pseudo_meet {a} {b} fa fb nab nba = at (ℕ_discrete (c (bit_and a b)) (bit_and a b))
    where
      oa : PseudoOver m c (Pseudo m c) a
      oa = pseudo_over m c fa

      ob : PseudoOver m c (Pseudo m c) b
      ob = pseudo_over m c fb

      low : bit_and a b < 2 ^ m
      low = sub_lt m (meet_left a b) oa.below

      in_a : Proper (bit_and a b) a
      in_a = record { inside = meet_left a b; differs = λ e. nab record { same = e } }

      in_b : Proper (bit_and a b) b
      in_b = record { inside = meet_right a b; differs = λ e. nba (rw e at (meet_left a b)) }

      at : Dec (Closed c (bit_and a b)) → Closed c (bit_and a b)
      at (yes e) = e
      at (no n) =
          let f : Pseudo m c (bit_and a b) =
          over_pseudo m c record {
            below = low;
            not_closed = n;
            parts = λ q at part.
                meet_greatest (oa.parts q at (fires_larger proper q (bit_and a b) a part (meet_left a b)))
                (ob.parts q at (fires_larger proper q (bit_and a b) b part (meet_right a b)));
          } in
          sub_antisym (meet_greatest (oa.parts (bit_and a b) f in_a) (ob.parts (bit_and a b) f in_b)) (op.extends (bit_and a b) low)
