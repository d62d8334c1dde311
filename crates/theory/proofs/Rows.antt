-- The signals common to the rows that contain a set are its closure, and its closed sets are the intersections of rows.
use Rattle.std.proofs.Common.{◌≡◌, ℕ, ◌-◌, ◌%◌, ◌^◌, ◌<◌, ◌≤◌, ◌⊎◌, ◌↔◌, List, [], ◌∷◌, ◌++◌, sym, refl, ap, ◌∙◌, subst, inl, inr, arith, pow_pos, lt_of_le_ones}
use mathlib.Core.List.Memᴰ
use mathlib.Core.List.{Memᴰ}
use native.Mathlib.Nat.{div_self}
use lib.Bits.{bit_and, and_comm}
use lib.Pow.{pow-lt}
use Rattle.std.proofs.lemmas.Bool.{eq-eqb, ne_eqb, cond-true, cond-false}
use Rattle.theory.specs.Words.{max_signals, Has, Sub}
use Rattle.theory.specs.Closures.{Closure, Closed}
use Rattle.theory.specs.Rows.{common, Intersection, Holds}
use Rattle.theory.proofs.Lattice.{and_assoc, sub_refl, sub_trans, sub_antisym, sub_le, sub_dec, sub_full, zero_sub, meet_left, meet_right, meet_greatest}
use Rattle.theory.proofs.Signals.{meet_signals, sub_signals}

-- ---- one row more, at the front and at the end

module _ (m : ℕ) (x : ℕ) where
  cons_in : (r : ℕ) (rows : List ℕ) → Sub x r → common m (r ∷ rows) x ≡ bit_and r (common m rows x)
  cons_in r rows p = cond-true _ _ _ (eq-eqb (bit_and x r) x p.same)

  cons_out : (r : ℕ) (rows : List ℕ) → (Sub x r → ⊥) → common m (r ∷ rows) x ≡ common m rows x
  cons_out r rows n = cond-false _ _ _ (ne_eqb (bit_and x r) x (λ e. n record { same = e }))

  -- a row that contains x
  pub common_push_in : (r : ℕ) (rows : List ℕ) → Sub x r → common m (rows ++ r ∷ []) x ≡ bit_and (common m rows x) r
  common_push_in r [] p = cons_in r [] p ∙ and_comm r (common m [] x)
  common_push_in r (s ∷ rows) p = at (sub_dec x s) (common_push_in r rows p)
    where
      at :
          Dec (Sub x s) → common m (rows ++ r ∷ []) x ≡ bit_and (common m rows x) r
          → common m (s ∷ (rows ++ r ∷ [])) x ≡ bit_and (common m (s ∷ rows) x) r
      at (yes q) e =
          cons_in s (rows ++ r ∷ []) q ∙ ap (bit_and s) e ∙ sym (and_assoc s (common m rows x) r)
          ∙ ap (λ w. bit_and w r) (sym (cons_in s rows q))
      at (no n) e = cons_out s (rows ++ r ∷ []) n ∙ e ∙ ap (λ w. bit_and w r) (sym (cons_out s rows n))

  -- a row that does not
  pub common_push_out : (r : ℕ) (rows : List ℕ) → (Sub x r → ⊥) → common m (rows ++ r ∷ []) x ≡ common m rows x
  common_push_out r [] n = cons_out r [] n
  common_push_out r (s ∷ rows) n = at (sub_dec x s) (common_push_out r rows n)
    where
      at : Dec (Sub x s) → common m (rows ++ r ∷ []) x ≡ common m rows x → common m (s ∷ (rows ++ r ∷ [])) x ≡ common m (s ∷ rows) x
      at (yes q) e = cons_in s (rows ++ r ∷ []) q ∙ ap (bit_and s) e ∙ sym (cons_in s rows q)
      at (no k) e = cons_out s (rows ++ r ∷ []) k ∙ e ∙ sym (cons_out s rows k)

-- ---- the largest word of m signals inside every row that contains x

pub common_full : (m : ℕ) (rows : List ℕ) (x : ℕ) → Sub (common m rows x) (2 ^ m - 1)
common_full m [] x = sub_refl (2 ^ m - 1)
common_full m (r ∷ rows) x = at (sub_dec x r) (common_full m rows x)
  where
    at : Dec (Sub x r) → Sub (common m rows x) (2 ^ m - 1) → Sub (common m (r ∷ rows) x) (2 ^ m - 1)
    at (yes p) s = rw (cons_in m x r rows p) (sub_trans (meet_right r (common m rows x)) s)
    at (no n) s = rw (cons_out m x r rows n) s

pub common_lt : (m : ℕ) (rows : List ℕ) (x : ℕ) → common m rows x < 2 ^ m
common_lt m rows x = lt_of_le_ones m (sub_le (common_full m rows x))

pub common_in : (m : ℕ) (rows : List ℕ) (x r : ℕ) → Memᴰ r rows → Sub x r → Sub (common m rows x) r
common_in m [] x r p q = absurd (Memᴰ.not-nil p)
common_in m (s ∷ rows) x r p q = at (sub_dec x s) (Memᴰ.cases_cons p) (λ k. common_in m rows x r k q)
  where
    at : Dec (Sub x s) → (r ≡ s) ⊎ Memᴰ r rows → (Memᴰ r rows → Sub (common m rows x) r) → Sub (common m (s ∷ rows) x) r
    at (yes i) (inl e) _ = rw (cons_in m x s rows i, e) (meet_left s (common m rows x))
    at (yes i) (inr k) f = rw (cons_in m x s rows i) (sub_trans (meet_right s (common m rows x)) (f k))
    at (no n) (inl e) _ = absurd (n (rw e at q))
    at (no n) (inr k) f = rw (cons_out m x s rows n) (f k)

pub common_greatest :
    (m : ℕ) (rows : List ℕ) (x w : ℕ) → w < 2 ^ m → ((r : ℕ) → Memᴰ r rows → Sub x r → Sub w r) → Sub w (common m rows x)
common_greatest m [] x w h f = sub_full m w h
common_greatest m (s ∷ rows) x w h f =
    at (sub_dec x s) (common_greatest m rows x w h (λ r p. f r (Memᴰ.tail p)))
  where
    at : Dec (Sub x s) → Sub w (common m rows x) → Sub w (common m (s ∷ rows) x)
    at (yes i) k = rw (cons_in m x s rows i) (meet_greatest (f s (Memᴰ.head refl) i) k)
    at (no n) k = rw (cons_out m x s rows n) k

-- ---- in signals

pub full_has : (m i : ℕ) → i < m → Has m i (2 ^ m - 1)
full_has m i h =
    let k = m - 1 - i in
    let l : k < m = omega arith in
    sub_signals m (sub_full m (2 ^ k) (pow-lt l)) i (ap (λ x. x % 2) (div_self (pow_pos k)))

pub signals_in_common :
    (m : ℕ) (rows : List ℕ) (x i : ℕ) → i < m → Has m i (common m rows x) ↔ ((r : ℕ) → Memᴰ r rows → Sub x r → Has m i r)
signals_in_common m rows x i h = (λ p r q k. sub_signals m (common_in m rows x r q k) i p, back rows)
  where
    back : (rows : List ℕ) → ((r : ℕ) → Memᴰ r rows → Sub x r → Has m i r) → Has m i (common m rows x)
    back [] f = full_has m i h
    back (s ∷ rows) f = at (sub_dec x s) (back rows (λ r p. f r (Memᴰ.tail p)))
      where
        at : Dec (Sub x s) → Has m i (common m rows x) → Has m i (common m (s ∷ rows) x)
        at (yes k) g = rw (cons_in m x s rows k) ((meet_signals m i s (common m rows x)).1 (f s (Memᴰ.head refl) k, g))
        at (no n) g = rw (cons_out m x s rows n) g

-- ---- the closure

pub common_extends : (m : ℕ) (rows : List ℕ) (x : ℕ) → x < 2 ^ m → Sub x (common m rows x)
common_extends m rows x h = common_greatest m rows x x h (λ r _ p. p)

pub common_closure : (m : ℕ) (rows : List ℕ) → m ≤ max_signals → Closure m (common m rows)
common_closure m rows narrow =
    record {
      narrow = narrow;
      below = λ x _. common_lt m rows x;
      extends = common_extends m rows;
      grows = λ x y _ _ p. common_greatest m rows y (common m rows x) (common_lt m rows x) (λ r q k. common_in m rows x r q (sub_trans p k));
      settles = λ x _.
          sub_antisym (common_greatest m rows x (common m rows (common m rows x)) (common_lt m rows (common m rows x))
          (λ r q k. common_in m rows (common m rows x) r q (common_in m rows x r q k)))
          (common_extends m rows (common m rows x) (common_lt m rows x));
    }

-- an implication holds in the rows exactly when its conclusion lies in the closure of its premise
pub holds_common :
    (m : ℕ) (rows : List ℕ) (premise conclusion : ℕ) → conclusion < 2 ^ m → Holds rows premise conclusion ↔ Sub conclusion (common m rows premise)
holds_common m rows premise conclusion h =
    (common_greatest m rows premise conclusion h, λ p r q k. sub_trans p (common_in m rows premise r q k))

-- ---- closed words are the intersections of rows

chosen : (m : ℕ) (rows : List ℕ) (x : ℕ) → Intersection m rows (common m rows x)
chosen m [] x = record { chosen = []; among = λ r p. p; shared = refl }
chosen m (s ∷ rows) x = at (sub_dec x s) (chosen m rows x)
  where
    at : Dec (Sub x s) → Intersection m rows (common m rows x) → Intersection m (s ∷ rows) (common m (s ∷ rows) x)
    at (yes i) f =
        record {
          chosen = s ∷ f.chosen;
          among = λ r p. each r (Memᴰ.cases_cons p);
          shared = cons_in m 0 s f.chosen (zero_sub s) ∙ ap (bit_and s) f.shared ∙ sym (cons_in m x s rows i);
        }
      where
        each : (r : ℕ) → (r ≡ s) ⊎ Memᴰ r f.chosen → Memᴰ r (s ∷ rows)
        each r (inl e) = Memᴰ.head e
        each r (inr p) = Memᴰ.tail (f.among r p)
    at (no n) f =
        record { chosen = f.chosen; among = λ r p. Memᴰ.tail (f.among r p); shared = f.shared ∙ sym (cons_out m x s rows n) }

pub closed_intersection : (m : ℕ) (rows : List ℕ) (x : ℕ) → x < 2 ^ m → Closed (common m rows) x ↔ Intersection m rows x
closed_intersection m rows x h = (λ e. subst (Intersection m rows) e (chosen m rows x), back)
  where
    back : Intersection m rows x → Closed (common m rows) x
    back f =
        let around : (r : ℕ) → Memᴰ r f.chosen → Sub x r =
        λ r p. rw f.shared at (common_in m f.chosen 0 r p (zero_sub r)) in
        let inner : Sub (common m rows x) x =
        rw f.shared at
        (common_greatest m f.chosen 0 (common m rows x) (common_lt m rows x) (λ r p _. common_in m rows x r (f.among r p) (around r p))) in
        sub_antisym inner (common_extends m rows x h)
