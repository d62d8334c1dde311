-- The least set that contains x and keeps a list of implications: m passes over the list reach it, and it is a closure.
use Rattle.std.proofs.Common.{◌≡◌, ℕ, zero, suc, ◌+◌, ◌-◌, ◌/◌, ◌%◌, ◌^◌, ◌<◌, ◌≤◌, true, false, ◌≢◌, ◌⊎◌, ◌↔◌, List, [], ◌∷◌, ◌++◌, sym, refl, ap, ◌∙◌, subst, inl, inr, arith}
use mathlib.Core.List.Memᴰ
use mathlib.Core.List.{Memᴰ}
use native.Mathlib.Decide.{ℕ_discrete}
use lib.Arith.{bin_ind}
use lib.Bits.{bit_and, bit_or}
use lib.Count.{ones, ones_step, ones-ones}
use lib.Pow.{ones_lt}
use Rattle.std.proofs.lemmas.Bool.{eq-eqb, ne_eqb, cond-true, cond-false, and_from, and_left, and_right, not_from_true, not_from_false}
use Rattle.theory.specs.Words.{max_signals, Sub, Proper}
use Rattle.theory.specs.Closures.{Closure, Closed}
use Rattle.theory.specs.Rules.{Implication, Trigger, inside, proper, Fires, Keeps, KeepsAll, Within, LeastKeeping, fires, fire, pass, passes, close, close_r, Entails}
use Rattle.theory.proofs.Lattice.{by_halves, and_half, and_low, sub_refl, sub_trans, sub_antisym, sub_lt, sub_dec, sub_zero, sub_full, join_left, join_right, join_least, proper_lt}

-- ---- a proper part has fewer signals

sub_half : {a b : ℕ} → Sub a b → Sub (a / 2) (b / 2)
sub_half {a} {b} p = record { same = sym (and_half a b) ∙ ap (λ x. x / 2) p.same }

ones_sub : (b a : ℕ) → Sub a b → (a ≡ b) ⊎ (ones a < ones b)
ones_sub =
    bin_ind (λ (b : ℕ). (a : ℕ) → Sub a b → (a ≡ b) ⊎ (ones a < ones b)) (λ a p. inl (sub_zero p))
    (λ b below a p. at b a p (below (a / 2) (sub_half p)) (ℕ_discrete (a % 2) (b % 2)))
  where
    at : (b a : ℕ) → Sub a b → (a / 2 ≡ b / 2) ⊎ (ones (a / 2) < ones (b / 2)) → Dec (a % 2 ≡ b % 2) → (a ≡ b) ⊎ (ones a < ones b)
    at b a p (inl e) (yes l) = inl (by_halves a b e l)
    at b a p (inl e) (no n) =
        let s = p.same in
        let o : ones (a / 2) ≡ ones (b / 2) = ap ones e in
        inr (omega (arith, ones_step a, ones_step b, and_low a b))
    at b a p (inr l) _ =
        let s = p.same in
        inr (omega (arith, ones_step a, ones_step b, and_low a b))

pub proper_ones : {a b : ℕ} → Proper a b → ones a < ones b
proper_ones {a} {b} p = at (ones_sub b a p.inside)
  where
    at : (a ≡ b) ⊎ (ones a < ones b) → ones a < ones b
    at (inl e) = absurd (p.differs e)
    at (inr l) = l

-- a word of m signals that has m of them is the full one
ones_full : (m y : ℕ) → y < 2 ^ m → m ≤ ones y → y ≡ 2 ^ m - 1
ones_full m y h l = at (ones_sub (2 ^ m - 1) y (sub_full m y h))
  where
    at : (y ≡ 2 ^ m - 1) ⊎ (ones y < ones (2 ^ m - 1)) → y ≡ 2 ^ m - 1
    at (inl e) = e
    at (inr k) = absurd (omega (arith, ones-ones m))

-- ---- the trigger: its test, and that it is kept under larger sets

proper_dec : (p y : ℕ) → Dec (Proper p y)
proper_dec p y = at (sub_dec p y) (ℕ_discrete p y)
  where
    at : Dec (Sub p y) → Dec (p ≡ y) → Dec (Proper p y)
    at (yes i) (yes e) = no (λ q. q.differs e)
    at (yes i) (no n) = yes record { inside = i; differs = n }
    at (no n) _ = no (λ q. n q.inside)

pub fires_dec : (t : Trigger) (p y : ℕ) → Dec (Fires t p y)
fires_dec inside p y = sub_dec p y
fires_dec proper p y = proper_dec p y

pub fires_true : (t : Trigger) (p y : ℕ) → Fires t p y → fires t p y ≡ true
fires_true inside p y f = eq-eqb _ _ f.same
fires_true proper p y f = and_from _ _ (eq-eqb _ _ f.inside.same) (not_from_false _ (ne_eqb p y f.differs))

pub fires_false : (t : Trigger) (p y : ℕ) → (Fires t p y → ⊥) → fires t p y ≡ false
fires_false inside p y n = ne_eqb (bit_and p y) p (λ e. n record { same = e })
fires_false proper p y n = at (sub_dec p y) (ℕ_discrete p y)
  where
    at : Dec (Sub p y) → Dec (p ≡ y) → fires proper p y ≡ false
    at (yes i) (yes e) = and_right _ _ (not_from_true _ (eq-eqb p y e))
    at (yes i) (no d) = absurd (n record { inside = i; differs = d })
    at (no k) _ = and_left _ _ (ne_eqb (bit_and p y) p (λ e. k record { same = e }))

pub fires_larger : (t : Trigger) (p y z : ℕ) → Fires t p y → Sub y z → Fires t p z
fires_larger inside p y z f s = sub_trans f s
fires_larger proper p y z f s =
    record { inside = sub_trans f.inside s; differs = λ e. f.differs (sub_antisym f.inside (rw e s)) }

-- ---- one implication

module _ (t : Trigger) (rule : Implication) (y : ℕ) where
  pub fire_in : Fires t rule.premise y → fire t rule y ≡ bit_or y rule.conclusion
  fire_in f = cond-true _ _ _ (fires_true t rule.premise y f)

  pub fire_out : (Fires t rule.premise y → ⊥) → fire t rule y ≡ y
  fire_out n = cond-false _ _ _ (fires_false t rule.premise y n)

  pub fire_extends : Sub y (fire t rule y)
  fire_extends = at (fires_dec t rule.premise y)
    where
      at : Dec (Fires t rule.premise y) → Sub y (fire t rule y)
      at (yes f) = rw (fire_in f) (join_left y rule.conclusion)
      at (no n) = rw (fire_out n) (sub_refl y)

  -- a larger set that keeps the implication still contains the set after it
  pub fire_inside : {z : ℕ} → Sub y z → Keeps t rule z → Sub (fire t rule y) z
  fire_inside {z} p keeps = at (fires_dec t rule.premise y)
    where
      at : Dec (Fires t rule.premise y) → Sub (fire t rule y) z
      at (yes f) = rw (fire_in f) (join_least p (keeps (fires_larger t rule.premise y z f p)))
      at (no n) = rw (fire_out n) p

  pub keeps_same : Keeps t rule y → fire t rule y ≡ y
  keeps_same keeps = sub_antisym (fire_inside (sub_refl y) keeps) fire_extends

  pub same_keeps : fire t rule y ≡ y → Keeps t rule y
  same_keeps e f = rw (sym (fire_in f) ∙ e) at (join_right y rule.conclusion)

-- ---- one pass

pub pass_push : (t : Trigger) (rules : List Implication) (rule : Implication) (y : ℕ) → pass t (rules ++ rule ∷ []) y ≡ fire t rule (pass t rules y)
pass_push t [] rule y = refl
pass_push t (r ∷ rules) rule y = pass_push t rules rule (fire t r y)

pub pass_extends : (t : Trigger) (rules : List Implication) (y : ℕ) → Sub y (pass t rules y)
pass_extends t [] y = sub_refl y
pass_extends t (r ∷ rules) y = sub_trans (fire_extends t r y) (pass_extends t rules (fire t r y))

pub pass_inside : (t : Trigger) (rules : List Implication) {y z : ℕ} → Sub y z → KeepsAll t rules z → Sub (pass t rules y) z
pass_inside t [] p keeps = p
pass_inside t (r ∷ rules) {y} {z} p keeps =
    pass_inside t rules (fire_inside t r y p (keeps r (Memᴰ.head refl))) (λ s q. keeps s (Memᴰ.tail q))

pub keeps_all_same : (t : Trigger) (rules : List Implication) (y : ℕ) → KeepsAll t rules y → pass t rules y ≡ y
keeps_all_same t rules y keeps = sub_antisym (pass_inside t rules (sub_refl y) keeps) (pass_extends t rules y)

pub same_keeps_all : (t : Trigger) (rules : List Implication) (y : ℕ) → pass t rules y ≡ y → KeepsAll t rules y
same_keeps_all t [] y e rule p = absurd (Memᴰ.not-nil p)
same_keeps_all t (r ∷ rules) y e rule p = at (Memᴰ.cases_cons p) (same_keeps_all t rules y rest rule)
  where
    first : fire t r y ≡ y
    first = sub_antisym (rw e at (pass_extends t rules (fire t r y))) (fire_extends t r y)

    rest : pass t rules y ≡ y
    rest = ap (pass t rules) (sym first) ∙ e

    at : (rule ≡ r) ⊎ Memᴰ rule rules → (Memᴰ rule rules → Keeps t rule y) → Keeps t rule y
    at (inl i) _ = rw i (same_keeps t r y first)
    at (inr q) below = below q

-- a pass that changes the set adds a signal
pub pass_proper : (t : Trigger) (rules : List Implication) (y : ℕ) → pass t rules y ≢ y → Proper y (pass t rules y)
pass_proper t rules y n = record { inside = pass_extends t rules y; differs = λ e. n (sym e) }

pub pass_rises : (t : Trigger) (rules : List Implication) (y : ℕ) → pass t rules y ≢ y → y < pass t rules y
pass_rises t rules y n = proper_lt (pass_proper t rules y n)

-- ---- passes

pub passes_extends : (t : Trigger) (rules : List Implication) (n y : ℕ) → Sub y (passes t rules n y)
passes_extends t rules zero y = sub_refl y
passes_extends t rules (suc n) y = sub_trans (pass_extends t rules y) (passes_extends t rules n (pass t rules y))

pub passes_inside : (t : Trigger) (rules : List Implication) (n : ℕ) {y z : ℕ} → Sub y z → KeepsAll t rules z → Sub (passes t rules n y) z
passes_inside t rules zero p keeps = p
passes_inside t rules (suc n) p keeps = passes_inside t rules n (pass_inside t rules p keeps) keeps

-- each pass adds a signal until none changes the set
settled :
    (t : Trigger) (rules : List Implication) (n y : ℕ)
    → KeepsAll t rules (passes t rules n y) ⊎ (n + ones y ≤ ones (passes t rules n y))
settled t rules zero y = inr (omega arith)
settled t rules (suc n) y = at (ℕ_discrete (pass t rules y) y) (settled t rules n (pass t rules y))
  where
    still : pass t rules y ≡ y → passes t rules n (pass t rules y) ≡ y
    still e =
        sub_antisym (passes_inside t rules n (rw e (sub_refl y)) (same_keeps_all t rules y e))
        (sub_trans (pass_extends t rules y) (passes_extends t rules n (pass t rules y)))

    at :
        Dec (pass t rules y ≡ y)
        → KeepsAll t rules (passes t rules n (pass t rules y)) ⊎ (n + ones (pass t rules y) ≤ ones (passes t rules n (pass t rules y)))
        → KeepsAll t rules (passes t rules n (pass t rules y)) ⊎ (suc n + ones y ≤ ones (passes t rules n (pass t rules y)))
    at (yes e) _ = inl (subst (KeepsAll t rules) (sym (still e)) (same_keeps_all t rules y e))
    at (no d) (inl keeps) = inl keeps
    at (no d) (inr l) = inr (omega (arith, proper_ones (pass_proper t rules y d)))

module _ (t : Trigger) (m : ℕ) (rules : List Implication) (within : Within m rules) where
  -- the full word keeps every implication
  pub full_keeps : KeepsAll t rules (2 ^ m - 1)
  full_keeps rule p _ = sub_full m rule.conclusion (within rule p)

  pub passes_lt : (n x : ℕ) → x < 2 ^ m → passes t rules n x < 2 ^ m
  passes_lt n x h = sub_lt m (passes_inside t rules n (sub_full m x h) full_keeps) (ones_lt m)

  close_keeps : (x : ℕ) → x < 2 ^ m → KeepsAll t rules (close t m rules x)
  close_keeps x h = at (settled t rules m x)
    where
      at : KeepsAll t rules (close t m rules x) ⊎ (m + ones x ≤ ones (close t m rules x)) → KeepsAll t rules (close t m rules x)
      at (inl keeps) = keeps
      at (inr l) = rw (ones_full m (close t m rules x) (passes_lt m x h) (omega arith)) full_keeps

  -- m passes reach the least set that contains x and keeps every implication
  pub close_least : (x : ℕ) → x < 2 ^ m → LeastKeeping t m rules x (close t m rules x)
  close_least x h =
      record {
        below = passes_lt m x h;
        contains = passes_extends t rules m x;
        keeps = close_keeps x h;
        least = λ z _ p keeps. passes_inside t rules m p keeps;
      }

  -- and there is one such set
  pub least_close : {x y : ℕ} → x < 2 ^ m → LeastKeeping t m rules x y → y ≡ close t m rules x
  least_close {x} {y} h f =
      sub_antisym (f.least (close t m rules x) (passes_lt m x h) (passes_extends t rules m x) (close_keeps x h))
      (passes_inside t rules m f.contains f.keeps)

  pub close_closure : m ≤ max_signals → Closure m (close t m rules)
  close_closure narrow =
      record {
        narrow = narrow;
        below = passes_lt m;
        extends = λ x _. passes_extends t rules m x;
        grows = λ x y _ k p. passes_inside t rules m (sub_trans p (passes_extends t rules m y)) (close_keeps y k);
        settles = λ x h.
            sub_antisym (passes_inside t rules m (sub_refl (close t m rules x)) (close_keeps x h)) (passes_extends t rules m (close t m rules x));
      }

  -- the closed words are those that keep every implication
  pub closed_keeps : (x : ℕ) → x < 2 ^ m → Closed (close t m rules) x ↔ KeepsAll t rules x
  closed_keeps x h = (
    λ e. subst (KeepsAll t rules) e (close_keeps x h),
    λ keeps. sub_antisym (passes_inside t rules m (sub_refl x) keeps) (passes_extends t rules m x),
  )

  -- ---- a loop that fires implications until none changes the set

  -- a set on the way stays inside the closure
  pub fire_close :
      {x y : ℕ} (rule : Implication) → Memᴰ rule rules → x < 2 ^ m → Sub y (close t m rules x) → Sub (fire t rule y) (close t m rules x)
  fire_close {x} {y} rule p h s = fire_inside t rule y s (close_keeps x h rule p)

  pub pass_close : {x y : ℕ} → x < 2 ^ m → Sub y (close t m rules x) → Sub (pass t rules y) (close t m rules x)
  pass_close {x} {y} h s = pass_inside t rules s (close_keeps x h)

  -- a set on the way that keeps every implication is the closure
  pub keeps_all_close : {x y : ℕ} → x < 2 ^ m → Sub x y → Sub y (close t m rules x) → KeepsAll t rules y → y ≡ close t m rules x
  keeps_all_close {x} {y} h p s keeps = sub_antisym s (passes_inside t rules m p keeps)

  -- so is one that no implication of the list changes
  pub unchanged_close :
      {x y : ℕ} → x < 2 ^ m → Sub x y → Sub y (close t m rules x) → ((rule : Implication) → Memᴰ rule rules → fire t rule y ≡ y)
      → y ≡ close t m rules x
  unchanged_close {x} {y} h p s same = keeps_all_close h p s (λ rule q. same_keeps t rule y (same rule q))

-- ---- entailment: every set that keeps the implications and contains the premise contains the conclusion

pub entails_iff :
    (m : ℕ) (rules : List Implication) (premise conclusion : ℕ) → Within m rules → premise < 2 ^ m
    → Entails m rules premise conclusion ↔ ((z : ℕ) → z < 2 ^ m → Sub premise z → KeepsAll inside rules z → Sub conclusion z)
entails_iff m rules premise conclusion within h =
    let f = close_least inside m rules within premise h in
    (λ s z k p keeps. sub_trans s (f.least z k p keeps), λ g. g (close_r m rules premise) f.below f.contains f.keeps)
