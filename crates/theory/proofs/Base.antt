-- The base up to the end: it is exact, and no exact list is shorter.
use Rattle.std.proofs.Common.{◌≡◌, ℕ, ◌^◌, ◌<◌, ◌⊎◌, ◌↔◌, List, [], ◌∷◌, refl, inl, inr, arith}
use mathlib.Core.List.Memᴰ
use mathlib.Core.List.{Memᴰ}
use native.Mathlib.Decide.{ℕ_discrete}
use lib.Bits.{bit_and}
use lib.ListN.{length-map}
use Rattle.theory.specs.Words.{Sub}
use Rattle.theory.specs.Closures.{Closure, Closed}
use Rattle.theory.specs.Rows.{common, Holds}
use Rattle.theory.specs.Rules.{Implication, inside, Keeps, KeepsAll, Within, close_r, Entails}
use Rattle.theory.specs.Bases.{Pseudo, premises, BaseUpto, HoldsUnder, Exact, Smallest}
use Rattle.theory.proofs.Lattice.{sub_refl, sub_trans, sub_antisym, sub_le, sub_lt, sub_dec, meet_left, meet_greatest}
use Rattle.theory.proofs.Closures.{closure_inside}
use Rattle.theory.proofs.Ganter.{base_fires, base_within, closed_keeps_base, keeps_pseudo}
use Rattle.theory.proofs.Pigeonhole.{pigeonhole}
use Rattle.theory.proofs.Pseudo.{pseudo_over, pseudo_open, pseudo_meet}
use Rattle.theory.proofs.Rows.{holds_common}
use Rattle.theory.proofs.Rules.{close_least, passes_inside}

-- ---- complete

module _ (m : ℕ) (c : ℕ → ℕ) (op : Closure m c) {rules : List Implication} (base : BaseUpto m c (2 ^ m) rules) where
  -- a set that keeps the base is closed: else it would be pseudo-closed, and break its own rule
  pub keeps_closed : (z : ℕ) → z < 2 ^ m → KeepsAll inside rules z → Closed c z
  keeps_closed z h keeps = at (ℕ_discrete (c z) z)
    where
      at : Dec (Closed c z) → Closed c z
      at (yes e) = e
      at (no n) =
          let f = keeps_pseudo m c op base z h (omega arith) (λ rule p fires. keeps rule p fires.inside) n in
          absurd (pseudo_open m c op f (base_fires m c base inside keeps f h (sub_refl z)))

  -- the closure R of the base is c
  pub base_closure : (x : ℕ) → x < 2 ^ m → close_r m rules x ≡ c x
  base_closure x h =
      let f = close_least inside m rules (base_within m c op base) x h in
      sub_antisym
      (f.least (c x) (op.below x h) (op.extends x h) (closed_keeps_base m c op base inside (c x) (op.below x h) (op.settles x h)))
      (closure_inside m c op x (close_r m rules x) h f.below f.contains (keeps_closed (close_r m rules x) f.below f.keeps))

  pub base_exact : Exact m c rules
  base_exact p q hp hq = let e = base_closure p hp in (λ s. rw e at s, λ s. rw e s)

-- ---- smallest

-- the premise of the rule lies inside p, and its conclusion does not
record Breaks (p : ℕ) (rule : Implication) : Type 0 where
  premise : Sub rule.premise p
  conclusion : Sub rule.conclusion p → ⊥

-- some rule of the list does so
abbrev SomeBreaks : (p : ℕ) (rules : List Implication) → Type 0
SomeBreaks p rules = (rule : Implication) × Memᴰ rule rules × Breaks p rule

keeps_or_breaks : (p : ℕ) (rule : Implication) → Keeps inside rule p ⊎ Breaks p rule
keeps_or_breaks p rule = at (sub_dec rule.premise p) (sub_dec rule.conclusion p)
  where
    at : Dec (Sub rule.premise p) → Dec (Sub rule.conclusion p) → Keeps inside rule p ⊎ Breaks p rule
    at (no n) _ = inl (λ s. absurd (n s))
    at (yes s) (yes k) = inl (λ _. k)
    at (yes s) (no n) = inr record { premise = s; conclusion = n }

keeps_all_or_breaks : (p : ℕ) (rules : List Implication) → KeepsAll inside rules p ⊎ SomeBreaks p rules
keeps_all_or_breaks p [] = inl (λ rule q. absurd (Memᴰ.not-nil q))
keeps_all_or_breaks p (first ∷ rules) = at (keeps_or_breaks p first) (keeps_all_or_breaks p rules)
  where
    at :
        Keeps inside first p ⊎ Breaks p first → KeepsAll inside rules p ⊎ SomeBreaks p rules
        → KeepsAll inside (first ∷ rules) p ⊎ SomeBreaks p (first ∷ rules)
    at (inr b) _ = inr (first, Memᴰ.head refl, b)
    at (inl _) (inr (rule, q, b)) = inr (rule, Memᴰ.tail q, b)
    at (inl here) (inl keeps) = inl (λ rule q. each rule (Memᴰ.cases_cons q))
      where
        each : (rule : Implication) → (rule ≡ first) ⊎ Memᴰ rule rules → Keeps inside rule p
        each rule (inl e) = rw e here
        each rule (inr k) = keeps rule k

module _ (m : ℕ) (c : ℕ → ℕ) (op : Closure m c) (others : List Implication) (within : Within m others) (exact : Exact m c others) where
  -- each pseudo-closed set has a rule of the list that breaks there
  broken : (p : ℕ) → Pseudo m c p → SomeBreaks p others
  broken p f = at (keeps_all_or_breaks p others)
    where
      low : p < 2 ^ m
      low = (pseudo_over m c f).below

      at : KeepsAll inside others p ⊎ SomeBreaks p others → SomeBreaks p others
      at (inr b) = b
      at (inl keeps) =
          let entailed : Entails m others p (c p) = (exact p (c p) low (op.below p low)).1 (sub_refl (c p)) in
          absurd (pseudo_open m c op f (sub_trans entailed (passes_inside inside others m (sub_refl p) keeps)))

  -- the rules of the list hold under c
  rule_holds : (rule : Implication) → Memᴰ rule others → rule.premise < 2 ^ m → HoldsUnder c rule.premise rule.conclusion
  rule_holds rule p h =
      let f = close_least inside m others within rule.premise h in
      (exact rule.premise rule.conclusion h (within rule p)).0 (f.keeps rule p f.contains)

  -- and none breaks in two pseudo-closed sets
  breaks_once :
      (rule : Implication) → Memᴰ rule others → {p q : ℕ} → Pseudo m c p → Pseudo m c q → p < q → Breaks p rule → Breaks q rule
      → ⊥
  breaks_once rule k {p} {q} fp fq l bp bq = at (sub_dec p q) (sub_dec q p)
    where
      lp : p < 2 ^ m
      lp = (pseudo_over m c fp).below

      lr : rule.premise < 2 ^ m
      lr = sub_lt m bp.premise lp

      holds : Sub rule.conclusion (c rule.premise)
      holds = rule_holds rule k lr

      at : Dec (Sub p q) → Dec (Sub q p) → ⊥
      at (yes s) _ =
          bq.conclusion (sub_trans holds (sub_trans (op.grows rule.premise p lr lp bp.premise)
          ((pseudo_over m c fq).parts p fp record { inside = s; differs = λ e. omega arith })))
      at (no n) (yes s) = omega (arith, sub_le s)
      at (no n) (no k) =
          bp.conclusion (sub_trans holds (sub_trans
          (closure_inside m c op rule.premise (bit_and p q) lr (sub_lt m (meet_left p q) lp) (meet_greatest bp.premise bq.premise)
          (pseudo_meet m c op fp fq n k)) (meet_left p q)))

-- no exact list is shorter than the base
pub base_smallest : (m : ℕ) (c : ℕ → ℕ) → Closure m c → {rules : List Implication} → BaseUpto m c (2 ^ m) rules → Smallest m c rules
base_smallest m c op {rules} base others within exact =
    omega (
      arith,
      length-map rules (λ (rule : Implication). rule.premise),
      pigeonhole (λ p rule. Memᴰ rule others × Breaks p rule) (premises rules) others base.listed.rising
          (λ p k. let b = broken m c op others within exact p (base.listed.sound p k) in (b.0, b.1, (b.1, b.2)))
          (λ p q rule kp kq l bp bq.
          breaks_once m c op others within exact rule bp.0 (base.listed.sound p kp) (base.listed.sound q kq) l bp.1 bq.1),
    )

-- ---- over rows

-- where c is that of rows, an exact list entails just what holds in the rows
pub exact_holds :
    (m : ℕ) (rows : List ℕ) (rules : List Implication) → Exact m (common m rows) rules → (p q : ℕ) → p < 2 ^ m → q < 2 ^ m
    → Entails m rules p q ↔ Holds rows p q
exact_holds m rows rules exact p q hp hq =
    let h = holds_common m rows p q hq in
    let e = exact p q hp hq in
    (λ s. h.1 (e.0 s), λ s. e.1 (h.0 s))
