-- Ganter's theorem: over the base of the words below a mark, the least word from the mark on that is closed under S is closed or pseudo-closed,
-- and before it there is neither. So the base grows word by word.
use Rattle.std.proofs.Common.{◌≡◌, ℕ, zero, suc, ◌+◌, ◌-◌, ◌^◌, ◌<◌, ◌≤◌, Bool, true, false, cond, not, ◌&&◌, eqb, ◌≢◌, ◌⊎◌, ◌↔◌, List, [], ◌∷◌, ◌++◌, map, sym, refl, ap, ◌∙◌, subst, inl, inr, ⊎_elim, append_assoc, append-nil, zero-add, arith, pow_pos}
use mathlib.Core.List.Memᴰ
use mathlib.Core.List.{Memᴰ, map-append}
use native.Mathlib.Decide.{ℕ_discrete}
use Rattle.std.proofs.lemmas.Bool.{eq-eqb, ne_eqb, cond-true, cond-false, and_from, and_left, and_right, not_from_true, not_from_false}
use Rattle.theory.specs.Words.{Sub}
use Rattle.theory.specs.Closures.{Closure, Closed, LeastClosed, Listing}
use Rattle.theory.specs.Rules.{Implication, Trigger, inside, proper, Fires, KeepsAll, Within, close_s}
use Rattle.theory.specs.Bases.{Pseudo, rule_of, premises, BaseUpto, base_step, base_below}
use Rattle.theory.proofs.Lattice.{sub_lt, proper_lt}
use Rattle.theory.proofs.Closures.{closure_inside}
use Rattle.theory.proofs.Listing.{listing_none, listing_skip, listing_push, listing_same}
use Rattle.theory.proofs.Members.{mem_push}
use Rattle.theory.proofs.Pseudo.{pseudo_over, over_pseudo, full_not_pseudo}
use Rattle.theory.proofs.Rules.{close_closure, closed_keeps}

-- a premise that fires lies inside the set
fires_inside : (t : Trigger) {premise y : ℕ} → Fires t premise y → Sub premise y
fires_inside inside f = f
fires_inside proper f = f.inside

-- ---- the base below a mark

module _ (m : ℕ) (c : ℕ → ℕ) where
  -- no word is below 0
  pub base_none : BaseUpto m c 0 []
  base_none = record { listed = listing_none (Pseudo m c) 0; closures = λ rule p. absurd (Memᴰ.not-nil p) }

  -- past words that are not pseudo-closed
  pub base_skip :
      {hi : ℕ} {rules : List Implication} (next : ℕ) → BaseUpto m c hi rules → hi ≤ next
      → ((x : ℕ) → hi ≤ x → x < next → Pseudo m c x → ⊥) → BaseUpto m c next rules
  base_skip next base h none = record { listed = listing_skip (Pseudo m c) 0 next base.listed h none; closures = base.closures }

  -- past one such word
  pub base_pass : {hi : ℕ} {rules : List Implication} → BaseUpto m c hi rules → (Pseudo m c hi → ⊥) → BaseUpto m c (suc hi) rules
  base_pass {hi} base none = base_skip (suc hi) base (omega arith) (λ x l h f. let e : x ≡ hi = omega arith in none (rw e at f))

  -- one pseudo-closed word
  pub base_push :
      {hi : ℕ} {rules : List Implication} → BaseUpto m c hi rules → Pseudo m c hi → BaseUpto m c (suc hi) (rules ++ rule_of c hi ∷ [])
  base_push {hi} {rules} base f =
      record {
        listed = subst (Listing (Pseudo m c) 0 (suc hi)) (sym (map-append (λ (rule : Implication). rule.premise) rules (rule_of c hi ∷ [])))
            (listing_push (Pseudo m c) 0 (omega arith) base.listed f);
        closures = λ rule p. ⊎_elim (base.closures rule) (λ (e : rule ≡ rule_of c hi). rw e refl) (mem_push rules p);
      }

  -- each premise is pseudo-closed
  pub base_pseudo :
      {hi : ℕ} {rules : List Implication} → BaseUpto m c hi rules → (rule : Implication) → Memᴰ rule rules → Pseudo m c rule.premise
  base_pseudo base rule p = base.listed.sound rule.premise (Memᴰ.map (λ (r : Implication). r.premise) p)

  -- each pseudo-closed word below the mark has its rule, so a set that keeps the rules contains its closure where it fires
  pub base_fires :
      {hi : ℕ} {rules : List Implication} → BaseUpto m c hi rules → (t : Trigger) {x q : ℕ} → KeepsAll t rules x → Pseudo m c q → q < hi
      → Fires t q x → Sub (c q) x
  base_fires {hi} {rules} base t {x} {q} keeps f h fires =
      at (Memᴰ.of_map (λ (rule : Implication). rule.premise) rules (base.listed.all q (omega arith) h f))
    where
      at : (rule : Implication) × Memᴰ rule rules × (rule.premise ≡ q) → Sub (c q) x
      at (rule, p, e) =
          subst (λ w. Sub w x) (base.closures rule p ∙ ap c e) (keeps rule p (subst (λ w. Fires t w x) (sym e) fires))

  -- there is one such list
  pub base_same : {hi : ℕ} {rules others : List Implication} → BaseUpto m c hi rules → BaseUpto m c hi others → rules ≡ others
  base_same {hi} {rules} {others} a b =
      from rules a.closures ∙ ap (map (rule_of c)) (listing_same (Pseudo m c) 0 a.listed b.listed) ∙ sym (from others b.closures)
    where
      from :
          (rules : List Implication) → ((rule : Implication) → Memᴰ rule rules → rule.conclusion ≡ c rule.premise)
          → rules ≡ map (rule_of c) (premises rules)
      from [] f = refl
      from (rule ∷ rules) f =
          let e : rule ≡ rule_of c rule.premise =
          ap (λ x. record { premise = rule.premise; conclusion = x }) (f rule (Memᴰ.head refl)) in
          let rest = from rules (λ r p. f r (Memᴰ.tail p)) in
          ap (λ r. r ∷ rules) e ∙ ap (λ rs. rule_of c rule.premise ∷ rs) rest

-- ---- what keeps the base

module _ (m : ℕ) (c : ℕ → ℕ) (op : Closure m c) {hi : ℕ} {rules : List Implication} (base : BaseUpto m c hi rules) where
  pub base_within : Within m rules
  base_within rule p =
      rw (base.closures rule p) (op.below rule.premise (pseudo_over m c (base_pseudo m c base rule p)).below)

  -- a closed set keeps every rule of the base
  pub closed_keeps_base : (t : Trigger) (x : ℕ) → x < 2 ^ m → Closed c x → KeepsAll t rules x
  closed_keeps_base t x h closed rule p fires =
      let s = fires_inside t fires in
      rw (base.closures rule p) (closure_inside m c op rule.premise x (sub_lt m s h) h s closed)

  -- a pseudo-closed set keeps them under S
  pub pseudo_keeps_base : (x : ℕ) → Pseudo m c x → KeepsAll proper rules x
  pseudo_keeps_base x f rule p fires =
      rw (base.closures rule p) ((pseudo_over m c f).parts rule.premise (base_pseudo m c base rule p) fires)

  -- a set up to the mark that keeps them under S is closed or pseudo-closed
  pub keeps_pseudo : (x : ℕ) → x < 2 ^ m → x ≤ hi → KeepsAll proper rules x → c x ≢ x → Pseudo m c x
  keeps_pseudo x h l keeps n =
      over_pseudo m c record {
        below = h;
        not_closed = n;
        parts = λ q f part. let k = proper_lt part in base_fires m c base proper keeps f (omega arith) part;
      }

  -- ---- the same of the closure S

  pub s_closure : Closure m (close_s m rules)
  s_closure = close_closure proper m rules base_within op.narrow

  s_keeps : (x : ℕ) → x < 2 ^ m → Closed (close_s m rules) x ↔ KeepsAll proper rules x
  s_keeps = closed_keeps proper m rules base_within

  pub closed_s : (x : ℕ) → x < 2 ^ m → Closed c x → Closed (close_s m rules) x
  closed_s x h closed = (s_keeps x h).1 (closed_keeps_base proper x h closed)

  pub pseudo_s : (x : ℕ) → Pseudo m c x → Closed (close_s m rules) x
  pseudo_s x f = (s_keeps x (pseudo_over m c f).below).1 (pseudo_keeps_base x f)

  pub s_pseudo : (x : ℕ) → x < 2 ^ m → x ≤ hi → Closed (close_s m rules) x → c x ≢ x → Pseudo m c x
  s_pseudo x h l closed n = keeps_pseudo x h l ((s_keeps x h).0 closed) n

-- ---- the step

module _
    (m : ℕ) (c : ℕ → ℕ) (op : Closure m c) {lo x : ℕ} {rules : List Implication} (base : BaseUpto m c lo rules)
    (next : LeastClosed m (close_s m rules) lo x)
  where
    -- from the mark on, no closed word comes before x
    pub ganter_closed : (y : ℕ) → y < 2 ^ m → lo ≤ y → Closed c y → x ≤ y
    ganter_closed y h l closed = next.least y h l (closed_s m c op base y h closed)

    -- nor a pseudo-closed one
    pub ganter_pseudo : (y : ℕ) → lo ≤ y → Pseudo m c y → x ≤ y
    ganter_pseudo y l f = next.least y (pseudo_over m c f).below l (pseudo_s m c op base y f)

    pub ganter_upto : BaseUpto m c x rules
    ganter_upto = base_skip m c x base next.above (λ y l h f. omega (arith, ganter_pseudo y l f))

    -- x itself is closed or pseudo-closed
    pub ganter_open : c x ≢ x → Pseudo m c x
    ganter_open n = s_pseudo m c op ganter_upto x next.below (omega arith) next.closed n

    pub ganter_either : Closed c x ⊎ Pseudo m c x
    ganter_either = at (ℕ_discrete (c x) x)
      where
        at : Dec (Closed c x) → Closed c x ⊎ Pseudo m c x
        at (yes e) = inl e
        at (no n) = inr (ganter_open n)

    -- where x is closed, the base up to and with x is the same
    pub ganter_same : Closed c x → BaseUpto m c (suc x) rules
    ganter_same e = base_pass m c ganter_upto (λ f. (pseudo_over m c f).not_closed e)

    -- where it is not, it has the rule of x too
    pub ganter_more : c x ≢ x → BaseUpto m c (suc x) (rules ++ rule_of c x ∷ [])
    ganter_more n = base_push m c ganter_upto (ganter_open n)

-- ---- the base by a test of each word

module _ (m : ℕ) (c : ℕ → ℕ) (op : Closure m c) where
  base_step_base : {n : ℕ} {rules : List Implication} → n < 2 ^ m → BaseUpto m c n rules → BaseUpto m c (suc n) (base_step m c n rules)
  base_step_base {n} {rules} h base = at (ℕ_discrete (close_s m rules n) n) (ℕ_discrete (c n) n)
    where
      test : Bool
      test = eqb (close_s m rules n) n && not (eqb (c n) n)

      same : test ≡ false → (Pseudo m c n → ⊥) → BaseUpto m c (suc n) (base_step m c n rules)
      same e none = rw (cond-false test (rules ++ rule_of c n ∷ []) rules e) (base_pass m c base none)

      more : test ≡ true → Pseudo m c n → BaseUpto m c (suc n) (base_step m c n rules)
      more e f = rw (cond-true test (rules ++ rule_of c n ∷ []) rules e) (base_push m c base f)

      at : Dec (Closed (close_s m rules) n) → Dec (Closed c n) → BaseUpto m c (suc n) (base_step m c n rules)
      at (yes s) (no d) =
          more (and_from _ _ (eq-eqb (close_s m rules n) n s) (not_from_false _ (ne_eqb (c n) n d))) (s_pseudo m c op base n h (omega arith) s d)
      at (yes s) (yes e) = same (and_right _ _ (not_from_true _ (eq-eqb (c n) n e))) (λ f. (pseudo_over m c f).not_closed e)
      at (no d) _ = same (and_left _ _ (ne_eqb (close_s m rules n) n d)) (λ f. d (pseudo_s m c op base n f))

  pub base_below_base : (n : ℕ) → n ≤ 2 ^ m → BaseUpto m c n (base_below m c n)
  base_below_base zero h = base_none m c
  base_below_base (suc n) h = base_step_base (omega arith) (base_below_base n (omega arith))

  pub base_base_below : {n : ℕ} {rules : List Implication} → n ≤ 2 ^ m → BaseUpto m c n rules → rules ≡ base_below m c n
  base_base_below {n} h base = base_same m c base (base_below_base n h)

-- ---- the end

module _ (m : ℕ) (c : ℕ → ℕ) (op : Closure m c) where
  -- the full word is not pseudo-closed
  pub base_full : {rules : List Implication} → BaseUpto m c (2 ^ m - 1) rules → BaseUpto m c (2 ^ m) rules
  base_full {rules} base =
      let last : suc (2 ^ m - 1) ≡ 2 ^ m = omega (arith, pow_pos m) in
      subst (λ n. BaseUpto m c n rules) last (base_pass m c base (full_not_pseudo m c op))

-- the base of the words below d begins that of the words below any larger number
pub base_below_front : (m : ℕ) (c : ℕ → ℕ) (d k : ℕ) → (rest : List Implication) × (base_below m c (k + d) ≡ base_below m c d ++ rest)
base_below_front m c d zero = ([], ap (base_below m c) (zero-add d) ∙ sym (append-nil (base_below m c d)))
base_below_front m c d (suc k) = at (base_below_front m c d k)
  where
    n : ℕ
    n = k + d

    next : suc k + d ≡ suc n
    next = omega arith

    more : (b : Bool) (rest : List Implication) → base_below m c n ≡ base_below m c d ++ rest
        → (longer : List Implication) × (cond b (base_below m c n ++ rule_of c n ∷ []) (base_below m c n) ≡ base_below m c d ++ longer)
    more true rest e = (rest ++ rule_of c n ∷ [], ap (λ xs. xs ++ rule_of c n ∷ []) e ∙ append_assoc (base_below m c d) rest (rule_of c n ∷ []))
    more false rest e = (rest, e)

    at : (rest : List Implication) × (base_below m c n ≡ base_below m c d ++ rest) → (rest : List Implication) × (base_below m c (suc k + d) ≡ base_below m c d ++ rest)
    at (rest, e) =
        let f = more (eqb (close_s m (base_below m c n) n) n && not (eqb (c n) n)) rest e in (f.0, ap (base_below m c) next ∙ f.1)
