-- The counts of missing premise signals, and what a count of 0 says.
use Rattle.std.proofs.Common.{◌≡◌, ℕ, ◌+◌, ◌-◌, ◌/◌, ◌^◌, ◌<◌, ◌≤◌, true, false, eqb, ◌≢◌, ◌⊎◌, List, [], ◌∷◌, length, get_or, set, sym, refl, ap, ◌∙◌, subst, inl, inr, arith}
use mathlib.Core.List.Memᴰ
use mathlib.Core.List.{Memᴰ}
use native.Mathlib.Decide.{ℕ_discrete}
use lib.Arith.{bin_ind}
use lib.Bits.{bit_and, bit_or, bit_xor, and_comm, xor_add_and}
use lib.Count.{ones, ones_step}
use lib.Pow.{ones_lt}
use Rattle.sets.specs.declared.rule.Rule.{Rule}
use Rattle.std.proofs.lemmas.List.{get_or_default, get_or-set_same, get_or-set_other}
use Rattle.std.proofs.lemmas.Bool.{cases_Bool, eqb-true, eqb-false, cond-true, cond-false, cond_both}
use Rattle.theory.specs.Rules.{Implication, inside, KeepsAll, close_r}
use Rattle.theory.specs.Words.{Sub}
use Rattle.theory.proofs.Lattice.{and_half, and_low, sub_refl, sub_trans, sub_lt, sub_full, meet_left, join_left, join_right, join_least}
use Rattle.theory.proofs.Members.{mem_read, mem_place}
use Rattle.theory.proofs.Rules.{proper_ones, close_least, full_keeps, keeps_all_close}
use Rattle.operators.specs.Counting.{Counted, AllCounted, Follows}
use Rattle.operators.specs.Heeded.{implication, of_width, of_width_within}

-- ---- ones of parts

-- a part has no more signals than the whole
pub ones_part : (p d : ℕ) → ones (bit_and p d) ≤ ones p
ones_part p d = at (ℕ_discrete (bit_and p d) p)
  where
    at : Dec (bit_and p d ≡ p) → ones (bit_and p d) ≤ ones p
    at (yes e) = let k = ap ones e in omega arith
    at (no n) = omega (arith, proper_ones record { inside = meet_left p d; differs = n })

-- and as many only where it is the whole
pub ones_whole : (p d : ℕ) → ones (bit_and p d) ≡ ones p → Sub p d
ones_whole p d e = at (ℕ_discrete (bit_and p d) p)
  where
    at : Dec (bit_and p d ≡ p) → Sub p d
    at (yes s) = record { same = s }
    at (no n) = absurd (omega (arith, proper_ones record { inside = meet_left p d; differs = n }))

-- signals inside t are those inside d and those that t has beyond d
ones_rest : (p t d u : ℕ) → Sub d t → u + d ≡ t → ones (bit_and p t) ≡ ones (bit_and p d) + ones (bit_and p u)
unfolding ones
ones_rest =
    bin_ind (λ (p : ℕ). (t d u : ℕ) → Sub d t → u + d ≡ t → ones (bit_and p t) ≡ ones (bit_and p d) + ones (bit_and p u))
    (λ t d u s e. refl) step
  where
    step :
        (p : ℕ) → ((t d u : ℕ) → Sub d t → u + d ≡ t → ones (bit_and (p / 2) t) ≡ ones (bit_and (p / 2) d) + ones (bit_and (p / 2) u))
        → (t d u : ℕ) → Sub d t → u + d ≡ t → ones (bit_and p t) ≡ ones (bit_and p d) + ones (bit_and p u)
    step p below t d u s e =
        let same = s.same in
        let low = and_low d t in
        let half : Sub (d / 2) (t / 2) = record { same = sym (and_half d t) ∙ ap (λ x. x / 2) same } in
        let sum : u / 2 + d / 2 ≡ t / 2 = omega arith in
        let rest = below (t / 2) (d / 2) (u / 2) half sum in
        let a = ap ones (and_half p t) in
        let b = ap ones (and_half p d) in
        let g = ap ones (and_half p u) in
        omega (arith, ones_step (bit_and p t), ones_step (bit_and p d), ones_step (bit_and p u), and_low p t, and_low p d, and_low p u)

pub ones_waiting : (p t d : ℕ) → Sub d t → ones (bit_and p t) ≡ ones (bit_and p d) + ones (bit_and p (bit_xor t d))
ones_waiting p t d s =
    let e : bit_and t d ≡ d = and_comm t d ∙ s.same in
    let k : bit_xor t d + d ≡ t = omega (arith, xor_add_and t d) in
    ones_rest p t d (bit_xor t d) s k

-- ---- the rules of a width, by members

pub of_width_mem : {rule : Rule} (m : ℕ) (rules : List Rule) → Memᴰ rule rules → rule.premise.width ≡ m → Memᴰ (implication rule) (of_width m rules)
of_width_mem m [] p e = absurd (Memᴰ.not-nil p)
of_width_mem {rule} m (r ∷ rules) p e = at (cases_Bool (eqb r.premise.width m)) (Memᴰ.cases_cons p) (λ q. of_width_mem m rules q e)
  where
    at :
        (eqb r.premise.width m ≡ true) ⊎ (eqb r.premise.width m ≡ false) → (rule ≡ r) ⊎ Memᴰ rule rules
        → (Memᴰ rule rules → Memᴰ (implication rule) (of_width m rules)) → Memᴰ (implication rule) (of_width m (r ∷ rules))
    at (inl t) (inl i) _ = rw (cond-true _ (implication r ∷ of_width m rules) (of_width m rules) t) (Memᴰ.head (ap implication i))
    at (inl t) (inr q) f = rw (cond-true _ (implication r ∷ of_width m rules) (of_width m rules) t) (Memᴰ.tail (f q))
    at (inr t) (inl i) _ = absurd (eqb-false _ _ t (ap (λ x. x.premise.width) (sym i) ∙ e))
    at (inr t) (inr q) f = rw (cond-false _ (implication r ∷ of_width m rules) (of_width m rules) t) (f q)

-- the rule that an implication of the width comes from
pub record From (m : ℕ) (rules : List Rule) (imp : Implication) : Type 0 where
  pub rule : Rule
  pub member : Memᴰ rule rules
  pub spans : rule.premise.width ≡ m
  pub is : imp ≡ implication rule

pub of_width_from : {imp : Implication} (m : ℕ) (rules : List Rule) → Memᴰ imp (of_width m rules) → From m rules imp
of_width_from m [] p = absurd (Memᴰ.not-nil p)
of_width_from {imp} m (r ∷ rules) p =
    cond_both (eqb r.premise.width m) (implication r ∷ of_width m rules) (of_width m rules) (λ l. Memᴰ imp l → From m (r ∷ rules) imp)
    (λ t q. at (eqb-true _ _ t) (Memᴰ.cases_cons q) (of_width_from m rules)) (λ _ q. later (of_width_from m rules q)) p
  where
    later : From m rules imp → From m (r ∷ rules) imp
    later f = record { rule = f.rule; member = Memᴰ.tail f.member; spans = f.spans; is = f.is }

    at :
        r.premise.width ≡ m → (imp ≡ implication r) ⊎ Memᴰ imp (of_width m rules) → (Memᴰ imp (of_width m rules) → From m rules imp)
        → From m (r ∷ rules) imp
    at e (inl i) _ = record { rule = r; member = Memᴰ.head refl; spans = e; is = i }
    at e (inr q) f = later (f q)

-- ---- the rule at a place

same_item : (rules : List Rule) (i : ℕ) (a b : Rule) → i < length rules → a ≡ get_or rules i a → b ≡ get_or rules i b → a ≡ b
same_item rules i a b lt p q = p ∙ get_or_default rules i a b lt ∙ sym q

-- ---- all counts

all_grow :
    {m : ℕ} (rules : List Rule) (counts : List ℕ) {from upto done word more : ℕ} → Sub word more → AllCounted m rules counts from upto done word
    → AllCounted m rules counts from upto done more
all_grow rules counts s all i rule l h is e =
    let a = all i rule l h is e in
    record { count = a.count; fired = λ p. sub_trans (a.fired p) s }

all_set :
    {m : ℕ} (rules : List Rule) (counts : List ℕ) (place v : ℕ) {from upto done word : ℕ} → ((i : ℕ) → from ≤ i → i < upto → i ≢ place)
    → AllCounted m rules counts from upto done word → AllCounted m rules (set counts place v) from upto done word
all_set rules counts place v {done = done} {word = word} apart all i rule l h is e =
    subst (λ k. Counted rule k done word) (sym (get_or-set_other counts place i v 0 (apart i l h))) (all i rule l h is e)

module _ (m : ℕ) (rules : List Rule) (i : ℕ) (item : Rule) (lt : i < length rules) (is : item ≡ get_or rules i item) where
  all_more :
      (counts : List ℕ) {done word : ℕ} → AllCounted m rules counts 0 i done word → (item.premise.width ≡ m → Counted item (get_or counts i 0) done word)
      → AllCounted m rules counts 0 (i + 1) done word
  all_more counts {done} {word} all here j rule l h read e = at (ℕ_discrete j i)
    where
      at : Dec (j ≡ i) → Counted rule (get_or counts j 0) done word
      at (yes k) =
          let same : rule ≡ item = same_item rules i rule item lt (subst (λ n. rule ≡ get_or rules n rule) k read) is in
          rw (same, k) (here (subst (λ r. r.premise.width ≡ m) same e))
      at (no n) = all j rule l (omega arith) read e

  -- its new count v, where the rules before it are counted for the target
  module _
      (counts : List ℕ) (v target word : ℕ) (room : length rules ≤ length counts)
      (sum : v + ones (bit_and item.premise.word target) ≡ ones item.premise.word)
      (all : AllCounted m rules counts 0 i target word) (around : Sub target word) (follows : Follows m rules target word) where
    -- the rules up to this one are then counted, and the word y is still between
    abbrev pub Turned : ℕ → Type 0
    Turned y = AllCounted m rules (set counts i v) 0 (i + 1) target y × Sub target y × Follows m rules target y

    turned :
        (y : ℕ) → Sub word y → (Sub item.premise.word target → Sub item.conclusion.word y) → Follows m rules target y → Turned y
    turned y grows fired after = (
      all_more (set counts i v) (all_set rules counts i v (λ j _ h. omega arith) (all_grow rules counts grows all))
          (λ _. rw (get_or-set_same counts i v 0 (omega arith)) record { count = sum; fired = fired }),
      sub_trans around grows,
      after,
    )

    -- a count of 0 brings the conclusion in
    pub turn_fires : {y : ℕ} → item.premise.width ≡ m → v ≡ 0 → y ≡ bit_or word item.conclusion.word → Turned y
    turn_fires e z is_y =
        let whole : Sub item.premise.word target = ones_whole item.premise.word target (omega arith) in
        rw is_y
        (turned (bit_or word item.conclusion.word) (join_left word item.conclusion.word) (λ _. join_right word item.conclusion.word)
        (λ y keeps s. join_least (follows y keeps s)
        (keeps (implication item) (of_width_mem m rules (mem_read rules i item lt is) e) (sub_trans whole s))))

    -- any other leaves the word
    pub turn_waits : {y : ℕ} → (v ≡ 0 → ⊥) → y ≡ word → Turned y
    turn_waits n is_y =
        rw is_y
        (turned word (sub_refl word) (λ p. absurd (n (let k = ap ones p.same in omega arith))) follows)

  -- those after it stay as they are
  pub later_set :
      (counts : List ℕ) (v : ℕ) {done word : ℕ} → AllCounted m rules counts i (length rules) done word
      → AllCounted m rules (set counts i v) (i + 1) (length rules) done word
  later_set counts v all = all_set rules counts i v (λ j l h. omega arith) (λ j rule l. all j rule (omega arith))

  pub later_same :
      (counts : List ℕ) {done word : ℕ} → AllCounted m rules counts i (length rules) done word → AllCounted m rules counts (i + 1) (length rules) done word
  later_same counts all j rule l = all j rule (omega arith)

  -- a rule that the waiting signals do not touch, or of another width
  pub counted_same :
      (counts : List ℕ) {needed done target word : ℕ} → needed ≡ item.premise.word → Sub done target → Sub target word
      → (item.premise.width ≡ m → ones (bit_and needed (bit_xor target done)) ≡ 0)
      → AllCounted m rules counts i (length rules) done target → AllCounted m rules counts 0 i target word
      → AllCounted m rules counts 0 (i + 1) target word
  counted_same counts {needed} {done} {target} {word} needs s t none later all = all_more counts all here
    where
      here : item.premise.width ≡ m → Counted item (get_or counts i 0) target word
      here e =
          let p = item.premise.word in
          let was = later i item (omega arith) lt is e in
          let z : ones (bit_and p (bit_xor target done)) ≡ 0 = rw needs at (none e) in
          let split = ones_waiting p target done s in
          record {
            count = omega (arith, was.count);
            fired = λ q. sub_trans (was.fired (ones_whole p done (let k = ap ones q.same in omega arith))) t;
          }

-- ---- sums

pub missing_sum : {needed p : ℕ} (d : ℕ) → needed ≡ p → (ones needed - ones (bit_and needed d)) + ones (bit_and p d) ≡ ones p
missing_sum {needed} {p} d e = rw e (omega (arith, ones_part p d))

module _ {needed p : ℕ} (done target k : ℕ) (needs : needed ≡ p) (s : Sub done target) (sum : k + ones (bit_and p done) ≡ ones p) where
  pub found_le : ones (bit_and needed (bit_xor target done)) ≤ k
  found_le = rw needs (omega (arith, ones_waiting p target done s, ones_part p target))

  pub taken_sum : (k - ones (bit_and needed (bit_xor target done))) + ones (bit_and p target) ≡ ones p
  taken_sum = rw needs (omega (arith, ones_waiting p target done s, ones_part p target))

-- ---- the end: nothing waits

pub counted_keeps : (m : ℕ) (rules : List Rule) (counts : List ℕ) (word : ℕ) → AllCounted m rules counts 0 (length rules) word word → KeepsAll inside (of_width m rules) word
counted_keeps m rules counts word all imp p fires =
    let f = of_width_from m rules p in
    let place = mem_place rules f.rule f.member in
    rw f.is ((all place.0 f.rule (omega arith) place.1 (sym place.2) f.spans).fired (subst (λ x. Sub x.premise word) f.is fires))

module _ (m : ℕ) (rules : List Rule) (x y : ℕ) (h : x < 2 ^ m) (follows : Follows m rules x y) where
  pub follows_lt : y < 2 ^ m
  follows_lt = sub_lt m (follows (2 ^ m - 1) (full_keeps inside m (of_width m rules) (of_width_within m rules)) (sub_full m x h)) (ones_lt m)

  pub counted_close :
      (counts : List ℕ) → Sub x y → AllCounted m rules counts 0 (length rules) y y → y ≡ close_r m (of_width m rules) x
  counted_close counts s all =
      let f = close_least inside m (of_width m rules) (of_width_within m rules) x h in
      keeps_all_close inside m (of_width m rules) (of_width_within m rules) h s
      (follows (close_r m (of_width m rules) x) f.keeps f.contains) (counted_keeps m rules counts y all)
