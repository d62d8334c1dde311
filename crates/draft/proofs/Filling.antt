-- The filling of a tray with the rules of a base: what it holds at each turn, at the end, and where it is full.
use Rattle.std.proofs.Common.{◌≡◌, ℕ, suc, ◌+◌, ◌-◌, ◌^◌, ◌<◌, ◌≤◌, min, true, false, List, [], ◌∷◌, ◌++◌, length, take, drop, Some, None, Ok, Option, sym, refl, ap, ◌∙◌, subst, append_assoc, arith, length-append, length-take-le}
use Rattle.draft.specs.declared.call.Advance.{Advance}
use Rattle.draft.specs.declared.call.Advance.TheVariants as found
use Rattle.draft.specs.declared.call.DraftGranted.TheVariants.{Advanced}
use Rattle.draft.specs.declared.call.DraftCall.TheVariants as call
use Rattle.draft.specs.declared.faults.DraftFault.{DraftFault}
use Rattle.draft.specs.declared.faults.DraftFault.TheVariants as refusal
use Rattle.draft.specs.Advances.{Advances, AtFull, Crowded, Stops, Taken, at_full, sought_from}
use Rattle.draft.specs.Faults.{fault_of}
use Rattle.draft.specs.Fills.{Filled}
use Rattle.draft.specs.Laws.{RulesBefore, implications}
use Rattle.draft.proofs.Bases.{full_sought}
use Rattle.draft.proofs.Laws.{Agrees, moves, next, ran_none}
use Rattle.fault.specs.Layers.{in_trays}
use Rattle.operators.specs.Heeded.{implication, max_rules}
use Rattle.sets.specs.declared.rule.Rule.{Rule}
use Rattle.sets.specs.declared.set.Set.{Set}
use Rattle.std.specs.List.{AllByRecursion}
use Rattle.std.proofs.lemmas.List.{length-map, take_all, take_at}
use Rattle.std.proofs.lemmas.Bool.{and_from, eq-eqb, true≢false}
use Rattle.theory.specs.Bases.{BaseUpto, base_below, rule_of}
use Rattle.theory.specs.Closures.{Closure, LeastClosed}
use Rattle.theory.specs.Rules.{Implication, close_s}
use Rattle.tray.specs.declared.Tray.{Tray}
use Rattle.tray.specs.Tray.{Kept, entries, max_entries}
use Rattle.theory.proofs.Ganter.{base_base_below, base_below_front, ganter_more}

-- what the tray holds: the rules up to the mark
pub record Filling (m : ℕ) (c : ℕ → ℕ) (room : ℕ) (rules : List Rule) (mark : Option Set) : Type 0 where
  pub marked : List ℕ
  pub agrees : Agrees m c room marked rules mark

module _ (m : ℕ) (c : ℕ → ℕ) (op : Closure m c) (room : ℕ) (small : room ≤ max_rules) where
  -- the whole base
  abbrev all : List Implication
  all = base_below m c (2 ^ m)

  pub filling_more :
      (rules after : List Rule) (mark later : Option Set) (found : Advance) → Filling m c room rules mark → Advances m c room rules mark (Ok found) after later
      → Filling m c room after later
  filling_more rules after mark later found f a =
      let step = moves m c op room small f.marked call.Advance rules mark (Ok (Advanced found)) after later a f.agrees in record { marked = step.later; agrees = step.agrees }

  sought_few : (rules : List Rule) (mark : Option Set) → Filling m c room rules mark → sought_from mark ≤ 2 ^ m
  sought_few rules None f = omega arith
  sought_few rules (Some s) f = let low : s.word < 2 ^ m = subst (λ n. s.word < 2 ^ n) f.agrees.of_width s.below in omega arith

  -- ---- the end

  pub filled_base : (rules : List Rule) (mark : Option Set) → Filling m c room rules mark → at_full m mark ≡ true → BaseUpto m c (2 ^ m) (implications rules)
  filled_base rules mark f full = (subst (λ n. RulesBefore m c n rules) (full_sought m mark full) f.agrees.before).base

  pub filled_all :
      (rules : List Rule) (mark : Option Set) → Filling m c room rules mark → at_full m mark ≡ true
      → (implications rules ≡ take room (base_below m c (2 ^ m))) × (length (base_below m c (2 ^ m)) ≤ room)
  filled_all rules mark f full =
      let is : implications rules ≡ all =
      base_base_below m c op (omega arith) (filled_base rules mark f full) in
      let few : length all ≤ room = omega (arith, ap length is, length-map rules implication, f.agrees.few) in
      (is ∙ sym (take_all room all few), few)

  -- ---- no place for the next rule

  pub filled_some :
      (rules : List Rule) (mark : Option Set) → Filling m c room rules mark → Crowded m c room rules mark
      → (implications rules ≡ take room (base_below m c (2 ^ m))) × (room < length (base_below m c (2 ^ m)))
  filled_some rules mark f crowd = (sym (ap (take room) split ∙ front), longer)
    where
      x : ℕ
      x = crowd.set.word

      least : LeastClosed m (close_s m (implications rules)) (sought_from mark) x
      least = next m c op room small f.marked rules mark crowd.set f.agrees crowd.taken

      upto : implications rules ++ rule_of c x ∷ [] ≡ base_below m c (suc x)
      upto = base_base_below m c op (omega (arith, least.below)) (ganter_more m c op f.agrees.before.base least crowd.not_closed)

      rest : List Implication
      rest = (base_below_front m c (suc x) (2 ^ m - suc x)).0

      count : length (implications rules) ≡ room
      count = length-map rules implication ∙ crowd.full

      split : all ≡ implications rules ++ (rule_of c x ∷ rest)
      split =
          let sum : 2 ^ m - suc x + suc x ≡ 2 ^ m = omega (arith, least.below) in
          ap (base_below m c) (sym sum) ∙ (base_below_front m c (suc x) (2 ^ m - suc x)).1 ∙ ap (λ xs. xs ++ rest) (sym upto)
          ∙ append_assoc (implications rules) (rule_of c x ∷ []) rest

      front : take room (implications rules ++ (rule_of c x ∷ rest)) ≡ implications rules
      front = take_at (implications rules) (rule_of c x ∷ rest) room count

      longer : room < length all
      longer = omega (arith, count, ap length split, length-append (implications rules) (rule_of c x ∷ rest))

  -- the other refusals do not come
  pub filled_refused :
      (rules : List Rule) (mark : Option Set) (fault : DraftFault) → Filling m c room rules mark → at_full m mark ≡ false → Stops m c room rules mark fault
      → (fault_of fault ≡ in_trays 21) × Crowded m c room rules mark
  filled_refused rules mark (refusal.Set inner) f lacks s = absurd (s.1 f.agrees.of_width)
  filled_refused rules mark (refusal.Tray inner) f lacks s = s
  filled_refused rules mark refusal.AtEnd f lacks s = absurd (not_full mark lacks s)
    where
      not_full : (mark : Option Set) → at_full m mark ≡ false → AtFull m mark → ⊥
      not_full None e k = k
      not_full (Some s) e k = true≢false (sym (and_from _ _ (eq-eqb _ _ k.0) (eq-eqb _ _ k.1)) ∙ e)
  filled_refused rules mark refusal.NotAtEnd f lacks s = absurd s

  pub filling_none : (rules : List Rule) → rules ≡ [] → Filling m c room rules None
  filling_none rules none =
      let start = ran_none m c op room small rules None none refl in record { marked = start.marked; agrees = start.agrees }

  -- the rules stay at their places
  pub longer_after :
      (rules after : List Rule) (mark later : Option Set) (told : Advance) → Advances m c room rules mark (Ok told) after later → length rules ≤ length after
  longer_after rules after mark later found.Closed a = omega (arith, ap length a.rules)
  longer_after rules after mark later found.Rule a = omega (arith, ap length a.rules, length-append rules (a.rule ∷ []))

  -- ---- the mark rises

  pub rises :
      (rules after : List Rule) (mark later : Option Set) (told : Advance) → Filling m c room rules mark → Advances m c room rules mark (Ok told) after later
      → 2 ^ m - sought_from later < 2 ^ m - sought_from mark
  rises rules after mark later told f a = at told a
    where
      up : (set : Set) → Taken m rules mark set → later ≡ Some set → 2 ^ m - sought_from later < 2 ^ m - sought_from mark
      up set taken moved = omega (arith, taken.least.above, taken.least.below, ap sought_from moved)

      at : (told : Advance) → Advances m c room rules mark (Ok told) after later → 2 ^ m - sought_from later < 2 ^ m - sought_from mark
      at found.Closed a = up a.set a.taken a.moved
      at found.Rule a = up a.set a.taken a.moved

-- what a tray over memory holds, told of the memory
pub filled_memory :
    (m : ℕ) (c : ℕ → ℕ) (new t : Tray Rule) (before after : List Rule) → after ≡ t.memory.now → new.memory.now ≡ before → Kept new t
    → implications (entries t) ≡ take (min (length before) max_entries) (base_below m c (2 ^ m)) → AllByRecursion (λ r. r.premise.width ≡ m) (entries t) → Filled m c before after
filled_memory m c new t before after same lent kept rules widths =
    let place : length (entries t) ≡ t.count = length-take-le t.count t.memory.now t.within in
    record {
      kept = entries t;
      front = ap (take (length (entries t))) same ∙ ap (λ n. take n t.memory.now) place;
      rest = ap (drop (length (entries t))) same ∙ kept.past ∙ ap (drop (length (entries t))) lent;
      rules = rules;
      widths = widths;
    }
