-- A tray that is filled by the steps of a survey from the empty set on.
use Rattle.std.proofs.Common.{Ok, Err, ◌≡◌, ℕ, suc, ◌+◌, ◌-◌, ◌^◌, ◌<◌, ◌≤◌, min, true, false, eqb, ◌⊎◌, List, [], ◌∷◌, ◌++◌, length, take, drop, sym, refl, ap, ◌∙◌, subst, inl, inr, append_assoc, arith, length-append, length-take-le}
use Rattle.std.specs.List.{AllByRecursion}
use Rattle.std.proofs.lemmas.List.{map_push, length-map, take_all, take_at}
use Rattle.std.proofs.lemmas.Bool.{cases_Bool, cond-true, cond-false, eqb-true}
use Rattle.sets.specs.declared.faults.SetFault.{SetFault}
use Rattle.sets.specs.declared.set.Set.{Set}
use Rattle.theory.specs.Closures.{Closed, LeastClosed, Listing, closed_below}
use Rattle.theory.proofs.Listing.{closed_push, closed_below_front, listing_closed_below, listing_none}
use Rattle.tray.specs.declared.Tray.{Tray}
use Rattle.tray.specs.Tray.{Kept, capacity, entries, max_entries}
use Rattle.survey.specs.States.{Answer, FreshAt}
use Rattle.survey.specs.Calls.{Does, Lists, state_after}
use Rattle.survey.specs.Fills.{Filled, words_of}
use Rattle.survey.specs.declared.call.Granted.TheVariants.{Listed}
use Rattle.survey.specs.declared.call.Call.TheVariants.{Step}
use Rattle.survey.specs.declared.state.State.{State}
use Rattle.survey.specs.declared.state.State.TheVariants.{Fresh, Running, Ended}

-- the word before which all closed words from the start on are listed
abbrev pub done_to : (m : ℕ) → State → ℕ
done_to m (Fresh start) = start.word
done_to m (Running last serial) = suc last.word
done_to m Ended = 2 ^ m

after_done : (m : ℕ) (set : Set) (serial : ℕ) → set.word < 2 ^ m → done_to m (state_after m set serial) ≡ suc set.word
after_done m set serial below = by_test (cases_Bool (eqb set.word (2 ^ m - 1)))
  where
    by_test : (eqb set.word (2 ^ m - 1) ≡ true) ⊎ (eqb set.word (2 ^ m - 1) ≡ false) → done_to m (state_after m set serial) ≡ suc set.word
    by_test (inl full) = ap (done_to m) (cond-true _ Ended (Running set serial) full) ∙ omega (arith, eqb-true set.word (2 ^ m - 1) full)
    by_test (inr less) = ap (done_to m) (cond-false _ Ended (Running set serial) less)

-- what a granted step tells
pub record Stepped (m : ℕ) (c : ℕ → ℕ) (before : State) (set : Set) (after : State) : Type 0 where
  pub least : LeastClosed m c (done_to m before) set.word
  pub width : set.width ≡ m
  pub done : done_to m after ≡ suc set.word

stepped_from : (m : ℕ) (c : ℕ → ℕ) (before : State) (mark count : ℕ) (set : Set) (serial trials : ℕ) (after : State) → mark ≡ done_to m before
    → Lists m c mark count set serial trials after → Stepped m c before set after
stepped_from m c before mark count set serial trials after e l =
    record {
      least = subst (λ k. LeastClosed m c k set.word) e l.least;
      width = l.width;
      done = ap (done_to m) l.left ∙ after_done m set serial l.least.below;
    }

stepped : (span m : ℕ) (c : ℕ → ℕ) (before : State) (set : Set) (serial trials : ℕ) (after : State) → m ≡ span
    → Does span m c Step before (Ok (Listed set serial trials)) after → Stepped m c before set after
stepped span m c (Fresh start) set serial trials after e d = stepped_from m c (Fresh start) start.word 0 set serial trials after refl (d e)
stepped span m c (Running last n) set serial trials after e d = stepped_from m c (Running last n) (suc last.word) n set serial trials after refl (d e)
stepped span m c Ended set serial trials after e d = absurd d

-- a refused step tells that all are listed
step_ended : (span m : ℕ) (c : ℕ → ℕ) (before : State) (fault : SetFault) (after : State) → m ≡ span → Does span m c Step before (Err fault) after → done_to m before ≡ 2 ^ m
step_ended span m c (Fresh start) fault after e d = absurd (d e)
step_ended span m c (Running last n) fault after e d = absurd (d e)
step_ended span m c Ended fault after e d = refl

every_push : {X : Type 0} (P : X → Type 0) (xs : List X) (x : X) → AllByRecursion P xs → P x → AllByRecursion P (xs ++ x ∷ [])
every_push P [] x all here = (here, tt)
every_push P (y ∷ xs) x (first, all) here = (first, every_push P xs x all here)

-- the sets put so far are all closed sets that were listed, in order
pub record Filling (m : ℕ) (c : ℕ → ℕ) (state : State) (sets : List Set) : Type 0 where
  pub listing : Listing (Closed c) 0 (done_to m state) (words_of sets)
  pub widths : AllByRecursion (λ s. s.width ≡ m) sets

pub filling_more : (m : ℕ) (c : ℕ → ℕ) (before : State) (sets : List Set) (set : Set) (after : State)
    → Filling m c before sets → Stepped m c before set after → Filling m c after (sets ++ set ∷ [])
filling_more m c before sets set after f s =
    record {
      listing = subst (λ k. Listing (Closed c) 0 k (words_of (sets ++ set ∷ []))) (sym s.done)
          (subst (λ xs. Listing (Closed c) 0 (suc set.word) xs) (sym (map_push (λ x. x.word) sets set)) (closed_push m c (omega arith) f.listing s.least));
      widths = every_push (λ x. x.width ≡ m) sets set f.widths s.width;
    }

-- all closed sets are put
pub filled_all : (m capacity : ℕ) (c : ℕ → ℕ) (state : State) (sets : List Set) → Filling m c state sets → done_to m state ≡ 2 ^ m → length sets ≤ capacity
    → (words_of sets ≡ take capacity (closed_below c (2 ^ m))) × (length (closed_below c (2 ^ m)) ≤ capacity)
filled_all m capacity c state sets f done room =
    let same : words_of sets ≡ closed_below c (2 ^ m) = listing_closed_below c (done_to m state) (words_of sets) f.listing ∙ ap (closed_below c) done in
    let fits : length (closed_below c (2 ^ m)) ≤ capacity = omega (arith, ap length same, length-map sets (λ s. s.word)) in
    (same ∙ sym (take_all capacity (closed_below c (2 ^ m)) fits), fits)

-- one closed set more than there is place for
pub filled_some : (m capacity : ℕ) (c : ℕ → ℕ) (before : State) (sets : List Set) (set : Set) (after : State)
    → Filling m c before sets → Stepped m c before set after → length sets ≡ capacity
    → (words_of sets ≡ take capacity (closed_below c (2 ^ m))) × (capacity < length (closed_below c (2 ^ m)))
filled_some m capacity c before sets set after f s full =
    let d : ℕ = suc set.word in
    let more = filling_more m c before sets set after f s in
    let front : words_of sets ++ set.word ∷ [] ≡ closed_below c d =
    sym (map_push (λ x. x.word) sets set) ∙ listing_closed_below c (done_to m after) (words_of (sets ++ set ∷ [])) more.listing ∙ ap (closed_below c) s.done in
    let rest = closed_below_front c d (2 ^ m - d) in
    let sum : 2 ^ m - d + d ≡ 2 ^ m = omega (arith, s.least.below) in
    let whole : closed_below c (2 ^ m) ≡ words_of sets ++ (set.word ∷ rest.0) =
    ap (closed_below c) (sym sum) ∙ rest.1 ∙ ap (λ xs. xs ++ rest.0) (sym front) ∙ append_assoc (words_of sets) (set.word ∷ []) rest.0 in
    let long : length (words_of sets) ≡ capacity = length-map sets (λ x. x.word) ∙ full in (
      sym (ap (take capacity) whole ∙ take_at (words_of sets) _ capacity long),
      omega (arith, ap length whole, length-append (words_of sets) (set.word ∷ rest.0)),
    )

pub filling_start : (m : ℕ) (c : ℕ → ℕ) (state : State) (sets : List Set) → FreshAt 0 state → sets ≡ [] → Filling m c state sets
filling_start m c (Fresh start) sets at none =
    subst (λ xs. Filling m c (Fresh start) xs) (sym none)
    record { listing = subst (λ k. Listing (Closed c) 0 k []) (sym at) (listing_none (Closed c) 0); widths = tt }
filling_start m c (Running last serial) sets at none = absurd at
filling_start m c Ended sets at none = absurd at

module _ {A : Type 0} (span : A → ℕ) (means : A → ℕ → ℕ) (operator opened : A) (width : ℕ) (is : opened ≡ operator) (wide : width ≡ span operator) where
  -- what a survey does is told of the operator that it was opened over
  does_opened : (now : A) (w : ℕ) (before : State) (answer : Answer) (after : State) → now ≡ opened → w ≡ width
      → Does (span now) w (means now) Step before answer after → Does (span operator) (span operator) (means operator) Step before answer after
  does_opened now w before answer after same same_width_lem d =
      subst (λ k. Does (span operator) k (means operator) Step before answer after) (same_width_lem ∙ wide)
      (subst (λ o. Does (span o) w (means o) Step before answer after) (same ∙ is) d)

  -- a step of it that lists a set, and one that is refused
  pub stepped_opened : (now : A) (w : ℕ) (before : State) (set : Set) (serial trials : ℕ) (after : State) → now ≡ opened → w ≡ width
      → Does (span now) w (means now) Step before (Ok (Listed set serial trials)) after → Stepped (span operator) (means operator) before set after
  stepped_opened now w before set serial trials after same same_width d =
      stepped (span operator) (span operator) (means operator) before set serial trials after refl
      (does_opened now w before (Ok (Listed set serial trials)) after same same_width d)

  pub ended_opened : (now : A) (w : ℕ) (before : State) (fault : SetFault) (after : State) → now ≡ opened → w ≡ width
      → Does (span now) w (means now) Step before (Err fault) after → done_to (span operator) before ≡ 2 ^ span operator
  ended_opened now w before fault after same same_width d =
      step_ended (span operator) (span operator) (means operator) before fault after refl (does_opened now w before (Err fault) after same same_width d)

  pub filling_opened : (state : State) (sets : List Set) → Filling width (means opened) state sets → Filling (span operator) (means operator) state sets
  filling_opened state sets f = subst (λ k. Filling k (means operator) state sets) wide (subst (λ o. Filling width (means o) state sets) is f)

  pub filling_back : (state : State) (sets : List Set) → Filling (span operator) (means operator) state sets → Filling width (means opened) state sets
  filling_back state sets f = subst (λ k. Filling k (means opened) state sets) (sym wide) (subst (λ o. Filling (span operator) (means o) state sets) (sym is) f)

-- a tray has no more entries than it has place for
pub entries_few : {T : Type 0} (t : Tray T) → length (entries t) ≤ capacity t
entries_few t = omega (arith, length-take-le t.count t.memory.now t.within, t.within, t.few)

-- a tray that kept its memory has place for as many as before
pub kept_room : {T : Type 0} (before cleared after : Tray T) → cleared.memory.now ≡ before.memory.now → Kept cleared after → capacity after ≡ capacity before
kept_room before cleared after same kept = ap (λ n. min n max_entries) (kept.size ∙ ap length same)

-- what a tray over memory holds, told of the memory
pub filled_memory : (m : ℕ) (c : ℕ → ℕ) (new t : Tray Set) (before after : List Set) → after ≡ t.memory.now → new.memory.now ≡ before → Kept new t
    → words_of (entries t) ≡ take (min (length before) max_entries) (closed_below c (2 ^ m)) → AllByRecursion (λ s. s.width ≡ m) (entries t) → Filled m c before after
filled_memory m c new t before after same lent kept words widths =
    let place : length (entries t) ≡ t.count = length-take-le t.count t.memory.now t.within in
    record {
      kept = entries t;
      front = ap (take (length (entries t))) same ∙ ap (λ n. take n t.memory.now) place;
      rest = ap (drop (length (entries t))) same ∙ kept.past ∙ ap (drop (length (entries t))) lent;
      words = words;
      widths = widths;
    }
