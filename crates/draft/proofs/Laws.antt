-- A draft's rules and mark agree with the sets that its advances took, and the law of a list of calls grows by one call at the end.
use Rattle.std.proofs.Common.{◌≡◌, ℕ, suc, ◌+◌, ◌-◌, ◌^◌, ◌<◌, ◌≤◌, ◌≢◌, List, [], ◌∷◌, ◌++◌, length, take, Some, None, Ok, Err, Option, sym, refl, ap, ◌∙◌, subst, inl, ⊎_elim, arith, length-append, take_all, pow_pos}
use mathlib.Core.List.{map-append}
use Rattle.draft.specs.declared.call.Advance.TheVariants as found
use Rattle.draft.specs.declared.call.DraftGranted.TheVariants.{Advanced, Ready}
use Rattle.draft.specs.declared.call.DraftCall.{DraftCall}
use Rattle.draft.specs.declared.call.DraftCall.TheVariants as call
use Rattle.draft.specs.declared.faults.DraftFault.TheVariants as refusal
use Rattle.draft.specs.Advances.{AtFull, OfWidth, Taken, sought_from}
use Rattle.draft.specs.Calls.{Does, DraftAnswer}
use Rattle.draft.specs.Laws.{ClosedOrPseudo, DraftLaw, FullMarked, Gapless, LeastEither, NoPlace, Passage, RulesBefore, Step, implications}
use Rattle.draft.proofs.Bases.{base_law, heeded_all}
use Rattle.operators.specs.Heeded.{implication, max_rules}
use Rattle.operators.specs.TableClosure.{signals_of}
use Rattle.sets.specs.declared.rule.Rule.{Rule}
use Rattle.sets.specs.declared.set.Set.{Set}
use Rattle.std.specs.List.{AllByRecursion}
use Rattle.std.proofs.lemmas.List.{length-map}
use Rattle.survey.specs.Tracks.{past}
use Rattle.survey.proofs.Tracks.{past_push}
use Rattle.table.specs.declared.place.Place.{Place}
use Rattle.theory.specs.Bases.{BaseUpto, Pseudo, premises, rule_of}
use Rattle.theory.specs.Closures.{Closed, Closure, LeastClosed, Listing}
use Rattle.theory.specs.Rows.{common}
use Rattle.theory.specs.Rules.{Implication, close_s}
use Rattle.theory.specs.Words.{max_signals}
use Rattle.theory.proofs.Closures.{full_closed}
use Rattle.theory.proofs.Ganter.{base_none, ganter_closed, ganter_either, ganter_more, ganter_open, ganter_pseudo, ganter_same, ganter_upto}
use Rattle.theory.proofs.Listing.{listing_none, listing_push, listing_skip}
use Rattle.theory.proofs.Rows.{common_closure}

-- what rules and mark tell of the marked sets
pub record Agrees (m : ℕ) (c : ℕ → ℕ) (room : ℕ) (marked : List ℕ) (rules : List Rule) (mark : Option Set) : Type 0 where
  pub gapless : Gapless m c marked
  pub of_width : OfWidth m mark
  pub last : sought_from mark ≡ past 0 marked
  pub before : RulesBefore m c (sought_from mark) rules
  pub few : length rules ≤ room

-- the answer is right, and rules and mark after it agree with the marked sets at that time
pub record Moves (m : ℕ) (c : ℕ → ℕ) (room : ℕ) (marked : List ℕ) (asked : DraftCall) (answer : DraftAnswer) (rules : List Rule) (mark : Option Set) : Type 0 where
  pub later : List ℕ
  pub step : Step m c room marked asked answer later
  pub agrees : Agrees m c room later rules mark

every_push : {X : Type 0} (P : X → Type 0) (xs : List X) (x : X) → AllByRecursion P xs → P x → AllByRecursion P (xs ++ x ∷ [])
every_push P [] x all p = (p, tt)
every_push P (y ∷ ys) x all p = (all.0, every_push P ys x all.1 p)

module _ (m : ℕ) (c : ℕ → ℕ) (op : Closure m c) (room : ℕ) (small : room ≤ max_rules) where
  -- ---- the full set

  marked_full : (marked : List ℕ) (rules : List Rule) (mark : Option Set) → Agrees m c room marked rules mark → AtFull m mark → FullMarked m marked
  marked_full marked rules None a f = absurd f
  marked_full marked rules (Some s) a f =
      a.gapless.all (2 ^ m - 1) (omega arith) (omega (arith, a.last, f.1, pow_pos m)) (inl (full_closed m c op))

  full_marked : (marked : List ℕ) (rules : List Rule) (mark : Option Set) → Agrees m c room marked rules mark → FullMarked m marked → AtFull m mark
  full_marked marked rules None a p = absurd (omega (arith, a.gapless.below (2 ^ m - 1) p, a.last))
  full_marked marked rules (Some s) a p =
      let low : s.word < 2 ^ m = subst (λ n. s.word < 2 ^ n) a.of_width s.below in
      (a.of_width, omega (arith, a.gapless.below (2 ^ m - 1) p, a.last))

  -- ---- the set that an advance takes

  module _ (marked : List ℕ) (rules : List Rule) (mark : Option Set) (set : Set) (a : Agrees m c room marked rules mark) (taken : Taken m rules mark set) where
    pub next : LeastClosed m (close_s m (implications rules)) (sought_from mark) set.word
    next =
        subst (λ (rs : List Implication). LeastClosed m (close_s m rs) (sought_from mark) set.word)
        (heeded_all m rules (omega (arith, a.few)) a.before.widths) taken.least

    least : LeastEither m c (past 0 marked) set.word
    least =
        subst (λ n. LeastEither m c n set.word) a.last record {
          below = next.below;
          above = next.above;
          either = ganter_either m c op a.before.base next;
          least = λ y h l e. ⊎_elim (λ (k : Closed c y). ganter_closed m c op a.before.base next y h l k) (λ (k : Pseudo m c y). ganter_pseudo m c op a.before.base next y l k) e;
        }

    more : Gapless m c (marked ++ set.word ∷ [])
    more =
        subst (λ n. Listing (ClosedOrPseudo m c) 0 n (marked ++ set.word ∷ [])) (sym (past_push 0 marked set.word))
        (listing_push (ClosedOrPseudo m c) 0 (omega arith)
        (listing_skip (ClosedOrPseudo m c) 0 set.word a.gapless least.above
        (λ y l h e. omega (arith, least.least y (omega (arith, least.below)) l e)))
        least.either)

    agrees_more : (after : List Rule) (later : Option Set) → later ≡ Some set → RulesBefore m c (suc set.word) after → length after ≤ room → Agrees m c room (marked ++ set.word ∷ []) after later
    agrees_more after later moved before few =
        subst (Agrees m c room (marked ++ set.word ∷ []) after) (sym moved) record {
          gapless = more;
          of_width = taken.width;
          last = sym (past_push 0 marked set.word);
          before = before;
          few = few;
        }

    closed_moves :
        (after : List Rule) (later : Option Set) → Closed c set.word → after ≡ rules → later ≡ Some set
        → Moves m c room marked call.Advance (Ok (Advanced found.Closed)) after later
    closed_moves after later closed same moved =
        record {
          later = marked ++ set.word ∷ [];
          step = (set.word, least, closed, refl);
          agrees = subst (λ rs. Agrees m c room (marked ++ set.word ∷ []) rs later) (sym same)
              (agrees_more rules later moved record { widths = a.before.widths; base = ganter_same m c op a.before.base next closed } a.few);
        }

    rule_moves :
        (after : List Rule) (later : Option Set) (rule : Rule) → c set.word ≢ set.word → length rules < room → rule.premise ≡ set
        → rule.conclusion.word ≡ c set.word → after ≡ rules ++ rule ∷ [] → later ≡ Some set
        → Moves m c room marked call.Advance (Ok (Advanced found.Rule)) after later
    rule_moves after later rule unclosed place premise conclusion put moved =
        record {
          later = marked ++ set.word ∷ [];
          step = (set.word, least, ganter_open m c op a.before.base next unclosed, refl);
          agrees = subst (λ rs. Agrees m c room (marked ++ set.word ∷ []) rs later) (sym put)
              (agrees_more (rules ++ rule ∷ []) later moved before (omega (arith, length-append rules (rule ∷ []))));
        }
      where
        is : implication rule ≡ rule_of c set.word
        is =
            ap (λ (p : ℕ). record { premise = p; conclusion = rule.conclusion.word }) (ap (λ (s : Set). s.word) premise)
            ∙ ap (λ (q : ℕ). record { premise = set.word; conclusion = q }) conclusion

        before : RulesBefore m c (suc set.word) (rules ++ rule ∷ [])
        before =
            record {
              widths = every_push (λ (r : Rule). r.premise.width ≡ m) rules rule a.before.widths (ap (λ (s : Set). s.width) premise ∙ taken.width);
              base = subst (BaseUpto m c (suc set.word))
                  (sym (map-append implication rules (rule ∷ []) ∙ ap (λ (r : Implication). implications rules ++ r ∷ []) is))
                  (ganter_more m c op a.before.base next unclosed);
            }

    no_place : c set.word ≢ set.word → length rules ≡ room → NoPlace m c room marked
    no_place unclosed full =
        record {
          next = set.word;
          least = least;
          pseudo = ganter_open m c op a.before.base next unclosed;
          before = premises (implications rules);
          all = (ganter_upto m c op a.before.base next).listed;
          count = length-map (implications rules) (λ (r : Implication). r.premise) ∙ length-map rules implication ∙ full;
        }

  -- ---- one call

  stays :
      (marked : List ℕ) (asked : DraftCall) (answer : DraftAnswer) (rules after : List Rule) (mark later : Option Set) → Step m c room marked asked answer marked
      → Agrees m c room marked rules mark → after ≡ rules → later ≡ mark → Moves m c room marked asked answer after later
  stays marked asked answer rules after mark later step a same kept =
      record {
        later = marked;
        step = step;
        agrees = subst (λ rs. Agrees m c room marked rs later) (sym same) (subst (Agrees m c room marked rules) (sym kept) a);
      }

  pub moves :
      (marked : List ℕ) (asked : DraftCall) (rules : List Rule) (mark : Option Set) (answer : DraftAnswer) (after : List Rule) (later : Option Set)
      → Does m c room asked rules mark answer after later → Agrees m c room marked rules mark → Moves m c room marked asked answer after later
  moves marked call.Advance rules mark (Ok (Advanced found.Closed)) after later d a =
      closed_moves marked rules mark d.set a d.taken after later d.closed d.rules d.moved
  moves marked call.Advance rules mark (Ok (Advanced found.Rule)) after later d a =
      rule_moves marked rules mark d.set a d.taken after later d.rule d.not_closed d.place d.premise d.conclusion d.rules d.moved
  moves marked call.Advance rules mark (Ok Ready) after later d a = absurd d
  moves marked call.Advance rules mark (Err (refusal.Set inner)) after later d a = absurd (d.0.1 a.of_width)
  moves marked call.Advance rules mark (Err (refusal.Tray inner)) after later d a =
      let full = d.0.1 in
      stays marked call.Advance (Err (refusal.Tray inner)) rules after mark later
      ((d.0.0, no_place marked rules mark full.set a full.taken full.not_closed full.full), refl) a d.1 d.2
  moves marked call.Advance rules mark (Err refusal.AtEnd) after later d a =
      stays marked call.Advance (Err refusal.AtEnd) rules after mark later (marked_full marked rules mark a d.0, refl) a d.1 d.2
  moves marked call.Advance rules mark (Err refusal.NotAtEnd) after later d a = absurd d.0
  moves marked call.TryClose rules mark (Ok (Advanced found)) after later d a = absurd d
  moves marked call.TryClose rules mark (Ok Ready) after later d a =
      stays marked call.TryClose (Ok Ready) rules after mark later (marked_full marked rules mark a d.0, refl) a d.1 d.2
  moves marked call.TryClose rules mark (Err fault) after later d a =
      stays marked call.TryClose (Err fault) rules after mark later (λ p. d.0 (full_marked marked rules mark a p), d.1, refl) a d.2 d.3

  -- ---- lists of calls

  passage_push :
      (from : List ℕ) (calls : List DraftCall) (answers : List DraftAnswer) (to later : List ℕ) (asked : DraftCall) (answer : DraftAnswer)
      → Passage m c room from calls answers to → Gapless m c to → Step m c room to asked answer later → Gapless m c later
      → Passage m c room from (calls ++ asked ∷ []) (answers ++ answer ∷ []) later
  passage_push from [] [] to later asked answer p whole step complete =
      (p.0, (later, subst (λ t. Step m c room t asked answer later) p.1 step, (complete, refl)))
  passage_push from [] (a ∷ answers) to later asked answer p whole step complete = absurd p
  passage_push from (b ∷ calls) [] to later asked answer p whole step complete = absurd p
  passage_push from (b ∷ calls) (a ∷ answers) to later asked answer p whole step complete =
      (p.0, (p.1.0, p.1.1, passage_push p.1.0 calls answers to later asked answer p.1.2 whole step complete))

-- the calls so far obey the law, and rules and mark agree with the sets that they marked
pub record Ran (m : ℕ) (c : ℕ → ℕ) (room : ℕ) (calls : List DraftCall) (answers : List DraftAnswer) (rules : List Rule) (mark : Option Set) : Type 0 where
  pub marked : List ℕ
  pub passage : Passage m c room [] calls answers marked
  pub agrees : Agrees m c room marked rules mark

module _ (m : ℕ) (c : ℕ → ℕ) (op : Closure m c) (room : ℕ) (small : room ≤ max_rules) where
  pub ran_none : (rules : List Rule) (mark : Option Set) → rules ≡ [] → mark ≡ None → Ran m c room [] [] rules mark
  ran_none rules mark none unmarked =
      subst (λ rs. Ran m c room [] [] rs mark) (sym none) (subst (Ran m c room [] [] []) (sym unmarked) record {
        marked = [];
        passage = (listing_none (ClosedOrPseudo m c) 0, refl);
        agrees = record {
          gapless = listing_none (ClosedOrPseudo m c) 0;
          of_width = tt;
          last = refl;
          before = record { widths = tt; base = base_none m c };
          few = omega arith;
        };
      })

  pub ran_more :
      (calls : List DraftCall) (answers : List DraftAnswer) (rules : List Rule) (mark : Option Set) (asked : DraftCall) (answer : DraftAnswer) (after : List Rule) (later : Option Set)
      → Ran m c room calls answers rules mark → Does m c room asked rules mark answer after later
      → Ran m c room (calls ++ asked ∷ []) (answers ++ answer ∷ []) after later
  ran_more calls answers rules mark asked answer after later old d =
      let step = moves m c op room small old.marked asked rules mark answer after later d old.agrees in
      record {
        marked = step.later;
        passage = passage_push m c op room small [] calls answers old.marked step.later asked answer old.passage old.agrees.gapless step.step step.agrees.gapless;
        agrees = step.agrees;
      }

-- ---- one turn of the loop over the calls, with the table that the draft holds

-- a call of a draft over a table
abbrev pub DoesOver : (words : List ℕ) (places : List Place) (room : ℕ) → DraftCall → (before : List Rule) (mark : Option Set) → DraftAnswer → (after : List Rule) (later : Option Set) → Type 0
DoesOver words places room = Does (signals_of words places) (common (signals_of words places) words) room

-- the calls so far over a table
abbrev pub RanOver : (words : List ℕ) (places : List Place) (room : ℕ) → List DraftCall → List DraftAnswer → List Rule → Option Set → Type 0
RanOver words places room = Ran (signals_of words places) (common (signals_of words places) words) room

module _ (words : List ℕ) (places : List Place) (narrow : signals_of words places ≤ max_signals) (room : ℕ) (small : room ≤ max_rules) (calls : List DraftCall) where
  pub ran_next :
      (i : ℕ) (answers more : List DraftAnswer) (rules : List Rule) (mark : Option Set) (asked : DraftCall) (answer : DraftAnswer) (after : List Rule) (later : Option Set)
      → take (i + 1) calls ≡ take i calls ++ asked ∷ [] → more ≡ answers ++ answer ∷ [] → DoesOver words places room asked rules mark answer after later
      → RanOver words places room (take i calls) answers rules mark → RanOver words places room (take (i + 1) calls) more after later
  ran_next i answers more rules mark asked answer after later one push d old =
      subst (λ xs. RanOver words places room (take (i + 1) calls) xs after later) (sym push)
      (subst (λ xs. RanOver words places room xs (answers ++ answer ∷ []) after later) (sym one)
      (ran_more (signals_of words places) (common (signals_of words places) words) (common_closure (signals_of words places) words narrow) room small
      (take i calls) answers rules mark asked answer after later old d))

  pub ran_all :
      (i : ℕ) (answers : List DraftAnswer) (rules : List Rule) (mark : Option Set) → length calls ≤ i
      → RanOver words places room (take i calls) answers rules mark → DraftLaw words places room calls answers rules mark
  ran_all i answers rules mark h r =
      record {
        marked = r.marked;
        passage = subst (λ xs. Passage (signals_of words places) (common (signals_of words places) words) room [] xs answers r.marked) (take_all i calls h) r.passage;
        of_width = r.agrees.of_width;
        last = r.agrees.last;
        law = base_law words places narrow rules (omega (arith, r.agrees.few)) mark r.agrees.before;
      }
