-- The survey's state agrees with its track, and the law of a list of calls grows by one call at the end.
use Rattle.std.proofs.Common.{Ok, Err, ◌≡◌, ℕ, suc, ◌+◌, ◌-◌, ◌^◌, ◌<◌, ◌≤◌, Bool, true, false, cond, eqb, List, [], ◌∷◌, ◌++◌, length, get_or, take, sym, refl, ap, ◌∙◌, subst, arith, length-append, take_all}
use mathlib.Core.List.Memᴰ
use mathlib.Core.List.{Memᴰ}
use native.Mathlib.Decide.{ℕ_discrete}
use Rattle.sets.specs.declared.faults.SetFault.{SetFault}
use Rattle.sets.specs.declared.set.Set.{Set}
use Rattle.std.proofs.lemmas.List.{take_more}
use Rattle.std.proofs.lemmas.Bool.{eqb-true, eqb-false}
use Rattle.survey.specs.States.{Answer, FreshAt}
use Rattle.survey.specs.declared.call.Granted.TheVariants.{Listed, Moved}
use Rattle.survey.specs.declared.call.Call.{Call}
use Rattle.survey.specs.declared.call.Call.TheVariants.{Step, Seek, Rewind}
use Rattle.survey.specs.declared.state.State.{State}
use Rattle.survey.specs.declared.state.State.TheVariants.{Fresh, Running, Ended}
use Rattle.survey.specs.Calls.{Lists, Refuses, Begins, Does}
use Rattle.survey.specs.Tracks.{Track, fresh, past, mark_of, moved, Full, Right, Complete, Law}
use Rattle.theory.specs.Closures.{Closed, Rising, Listing}
use Rattle.theory.proofs.Listing.{listing_none, closed_push}
use Rattle.theory.proofs.Members.{pushed}

-- ---- the mark

pub past_push : (from : ℕ) (xs : List ℕ) (x : ℕ) → past from (xs ++ x ∷ []) ≡ suc x
past_push from [] x = refl
past_push from (y ∷ ys) x = past_push (suc y) ys x

pub past_above : (from : ℕ) (xs : List ℕ) → Rising xs → ((x : ℕ) → Memᴰ x xs → from ≤ x) → from ≤ past from xs
past_above from [] r low = omega arith
past_above from (x ∷ xs) r low =
    let h = low x (Memᴰ.head refl) in
    omega (arith, past_above (suc x) xs r.1 r.0)

-- ---- states and tracks

-- what a state tells of the track
abbrev pub Agrees : (m : ℕ) → State → Track → Type 0
Agrees m (Fresh start) t = t ≡ fresh start.word
Agrees m (Running last serial) t = (mark_of t ≡ suc last.word) × (length t.listed ≡ serial) × (suc last.word < 2 ^ m)
Agrees m Ended t = Full m t

-- the answer is right, and the track after it complete and told by the state left
pub record Moves (m : ℕ) (c : ℕ → ℕ) (t : Track) (call : Call) (answer : Answer) (after : State) : Type 0 where
  pub right : Right m c t call answer
  pub complete : Complete c (moved t call answer)
  pub agrees : Agrees m after (moved t call answer)

-- the track after a list of calls
abbrev pub reached : Track → List Call → List Answer → Track
reached t [] answers = t
reached t (call ∷ calls) [] = t
reached t (call ∷ calls) (answer ∷ answers) = reached (moved t call answer) calls answers

module _ (m : ℕ) (c : ℕ → ℕ) where
  agrees_after :
      (t : Track) (set : Set) (serial : ℕ) (b : Bool) → eqb set.word (2 ^ m - 1) ≡ b → set.word < 2 ^ m → mark_of t ≡ suc set.word → length t.listed ≡ serial
      → Memᴰ set.word t.listed → Agrees m (cond b Ended (Running set serial)) t
  agrees_after t set serial true e h k l p = subst (λ x. Memᴰ x t.listed) (eqb-true set.word (2 ^ m - 1) e) p
  agrees_after t set serial false e h k l p = (k, l, let n = eqb-false set.word (2 ^ m - 1) e in omega arith)

  -- a set is listed
  lists_moves :
      (t : Track) (set : Set) (serial trials : ℕ) (after : State) → Complete c t → (Full m t → ⊥)
      → Lists m c (mark_of t) (length t.listed) set serial trials after → Moves m c t Step (Ok (Listed set serial trials)) after
  lists_moves t set serial trials after old goes f =
      let w = set.word in
      let more = moved t Step (Ok (Listed set serial trials)) in
      let count : length more.listed ≡ serial = length-append t.listed (w ∷ []) ∙ sym f.next in
      record {
        right = record { goes_further = goes; width = f.width; least = f.least; number = f.next; tried = f.tried };
        complete = subst (λ x. Listing (Closed c) t.start x more.listed) (sym (past_push t.start t.listed w))
            (closed_push m c (past_above t.start t.listed old.rising old.above) old f.least);
        agrees = subst (λ x. Agrees m x more) (sym f.left)
            (agrees_after more set serial (eqb w (2 ^ m - 1)) refl f.least.below (past_push t.start t.listed w) count (pushed t.listed w));
      }

  -- the survey begins anew
  begins_moves :
      (t : Track) (call : Call) (start : ℕ) (answer : Answer) (after : State) → Right m c t call (Ok Moved)
      → moved t call (Ok Moved) ≡ fresh start → answer ≡ Ok Moved → FreshAt start after → Moves m c t call answer after
  begins_moves t call start answer (Running last serial) right anew a s = absurd s
  begins_moves t call start answer Ended right anew a s = absurd s
  begins_moves t call start answer (Fresh set) right anew a s =
      subst (λ x. Moves m c t call x (Fresh set)) (sym a)
      record {
        right = right;
        complete = subst (λ x. Complete c x) (sym anew) (listing_none (Closed c) start);
        agrees = anew ∙ ap fresh (sym s);
      }

  -- a call is refused
  refuses_moves :
      (t : Track) (call : Call) (fault : SetFault) (before after : State) → Right m c t call (Err fault) → Complete c t → Agrees m before t
      → after ≡ before → Moves m c t call (Err fault) after
  refuses_moves t call fault before after right old agrees s =
      record { right = right; complete = old; agrees = subst (λ x. Agrees m x t) (sym s) agrees }

  pub moves :
      (t : Track) (call : Call) (before : State) (answer : Answer) (after : State) → Does m m c call before answer after
      → Complete c t → Agrees m before t → Moves m c t call answer after
  moves t Step (Fresh start) (Ok (Listed set serial trials)) after d old e =
      subst (λ x. Moves m c x Step (Ok (Listed set serial trials)) after) (sym e)
      (lists_moves (fresh start.word) set serial trials after (listing_none (Closed c) start.word) Memᴰ.not-nil (d refl))
  moves t Step (Fresh start) (Ok Moved) after d old e = absurd (d refl)
  moves t Step (Fresh start) (Err fault) after d old e = absurd (d refl)
  moves t Step (Running last count) (Ok (Listed set serial trials)) after d old a =
      lists_moves t set serial trials after old (λ p. omega (arith, old.below (2 ^ m - 1) p, a.0, a.2))
      (subst (λ x. Lists m c x (length t.listed) set serial trials after) (sym a.0)
      (subst (λ x. Lists m c (suc last.word) x set serial trials after) (sym a.1) (d refl)))
  moves t Step (Running last count) (Ok Moved) after d old a = absurd (d refl)
  moves t Step (Running last count) (Err fault) after d old a = absurd (d refl)
  moves t Step Ended (Ok granted) after d old a = absurd d
  moves t Step Ended (Err fault) after d old a = refuses_moves t Step fault Ended after (a, d.0) old a d.1
  moves t (Seek set) before answer after d old a = at (ℕ_discrete set.width m) answer d.0 d.1
    where
      at :
          Dec (set.width ≡ m) → (answer : Answer) → (set.width ≡ m → Begins set.word answer after)
          → ((set.width ≡ m → ⊥) → Refuses 13 before answer after) → Moves m c t (Seek set) answer after
      at (yes e) answer granted refused =
          begins_moves t (Seek set) set.word answer after e refl (granted e).0 (granted e).1
      at (no n) (Ok _) granted refused = absurd (refused n)
      at (no n) (Err fault) granted refused =
          refuses_moves t (Seek set) fault before after (n, (refused n).0) old a (refused n).1
  moves t Rewind before answer after d old a = begins_moves t Rewind 0 answer after tt refl d.0 d.1

  -- ---- lists of calls

  law_complete : (t : Track) (calls : List Call) (answers : List Answer) → Law m c t calls answers → Complete c (reached t calls answers)
  law_complete t [] [] l = l
  law_complete t [] (answer ∷ answers) l = absurd l
  law_complete t (call ∷ calls) [] l = absurd l
  law_complete t (call ∷ calls) (answer ∷ answers) l = law_complete (moved t call answer) calls answers l.2

  law_push :
      (t : Track) (calls : List Call) (answers : List Answer) (call : Call) (answer : Answer) → Law m c t calls answers
      → Right m c (reached t calls answers) call answer → Complete c (moved (reached t calls answers) call answer)
      → Law m c t (calls ++ call ∷ []) (answers ++ answer ∷ [])
  law_push t [] [] call answer l right complete = (l, right, complete)
  law_push t [] (a ∷ answers) call answer l right complete = absurd l
  law_push t (b ∷ calls) [] call answer l right complete = absurd l
  law_push t (b ∷ calls) (a ∷ answers) call answer l right complete =
      (l.0, l.1, law_push (moved t b a) calls answers call answer l.2 right complete)

  reached_push :
      (t : Track) (calls : List Call) (answers : List Answer) (call : Call) (answer : Answer) → Law m c t calls answers
      → reached t (calls ++ call ∷ []) (answers ++ answer ∷ []) ≡ moved (reached t calls answers) call answer
  reached_push t [] [] call answer l = refl
  reached_push t [] (a ∷ answers) call answer l = absurd l
  reached_push t (b ∷ calls) [] call answer l = absurd l
  reached_push t (b ∷ calls) (a ∷ answers) call answer l = reached_push (moved t b a) calls answers call answer l.2

-- the calls so far obey the law, and the state tells of the track that they reach
pub record Ran (m : ℕ) (c : ℕ → ℕ) (calls : List Call) (answers : List Answer) (state : State) : Type 0 where
  pub law : Law m c (fresh 0) calls answers
  pub agrees : Agrees m state (reached (fresh 0) calls answers)

module _ (m : ℕ) (c : ℕ → ℕ) where
  pub ran_none : (state : State) → FreshAt 0 state → Ran m c [] [] state
  ran_none (Fresh start) at = record { law = listing_none (Closed c) 0; agrees = ap fresh (sym at) }
  ran_none (Running last serial) at = absurd at
  ran_none Ended at = absurd at

  pub ran_more :
      (calls : List Call) (answers : List Answer) (call : Call) (answer : Answer) (before after : State) → Ran m c calls answers before
      → Does m m c call before answer after → Ran m c (calls ++ call ∷ []) (answers ++ answer ∷ []) after
  ran_more calls answers call answer before after old d =
      let t = reached (fresh 0) calls answers in
      let step = moves m c t call before answer after d (law_complete m c (fresh 0) calls answers old.law) old.agrees in
      record {
        law = law_push m c (fresh 0) calls answers call answer old.law step.right step.complete;
        agrees = subst (λ x. Agrees m after x) (sym (reached_push m c (fresh 0) calls answers call answer old.law)) step.agrees;
      }

-- one turn of the loop over the calls, with the operator that the survey holds
module _ {O : Type 0} (span : O → ℕ) (means : O → ℕ → ℕ) (calls : List Call) where
  pub ran_next :
      (operator held : O) (m i : ℕ) (answers more : List Answer) (call : Call) (answer : Answer) (before after : State)
      → held ≡ operator → m ≡ span operator → i < length calls → call ≡ get_or calls i call → more ≡ answers ++ answer ∷ []
      → Does (span held) m (means held) call before answer after
      → Ran (span operator) (means operator) (take i calls) answers before
      → Ran (span operator) (means operator) (take (i + 1) calls) more after
  ran_next operator held m i answers more call answer before after same wide h read push d old =
      let n = span operator in
      let kept : Does n m (means operator) call before answer after =
      subst (λ o. Does (span o) m (means o) call before answer after) same d in
      let one : take i calls ++ call ∷ [] ≡ take (i + 1) calls =
      ap (λ x. take i calls ++ x ∷ []) read ∙ sym (take_more calls i call h) in
      subst (λ x. Ran n (means operator) (take (i + 1) calls) x after) (sym push)
      (subst (λ x. Ran n (means operator) x (answers ++ answer ∷ []) after) one
      (ran_more n (means operator) (take i calls) answers call answer before after old
      (subst (λ x. Does n x (means operator) call before answer after) wide kept)))

  pub ran_all :
      (operator held : O) (i : ℕ) (answers : List Answer) (state : State) → held ≡ operator → length calls ≤ i
      → Ran (span held) (means held) (take i calls) answers state → Law (span operator) (means operator) (fresh 0) calls answers
  ran_all operator held i answers state same h r =
      subst (λ o. Law (span o) (means o) (fresh 0) calls answers) same
      (subst (λ x. Law (span held) (means held) (fresh 0) x answers) (take_all i calls h) r.law)
