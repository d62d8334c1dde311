-- The listing law: what the answers of a survey tell, call by call.
--
--   m, c     the width and the closure of the operator
--   track    the latest start, and the sets listed since, as words and in the order of the answers
--   law      each answer is right, and at each place of the list of calls the track is complete
use Rattle.std.specs.Prelude.{Ok, Err, ◌≡◌, ℕ, suc, ◌+◌, ◌-◌, ◌^◌, ◌≤◌, List, [], ◌∷◌, ◌++◌, length}
use mathlib.Core.List.{Memᴰ}
use Rattle.fault.specs.Layers.{in_sets}
use Rattle.sets.specs.declared.set.Set.{Set}
use Rattle.sets.specs.Fault.{fault_of}
use Rattle.survey.specs.States.{Answer}
use Rattle.survey.specs.declared.call.Granted.TheVariants.{Listed, Moved}
use Rattle.survey.specs.declared.call.Call.{Call}
use Rattle.survey.specs.declared.call.Call.TheVariants.{Step, Seek, Rewind}
use Rattle.theory.specs.Closures.{Closed, LeastClosed, Listing}

-- the latest start, and the words listed since
pub record Track : Type 0 where
  pub start : ℕ
  pub listed : List ℕ

-- nothing is listed since the start
abbrev pub fresh : ℕ → Track
fresh start = record { start = start; listed = [] }

-- the word after the last one of a list, and `from` where the list is empty
abbrev pub past : (from : ℕ) → List ℕ → ℕ
past from [] = from
past from (x ∷ xs) = past (suc x) xs

-- the word before which all closed sets from the start on are listed: the one after the last listed, or the start
abbrev pub mark_of : Track → ℕ
mark_of t = past t.start t.listed

-- where a call begins anew: at the set of a seek, at the empty set otherwise
abbrev pub start_of : Call → ℕ
start_of Step = 0
start_of (Seek set) = set.word
start_of Rewind = 0

-- a set that is answered is listed, a call that is granted without one begins anew, and a refused one changes nothing
abbrev pub moved : Track → Call → Answer → Track
moved t call (Ok (Listed set serial trials)) = record { start = t.start; listed = t.listed ++ set.word ∷ [] }
moved t call (Ok Moved) = fresh (start_of call)
moved t call (Err fault) = t

-- the full set is among the listed
abbrev pub Full : (m : ℕ) → Track → Type 0
Full m t = Memᴰ (2 ^ m - 1) t.listed

-- a step answers the next closed set and its number
pub record Next (m : ℕ) (c : ℕ → ℕ) (t : Track) (set : Set) (serial trials : ℕ) : Type 0 where
  pub goes_further : Full m t → ⊥
  pub width : set.width ≡ m
  pub least : LeastClosed m c (mark_of t) set.word
  pub number : serial ≡ length t.listed + 1
  pub tried : trials ≤ m

-- the answer to a call is right
abbrev pub Right : (m : ℕ) (c : ℕ → ℕ) → Track → Call → Answer → Type 0
Right m c t Step (Ok (Listed set serial trials)) = Next m c t set serial trials
Right m c t Step (Ok Moved) = ⊥
Right m c t Step (Err fault) = Full m t × (fault_of fault ≡ in_sets 14)
Right m c t (Seek set) (Ok (Listed _ serial trials)) = ⊥
Right m c t (Seek set) (Ok Moved) = set.width ≡ m
Right m c t (Seek set) (Err fault) = (set.width ≡ m → ⊥) × (fault_of fault ≡ in_sets 13)
Right m c t Rewind (Ok (Listed set serial trials)) = ⊥
Right m c t Rewind (Ok Moved) = Unit {0}
Right m c t Rewind (Err fault) = ⊥

-- the listed sets are all closed sets from the start to the last one listed, each once, in the lectic order
abbrev pub Complete : (c : ℕ → ℕ) → Track → Type 0
Complete c t = Listing (Closed c) t.start (mark_of t) t.listed

-- each call has one answer, which is right, and the track is complete before the first call and after each
abbrev pub Law : (m : ℕ) (c : ℕ → ℕ) → Track → List Call → List Answer → Type 0
Law m c t [] [] = Complete c t
Law m c t [] (answer ∷ answers) = ⊥
Law m c t (call ∷ calls) [] = ⊥
Law m c t (call ∷ calls) (answer ∷ answers) =
    Complete c t × Right m c t call answer × Law m c (moved t call answer) calls answers
