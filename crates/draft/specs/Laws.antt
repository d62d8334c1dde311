-- The law of drafts: what the answers of a draft tell, call by call, what its rules are, and what the base that it closes to entails.
--
--   m, c      the width and the closure of the operator
--   room      the number of rules that the tray has place for
--   marked    the words of the sets that the granted advances took, in the order of the answers
--   up to the mark   the mark and all sets before it, or none without a mark
use Rattle.std.specs.Prelude.{◌≡◌, ℕ, ◌-◌, ◌^◌, ◌<◌, ◌≤◌, cond, ◌⊎◌, ◌↔◌, List, [], ◌∷◌, ◌++◌, map, length, Ok, Err, Option}
use mathlib.Core.List.{Memᴰ}
use Rattle.draft.specs.declared.call.Advance.{Advance}
use Rattle.draft.specs.declared.call.Advance.TheVariants as found
use Rattle.draft.specs.declared.call.DraftGranted.TheVariants.{Advanced, Ready}
use Rattle.draft.specs.declared.call.DraftCall.{DraftCall}
use Rattle.draft.specs.declared.call.DraftCall.TheVariants as call
use Rattle.draft.specs.declared.faults.DraftFault.{DraftFault}
use Rattle.draft.specs.declared.faults.DraftFault.TheVariants as refusal
use Rattle.draft.specs.Calls.{DraftAnswer}
use Rattle.draft.specs.Advances.{OfWidth, at_full, sought_from}
use Rattle.draft.specs.Faults.{fault_of}
use Rattle.fault.specs.Layers.{in_drafts, in_trays}
use Rattle.operators.specs.Entailment.{EntailedBy, HoldsIn}
use Rattle.operators.specs.Heeded.{implication}
use Rattle.operators.specs.TableClosure.{signals_of}
use Rattle.sets.specs.declared.rule.Rule.{Rule}
use Rattle.sets.specs.declared.set.Set.{Set}
use Rattle.std.specs.List.{AllByRecursion}
use Rattle.survey.specs.Tracks.{past}
use Rattle.table.specs.declared.place.Place.{Place}
use Rattle.theory.specs.Bases.{BaseUpto, Pseudo, Textbook}
use Rattle.theory.specs.Closures.{Closed, Listing}
use Rattle.theory.specs.Rows.{common}
use Rattle.theory.specs.Rules.{Implication}

-- ---- the sets that the advances take

-- x is closed or pseudo-closed
abbrev pub ClosedOrPseudo : (m : ℕ) (c : ℕ → ℕ) (x : ℕ) → Type 0
ClosedOrPseudo m c x = Closed c x ⊎ Pseudo m c x

-- the marked sets are all closed and pseudo-closed sets up to the last one, each once, in the lectic order
abbrev pub Gapless : (m : ℕ) (c : ℕ → ℕ) (marked : List ℕ) → Type 0
Gapless m c marked = Listing (ClosedOrPseudo m c) 0 (past 0 marked) marked

-- x is the least closed or pseudo-closed set not before `from`
pub record LeastEither (m : ℕ) (c : ℕ → ℕ) (from x : ℕ) : Type 0 where
  pub below : x < 2 ^ m
  pub above : from ≤ x
  pub either : ClosedOrPseudo m c x
  pub least : (y : ℕ) → y < 2 ^ m → from ≤ y → ClosedOrPseudo m c y → x ≤ y

-- what an advance says of the set that it took
abbrev pub Says : (m : ℕ) (c : ℕ → ℕ) → Advance → (x : ℕ) → Type 0
Says m c found.Closed x = Closed c x
Says m c found.Rule x = Pseudo m c x

-- the full set is among the marked
abbrev pub FullMarked : (m : ℕ) (marked : List ℕ) → Type 0
FullMarked m marked = Memᴰ (2 ^ m - 1) marked

-- the next set is pseudo-closed, and there are as many pseudo-closed sets before it as the tray has places
pub record NoPlace (m : ℕ) (c : ℕ → ℕ) (room : ℕ) (marked : List ℕ) : Type 0 where
  pub next : ℕ
  pub least : LeastEither m c (past 0 marked) next
  pub pseudo : Pseudo m c next
  pub before : List ℕ
  pub all : Listing (Pseudo m c) 0 next before
  pub count : length before ≡ room

-- why an advance is refused
abbrev pub NoAdvance : (m : ℕ) (c : ℕ → ℕ) (room : ℕ) (marked : List ℕ) → DraftFault → Type 0
NoAdvance m c room marked (refusal.Set inner) = ⊥
NoAdvance m c room marked (refusal.Tray inner) = (fault_of (refusal.Tray inner) ≡ in_trays 21) × NoPlace m c room marked
NoAdvance m c room marked refusal.AtEnd = FullMarked m marked
NoAdvance m c room marked refusal.NotAtEnd = ⊥

-- the answer to a call is right, and the marked sets after it are these
abbrev pub Step : (m : ℕ) (c : ℕ → ℕ) (room : ℕ) (marked : List ℕ) → DraftCall → DraftAnswer → (later : List ℕ) → Type 0
Step m c room marked call.Advance (Ok (Advanced found)) later =
    (x : ℕ) × LeastEither m c (past 0 marked) x × Says m c found x × (later ≡ marked ++ x ∷ [])
Step m c room marked call.Advance (Ok Ready) later = ⊥
Step m c room marked call.Advance (Err fault) later = NoAdvance m c room marked fault × (later ≡ marked)
Step m c room marked call.TryClose (Ok (Advanced found)) later = ⊥
Step m c room marked call.TryClose (Ok Ready) later = FullMarked m marked × (later ≡ marked)
Step m c room marked call.TryClose (Err fault) later =
    (FullMarked m marked → ⊥) × (fault_of fault ≡ in_drafts 23) × (later ≡ marked)

-- each call has one answer, which is right, and the marked sets are gapless before the first call and after each; at the end they are `later`
abbrev pub Passage : (m : ℕ) (c : ℕ → ℕ) (room : ℕ) (marked : List ℕ) → List DraftCall → List DraftAnswer → (later : List ℕ) → Type 0
Passage m c room marked [] [] later = Gapless m c marked × (later ≡ marked)
Passage m c room marked [] (answer ∷ answers) later = ⊥
Passage m c room marked (asked ∷ calls) [] later = ⊥
Passage m c room marked (asked ∷ calls) (answer ∷ answers) later =
    Gapless m c marked × ((next : List ℕ) × Step m c room marked asked answer next × Passage m c room next calls answers later)

-- ---- the rules

-- rules as implications between words
abbrev pub implications : List Rule → List Implication
implications rules = map implication rules

-- the rules are those of all pseudo-closed sets of m signals before `upto`, each from the set to its closure, in the lectic order
pub record RulesBefore (m : ℕ) (c : ℕ → ℕ) (upto : ℕ) (rules : List Rule) : Type 0 where
  pub widths : AllByRecursion (λ r. r.premise.width ≡ m) rules
  pub base : BaseUpto m c upto (implications rules)

-- ---- the base

-- what a draft over m signals closes to: the whole where its mark is the full set, nothing otherwise
abbrev pub closed_to : {X : Type 0} (m : ℕ) (mark : Option Set) → List X → List X
closed_to m mark xs = cond (at_full m mark) xs []

-- the rules entail a rule of the table's width exactly when it holds in the table
abbrev pub Tells : (words : List ℕ) (places : List Place) (rules : List Rule) → Type 0
Tells words places rules =
    (rule : Rule) → rule.premise.width ≡ signals_of words places
    → EntailedBy rules rule.premise rule.conclusion ↔ HoldsIn words places rule.premise rule.conclusion

-- every list of rules that tells so, of whatever widths and length, has as many rules at least
abbrev pub NoneShorter : (words : List ℕ) (places : List Place) (rules : List Rule) → Type 0
NoneShorter words places rules = (others : List Rule) → Tells words places others → length rules ≤ length others

-- the base law of a draft with these rules and this mark, over the table of these words and places: pseudo-closed is the textbook's, the rules are
-- those up to the mark, and the base that the draft closes to tells what holds and is none the longer
pub record BaseLaw (words : List ℕ) (places : List Place) (rules : List Rule) (mark : Option Set) : Type 0 where
  pub textbook : Textbook (signals_of words places) (common (signals_of words places) words)
  pub up_to_mark : RulesBefore (signals_of words places) (common (signals_of words places) words) (sought_from mark) rules
  pub tells : Tells (closed_to (signals_of words places) mark words) (closed_to (signals_of words places) mark places) (closed_to (signals_of words places) mark rules)
  pub none_shorter :
      NoneShorter (closed_to (signals_of words places) mark words) (closed_to (signals_of words places) mark places) (closed_to (signals_of words places) mark rules)

-- the law of a draft over a table after a list of calls
pub record DraftLaw (words : List ℕ) (places : List Place) (room : ℕ) (calls : List DraftCall) (answers : List DraftAnswer) (rules : List Rule) (mark : Option Set) : Type 0 where
  pub marked : List ℕ
  pub passage : Passage (signals_of words places) (common (signals_of words places) words) room [] calls answers marked
  pub of_width : OfWidth (signals_of words places) mark
  pub last : sought_from mark ≡ past 0 marked
  pub law : BaseLaw words places rules mark
