-- What one advance takes and leaves, from what its calls answer.
use Rattle.std.proofs.Common.{◌≡◌, ℕ, ◌^◌, ◌<◌, ◌≤◌, ◌≢◌, List, [], ◌∷◌, ◌++◌, length, take, Some, None, Option, sym, refl, ap, ◌∙◌, subst}
use Rattle.draft.specs.Advances.{Adds, Crowded, Passes, Taken}
use Rattle.operators.specs.Heeded.{heeded, of_width_within, max_rules}
use Rattle.sets.specs.declared.rule.Rule.{Rule}
use Rattle.sets.specs.declared.set.Set.{Set}
use Rattle.sets.specs.Set.{Inside}
use Rattle.theory.specs.Closures.{Closure, LeastClosed}
use Rattle.theory.specs.Rules.{close_s, proper}
use Rattle.theory.specs.Words.{Has, max_signals}
use Rattle.theory.proofs.Closures.{least_first}
use Rattle.theory.proofs.Rules.{close_closure}
use Rattle.theory.proofs.Signals.{sub_signals}

-- the closure S over rules is a closure operator
pub under_closure : (m : ℕ) (rules : List Rule) → m ≤ max_signals → Closure m (close_s m (heeded m rules))
under_closure m rules narrow = close_closure proper m (heeded m rules) (of_width_within m (take max_rules rules)) narrow

-- without a mark, the closure of the empty set is taken
module _ (m : ℕ) (rules : List Rule) (mark : Option Set) (empty set : Set) (w : ℕ) (read : List Rule) where
  pub first_taken :
      m ≤ max_signals → mark ≡ None → empty.width ≡ m → empty.word ≡ 0 → w ≡ empty.width → read ≡ rules → set.width ≡ empty.width
      → (empty.width ≡ w → set.word ≡ close_s w (heeded w read) empty.word) → Taken m rules mark set
  first_taken narrow none width word over same kept closed =
      subst (λ k. Taken m rules k set) (sym none) record {
        of_width = tt;
        width = kept ∙ width;
        least = subst (LeastClosed m (close_s m (heeded m rules)) 0) (sym first) (least_first m (close_s m (heeded m rules)) (under_closure m rules narrow));
      }
    where
      first : set.word ≡ close_s m (heeded m rules) 0
      first =
          closed (sym over) ∙ ap (λ n. close_s n (heeded n read) empty.word) (over ∙ width) ∙ ap (λ rs. close_s m (heeded m rs) empty.word) same
          ∙ ap (close_s m (heeded m rules)) word

-- the set taken, over the width and the rules as they were read
pub taken_read : (w m : ℕ) (read rules : List Rule) (mark : Option Set) (set : Set) → w ≡ m → read ≡ rules → Taken w read mark set → Taken m rules mark set
taken_read w m read rules mark set same is taken = subst (λ n. Taken n rules mark set) same (subst (λ rs. Taken w rs mark set) is taken)

module _
    (m : ℕ) (c : ℕ → ℕ) (room : ℕ) (before : List Rule) (mark : Option Set) (set closed : Set) (rule : Rule) (a b : ℕ) (taken : Taken m before mark set)
    (answered : set.width ≡ m → closed.word ≡ c set.word) (left : a ≡ closed.word) (right : b ≡ set.word) (differs : a ≢ b)
  where
    not_closed : c set.word ≢ set.word
    not_closed e = differs (left ∙ answered taken.width ∙ e ∙ sym right)

    pub adds :
        (after : List Rule) → length before < room → after ≡ before ++ rule ∷ [] → rule.premise ≡ set → rule.conclusion ≡ closed
        → Adds m c room before mark after (Some set)
    adds after place put premise conclusion =
        record {
          set = set;
          rule = rule;
          taken = taken;
          not_closed = not_closed;
          place = place;
          premise = premise;
          conclusion = ap (λ (s : Set). s.word) conclusion ∙ answered taken.width;
          rules = put;
          moved = refl;
        }

    pub crowded : length before ≡ room → Crowded m c room before mark
    crowded full = record { set = set; taken = taken; not_closed = not_closed; full = full }

pub passes :
    (m : ℕ) (c : ℕ → ℕ) (before : List Rule) (mark : Option Set) (set closed : Set) (a b : ℕ) → Taken m before mark set
    → (set.width ≡ m → closed.word ≡ c set.word) → a ≡ closed.word → b ≡ set.word → a ≡ b → Passes m c before mark before (Some set)
passes m c before mark set closed a b taken answered left right same =
    record { set = set; taken = taken; closed = sym (answered taken.width) ∙ sym left ∙ same ∙ right; rules = refl; moved = refl }

-- a set lies inside its closure
pub inside_closure : (m : ℕ) (c : ℕ → ℕ) → Closure m c → (set closed : Set) → set.width ≡ m → closed.width ≡ set.width → (set.width ≡ m → closed.word ≡ c set.word) → Inside set closed
inside_closure m c op set closed width same word =
    record {
      same = sym same;
      signals = λ i _ h.
          subst (λ n. Has n i closed.word) (sym same)
          (subst (λ x. Has set.width i x) (sym (word width)) (sub_signals set.width (op.extends set.word (subst (λ n. set.word < 2 ^ n) width set.below)) i h));
    }
