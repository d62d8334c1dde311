use Rattle.std.proofs.Common.{rules, tests, ◌≡◌, ℕ, ◌+◌, ◌-◌, ◌≤◌, ◌<◌, length, drop, Option, Some, None, List, [], ◌∷◌, MatchOption, sym, subst, ap, ◌∙◌, arith}
use Rattle.std.proofs.lemmas.Iterator.{first_from_Range}
use Rattle.std.specs.Iterator.{Yields, YieldsThen}
use Rattle.std.specs.declared.ops.Range.{Range}
use Rattle.page.proofs.NameLists.{first_left, none_from, none_left}
use Rattle.page.specs.Names.{left}
use Rattle.page.specs.Pages.{chosen_from}
use Rattle.page.specs.declared.chosen.names.Names.{Names}
use Rattle.view.specs.Shown.{signal_names}
use Rattle.sets.specs.Set.{HasSignal}
use Rattle.page.proofs.chosen.names.next.NamesIterator.next.Goals as goal

-- the steps of a range, and what they leave of it
abbrev nat_range_steps : Range ℕ → Option ℕ → Range ℕ → Type 0
nat_range_steps s r t = (t.end ≡ s.end) × MatchOption r ((s.end - s.start ≡ 0) × (t.start ≡ s.start)) (λ x. (0 < s.end - s.start) × (x ≡ s.start) × (t.start ≡ s.start + 1))

ended : (s t : Range ℕ) (xs : List ℕ) → Yields nat_range_steps s xs t → t.end ≡ s.end
ended s t [] y = ap (λ r. r.end) (sym y)
ended s t (x ∷ xs) y = ended y.0 t xs y.2 ∙ y.1.0

kept : (s u : Range ℕ) (xs : List ℕ) (r : Option ℕ) → YieldsThen nat_range_steps s xs r u → u.end ≡ s.end
kept s u xs r y = y.2.0 ∙ ended s y.0 xs y.1

behind : (s u : Range ℕ) (xs : List ℕ) (r : Option ℕ) (i : ℕ) → r ≡ Some i → YieldsThen nat_range_steps s xs r u → u.start ≡ i + 1
behind s u xs r i is y =
    let z = subst (λ o. YieldsThen nat_range_steps s xs o u) is y in
    omega (arith, z.2.1.1, z.2.1.2)

over : (s u : Range ℕ) (xs : List ℕ) (r : Option ℕ) → r ≡ None → YieldsThen nat_range_steps s xs r u → u.end ≤ u.start
over s u xs r is y =
    let z = subst (λ o. YieldsThen nat_range_steps s xs o u) is y in
    omega (arith, z.2.0, z.2.1)

-- the first signal that is to come and belongs to the set, or that there is none
abbrev Found : Names → Option ℕ → Type 0
Found names r = MatchOption r ((k : ℕ) → names.signals.start ≤ k → k < names.signals.end → HasSignal names.of.set k → ⊥)
    (λ i. (names.signals.start ≤ i) × (i < names.signals.end) × HasSignal names.of.set i × ((k : ℕ) → names.signals.start ≤ k → k < i → HasSignal names.of.set k → ⊥))

pub invariant_of-self : goal.invariant_of-self
invariant_of-self c = record { all = kept _ _ _ _ c.find.ensures.ran.2 ∙ c.args.self.now.all }

pub returns-in_err-signal-clause-steps : goal.returns-in_err-signal-clause-steps
returns-in_err-signal-clause-steps c =
    let names = c.args.self.now in
    let first = first_from_Range _ _ _ c.find.result (λ i. HasSignal names.of.set i) (λ i. HasSignal names.of.set i → ⊥) c.find.ensures.ran
    (λ x q k. search (rules, tests)) (λ x q k. (search rules, search (rules, tests))) in
    let end = over _ _ _ c.find.result c.in_err-signal.was c.find.ensures.ran.2 in
    let then = chosen_from names.of.set.width names.of.set.word c.find.new.self.start (drop c.find.new.self.start (signal_names names.of.view)) in
    subst (λ r. MatchOption r ((left names ≡ []) × (then ≡ [])) (λ x. left names ≡ x.now ∷ then)) (sym c.from_residual.ensures)
    (none_left names (subst (Found names) c.in_err-signal.was first), none_from names.of c.find.new.self.start (omega (arith, end, kept _ _ _ _ c.find.ensures.ran.2, names.all)))

pub returns-clause-steps : goal.returns-clause-steps
returns-clause-steps c =
    let names = c.args.self.now in
    let first = first_from_Range _ _ _ c.find.result (λ i. HasSignal names.of.set i) (λ i. HasSignal names.of.set i → ⊥) c.find.ensures.ran
    (λ x q k. search (rules, tests)) (λ x q k. (search rules, search (rules, tests))) in
    let found = subst (Found names) c.in_ok-signal.was first in
    let rest = behind _ _ _ c.find.result c.in_ok-signal.signal c.in_ok-signal.was c.find.ensures.ran.2 in
    first_left names c.in_ok-signal.signal found.0 found.1 found.2 found.3 c.signal_name.result.bytes.now c.signal_name.result.place c.signal_name.ensures.place c.signal_name.ensures.bytes
    ∙ ap (λ k. c.signal_name.result.bytes.now ∷ chosen_from names.of.set.width names.of.set.word k (drop k (signal_names names.of.view))) (sym rest)

pub returns-clause-goes : goal.returns-clause-goes
returns-clause-goes c =
    record { on = λ f. (tt, f, omega (arith, ap length (returns-clause-steps c))); keeps = tt; rests = λ f. tt }
