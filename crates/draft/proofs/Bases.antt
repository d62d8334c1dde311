-- A base up to the end tells exactly what holds in the table, and no list that tells so is shorter.
use Rattle.std.proofs.Common.{◌≡◌, ℕ, suc, ◌-◌, ◌^◌, ◌<◌, ◌≤◌, Bool, true, false, cond, eqb, ◌↔◌, List, [], ◌∷◌, length, take, Some, None, Option, sym, refl, ap, ◌∙◌, subst, arith, lit≤, pow_pos}
use lib.Bits.{bit_or}
use Rattle.draft.specs.Advances.{at_full, sought_from}
use Rattle.draft.specs.Laws.{BaseLaw, NoneShorter, RulesBefore, Tells, implications}
use Rattle.operators.specs.Entailment.{EntailedBy, HoldsIn}
use Rattle.operators.specs.Heeded.{heeded, implication, max_rules, of_width, of_width_within}
use Rattle.operators.specs.TableClosure.{signals_of}
use Rattle.sets.specs.declared.rule.Rule.{Rule}
use Rattle.sets.specs.declared.set.Set.{Set}
use Rattle.std.specs.List.{AllByRecursion}
use Rattle.std.proofs.lemmas.List.{length-map, length-take, take_all}
use Rattle.std.proofs.lemmas.Bool.{and_parts, cond-true, eq-eqb, eqb-true, true≢false}
use Rattle.table.specs.declared.place.Place.{Place}
use Rattle.theory.specs.Bases.{Exact, HoldsUnder}
use Rattle.theory.specs.Rows.{Holds, common}
use Rattle.theory.specs.Rules.{Entails, Implication, inside}
use Rattle.theory.specs.Words.{Sub, max_signals}
use Rattle.theory.proofs.Base.{base_exact, base_smallest, exact_holds}
use Rattle.theory.proofs.Ganter.{base_full, base_none}
use Rattle.theory.proofs.Lattice.{absorbs, join_least, join_right, sub_full, sub_le, sub_trans}
use Rattle.theory.proofs.Pseudo.{textbook}
use Rattle.theory.proofs.Rows.{common_closure, common_extends, holds_common}
use Rattle.theory.proofs.Rules.{passes_extends}

-- ---- rules of one width

pub of_width_all : (m : ℕ) (rules : List Rule) → AllByRecursion (λ r. r.premise.width ≡ m) rules → of_width m rules ≡ implications rules
of_width_all m [] all = refl
of_width_all m (rule ∷ rules) all =
    cond-true (eqb rule.premise.width m) (implication rule ∷ of_width m rules) (of_width m rules) (eq-eqb _ _ all.0)
    ∙ ap (λ xs. implication rule ∷ xs) (of_width_all m rules all.1)

pub heeded_all :
    (m : ℕ) (rules : List Rule) → length rules ≤ max_rules → AllByRecursion (λ r. r.premise.width ≡ m) rules → heeded m rules ≡ implications rules
heeded_all m rules few all = ap (of_width m) (take_all max_rules rules few) ∙ of_width_all m rules all

of_width_length : (m : ℕ) (rules : List Rule) → length (of_width m rules) ≤ length rules
of_width_length m [] = omega arith
of_width_length m (rule ∷ rules) = at (eqb rule.premise.width m) (of_width_length m rules)
  where
    at : (b : Bool) → length (of_width m rules) ≤ length rules → length (cond b (implication rule ∷ of_width m rules) (of_width m rules)) ≤ suc (length rules)
    at true h = omega arith
    at false h = omega arith

heeded_length : (m : ℕ) (rules : List Rule) → length (heeded m rules) ≤ length rules
heeded_length m rules = omega (arith, of_width_length m (take max_rules rules), length-take max_rules rules)

-- ---- exact lists of rules

-- what is exact tells what holds
pub exact_tells :
    (words : List ℕ) (places : List Place) (rules : List Rule)
    → Exact (signals_of words places) (common (signals_of words places) words) (heeded (signals_of words places) rules) → Tells words places rules
exact_tells words places rules exact rule wide = (forth, back)
  where
    m : ℕ
    m = signals_of words places

    p : ℕ
    p = rule.premise.word

    q : ℕ
    q = rule.conclusion.word

    hp : p < 2 ^ m
    hp = subst (λ n. p < 2 ^ n) wide rule.premise.below

    wide_conclusion : rule.conclusion.width ≡ m
    wide_conclusion = sym rule.same ∙ wide

    hq : q < 2 ^ m
    hq = subst (λ n. q < 2 ^ n) wide_conclusion rule.conclusion.below

    both : Entails m (heeded m rules) p q ↔ Holds words p q
    both = exact_holds m words (heeded m rules) exact p q hp hq

    forth : EntailedBy rules rule.premise rule.conclusion → HoldsIn words places rule.premise rule.conclusion
    forth e =
        record {
          premise_width = wide;
          conclusion_width = wide_conclusion;
          holds = both.0 (subst (λ n. Entails n (heeded n rules) p q) wide e.entailed);
        }

    back : HoldsIn words places rule.premise rule.conclusion → EntailedBy rules rule.premise rule.conclusion
    back h = record { same = rule.same; entailed = subst (λ n. Entails n (heeded n rules) p q) (sym wide) (both.1 h.holds) }

or_below : (m p q : ℕ) → p < 2 ^ m → q < 2 ^ m → bit_or p q < 2 ^ m
or_below m p q hp hq = omega (arith, sub_le (join_least (sub_full m p hp) (sub_full m q hq)), pow_pos m)

-- what tells what holds is exact: of any two sets, the rule from the one to their union
pub tells_exact :
    (words : List ℕ) (places : List Place) (rules : List Rule) → signals_of words places ≤ max_signals → Tells words places rules
    → Exact (signals_of words places) (common (signals_of words places) words) (heeded (signals_of words places) rules)
tells_exact words places rules narrow tells p q hp hq = (forth, back)
  where
    m : ℕ
    m = signals_of words places

    H : List Implication
    H = heeded m rules

    premise : Set
    premise = record { width = m; word = p; narrow = narrow; below = hp }

    union : Set
    union = record { width = m; word = bit_or p q; narrow = narrow; below = or_below m p q hp hq }

    rule : Rule
    rule = record { premise = premise; conclusion = union; same = refl; inside = absorbs p q }

    forth : Entails m H p q → HoldsUnder (common m words) p q
    forth s =
        let all : Entails m H p (bit_or p q) = join_least (passes_extends inside H m p) s in
        let h = (tells rule refl).0 record { same = refl; entailed = all } in
        sub_trans (join_right p q) ((holds_common m words p (bit_or p q) (or_below m p q hp hq)).0 h.holds)

    back : HoldsUnder (common m words) p q → Entails m H p q
    back s =
        let all : Sub (bit_or p q) (common m words p) = join_least (common_extends m words p hp) s in
        let h = (holds_common m words p (bit_or p q) (or_below m p q hp hq)).1 all in
        let e = (tells rule refl).1 record { premise_width = refl; conclusion_width = refl; holds = h } in
        sub_trans (join_right p q) e.entailed

-- ---- the base law

module _ (words : List ℕ) (places : List Place) (narrow : signals_of words places ≤ max_signals) (rules : List Rule) (few : length rules ≤ max_rules) where
  -- a base up to the end
  pub end_tells :
      RulesBefore (signals_of words places) (common (signals_of words places) words) (2 ^ signals_of words places) rules → Tells words places rules
  end_tells all =
      let m = signals_of words places in
      let op = common_closure m words narrow in
      exact_tells words places rules
      (subst (Exact m (common m words)) (sym (heeded_all m rules few all.widths)) (base_exact m (common m words) op all.base))

  pub end_shortest :
      RulesBefore (signals_of words places) (common (signals_of words places) words) (2 ^ signals_of words places) rules → NoneShorter words places rules
  end_shortest all others tells =
      let m = signals_of words places in
      let op = common_closure m words narrow in
      omega (
        arith,
        base_smallest m (common m words) op all.base (heeded m others) (of_width_within m (take max_rules others)) (tells_exact words places others narrow tells),
        length-map rules implication,
        heeded_length m others,
      )

-- the base of the empty table has no rule
nothing_before : RulesBefore 0 (common 0 []) 1 []
nothing_before = record { widths = tt; base = base_full 0 (common 0 []) (common_closure 0 [] (lit≤ tt)) (base_none 0 (common 0 [])) }

pub full_sought : (m : ℕ) (mark : Option Set) → at_full m mark ≡ true → sought_from mark ≡ 2 ^ m
full_sought m None e = absurd (true≢false (sym e))
full_sought m (Some s) e = omega (arith, eqb-true s.word (2 ^ m - 1) (and_parts _ _ e).1, pow_pos m)

pub base_law :
    (words : List ℕ) (places : List Place) → signals_of words places ≤ max_signals → (rules : List Rule) → length rules ≤ max_rules → (mark : Option Set)
    → RulesBefore (signals_of words places) (common (signals_of words places) words) (sought_from mark) rules → BaseLaw words places rules mark
base_law words places narrow rules few mark before =
    let both = at (at_full m mark) refl in record { textbook = textbook m (common m words); up_to_mark = before; tells = both.0; none_shorter = both.1 }
  where
    m : ℕ
    m = signals_of words places

    at : (b : Bool) → at_full m mark ≡ b → Tells (cond b words []) (cond b places []) (cond b rules []) × NoneShorter (cond b words []) (cond b places []) (cond b rules [])
    at true e =
        let all = subst (λ n. RulesBefore m (common m words) n rules) (full_sought m mark e) before in
        (end_tells words places narrow rules few all, end_shortest words places narrow rules few all)
    at false e =
        (end_tells [] [] (lit≤ tt) [] (lit≤ tt) nothing_before, end_shortest [] [] (lit≤ tt) [] (lit≤ tt) nothing_before)
