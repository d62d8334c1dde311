-- The names of the signals that belong to a set.
use Rattle.std.proofs.Common.{◌≡◌, ℕ, zero, suc, ◌+◌, ◌*◌, ◌-◌, ◌<◌, ◌≤◌, Bool, true, false, cond, eqb, List, [], ◌∷◌, length, get_or, drop, Decides, sym, ap, ◌∙◌, subst, arith, length-append}
use Rattle.std.proofs.lemmas.List.{drop_all, drop_more, get_or-map, length-drop, length-map}
use Rattle.std.proofs.lemmas.Bool.{cases_lt, cond-false, cond-true, eq-eqb, ne_eqb, true≢false}
use Rattle.std.proofs.Math.Logic.{◌⊎◌, inl, inr}
use Rattle.page.specs.Names.{left, names_of}
use Rattle.page.specs.Pages.{chosen, chosen_from, name_fields}
use Rattle.page.specs.declared.chosen.Chosen.{Chosen}
use Rattle.page.specs.declared.chosen.names.Names.{Names}
use Rattle.sets.specs.declared.set.Set.{Set}
use Rattle.sets.specs.Set.{HasSignal}
use Rattle.table.specs.declared.place.Place.{Place}
use Rattle.table.specs.Names.{part_at}
use Rattle.theory.specs.Words.{bit_of}
use Rattle.view.specs.Shown.{signal_count, signal_names}
use Rattle.view.specs.Views.{absent, signal_place}
use Rattle.view.specs.declared.table_view.TableView.{TableView}
use Rattle.view.proofs.Laws.{signal_present}
use Rattle.view.proofs.Lengths.{fit_short}

-- ---- the names as a view shows them

module _ (view : TableView) where
  pub length_names : length (signal_names view) ≡ signal_count view
  length_names = length-map (drop (length view.words.now) view.places.now) (part_at view.text.now) ∙ length-drop (length view.words.now) view.places.now

  module _ (i : ℕ) (lt : i < length (signal_names view)) where
    name_here : get_or (signal_names view) i [] ≡ part_at view.text.now (signal_place (length view.words.now) view.places.now i)
    name_here = get_or-map (part_at view.text.now) (drop (length view.words.now) view.places.now) i absent [] (omega (arith, length-map (drop (length view.words.now) view.places.now) (part_at view.text.now)))

    -- the name that a view hands out
    pub name_shown : (bytes : List ℕ) (place : Place) → place ≡ signal_place (length view.words.now) view.places.now i → bytes ≡ part_at view.text.now place → bytes ≡ get_or (signal_names view) i []
    name_shown bytes place ep eb = eb ∙ ap (part_at view.text.now) ep ∙ sym name_here

    pub name_small : length (get_or (signal_names view) i []) ≤ 40
    name_small =
        let short = fit_short view.text.now view.words.now view.places.now (length view.words.now + i) absent view.fit (omega (arith, length_names)) in
        subst (λ bs. length bs ≤ 40) (sym (name_here ∙ ap (part_at view.text.now) (sym (signal_present (length view.words.now) i view.places.now)))) short

-- the names of a set that a view shows
pub named : (of : Chosen) (view : TableView) (set : Set) → of.view ≡ view → of.set ≡ set → names_of of ≡ chosen set.width set.word (signal_names view)
named of view set seen is = ap (λ v. chosen of.set.width of.set.word (signal_names v)) seen ∙ ap (λ s. chosen s.width s.word (signal_names view)) is

pub same_width : (view : TableView) (set : Set) → set.width ≡ signal_count view → eqb set.width (length (signal_names view)) ≡ true
same_width view set wide = eq-eqb _ _ (wide ∙ sym (length_names view))

-- ---- one name after another

-- what a test that was false says
pub lacks : (r : Bool) (P : Type 0) → Decides r P → r ≡ false → P → ⊥
lacks r P told e p = true≢false (sym (told.1 p) ∙ e)

-- the next signal belongs to the set or not
module _ (view : TableView) (set : Set) (whole : set.width ≡ signal_count view) (i : ℕ) (lt : i < set.width) where
  abbrev from : ℕ → List (List ℕ)
  from k = chosen_from set.width set.word k (drop k (signal_names view))

  inside : i < length (signal_names view)
  inside = omega (arith, length_names view)

  split : from i ≡ chosen_from set.width set.word i (get_or (signal_names view) i [] ∷ drop (i + 1) (signal_names view))
  split = ap (chosen_from set.width set.word i) (drop_more (signal_names view) i [] inside)

  pub next_has : HasSignal set i → (bytes : List ℕ) (place : Place) → place ≡ signal_place (length view.words.now) view.places.now i → bytes ≡ part_at view.text.now place → from i ≡ bytes ∷ from (i + 1)
  next_has has bytes place ep eb =
      split ∙ cond-true _ _ _ (eq-eqb _ 1 has.has) ∙ ap (λ name. name ∷ from (i + 1)) (sym (name_shown view i inside bytes place ep eb))

  pub next_lacks : (HasSignal set i → ⊥) → from i ≡ from (i + 1)
  next_lacks not =
      let out : eqb (bit_of set.width i set.word) 1 ≡ false = ne_eqb _ 1 (λ e. not record { in_width = lt; has = e }) in
      split ∙ cond-false _ _ _ out

-- signals that do not belong to it are passed over
pub passed : (view : TableView) (set : Set) (whole : set.width ≡ signal_count view) (d i : ℕ) → i + d ≤ set.width → ((k : ℕ) → i ≤ k → k < i + d → HasSignal set k → ⊥)
    → chosen_from set.width set.word i (drop i (signal_names view)) ≡ chosen_from set.width set.word (i + d) (drop (i + d) (signal_names view))
passed view set whole zero i le not = ap (λ k. chosen_from set.width set.word k (drop k (signal_names view))) (omega arith)
passed view set whole (suc d) i le not =
    next_lacks view set whole i (omega arith) (not i (omega arith) (omega arith))
    ∙ passed view set whole d (i + 1) (omega arith) (λ k a b. not k (omega arith) (omega arith))
    ∙ ap (λ k. chosen_from set.width set.word k (drop k (signal_names view))) (omega arith)

-- behind the last signal no name is left
pub none_from : (of : Chosen) (i : ℕ) → of.set.width ≤ i → chosen_from of.set.width of.set.word i (drop i (signal_names of.view)) ≡ []
none_from of i le = ap (chosen_from of.set.width of.set.word i) (drop_all i (signal_names of.view) (omega (arith, length_names of.view, of.whole)))

-- what is left of the names where no signal that is to come belongs to the set, or one is the first
pub none_left : (names : Names) → ((k : ℕ) → names.signals.start ≤ k → k < names.signals.end → HasSignal names.of.set k → ⊥) → left names ≡ []
none_left names not = by (cases_lt names.signals.start names.of.set.width) where
  by : (names.signals.start < names.of.set.width) ⊎ (names.of.set.width ≤ names.signals.start) → left names ≡ []
  by (inl lt) =
      passed names.of.view names.of.set names.of.whole (names.of.set.width - names.signals.start) names.signals.start (omega arith) (λ k a b. not k a (omega (arith, names.all)))
      ∙ none_from names.of (names.signals.start + (names.of.set.width - names.signals.start)) (omega arith)
  by (inr le) = none_from names.of names.signals.start le

pub first_left : (names : Names) (i : ℕ) → names.signals.start ≤ i → i < names.signals.end → HasSignal names.of.set i → ((k : ℕ) → names.signals.start ≤ k → k < i → HasSignal names.of.set k → ⊥)
    → (bytes : List ℕ) (place : Place) → place ≡ signal_place (length names.of.view.words.now) names.of.view.places.now i → bytes ≡ part_at names.of.view.text.now place
    → left names ≡ bytes ∷ chosen_from names.of.set.width names.of.set.word (i + 1) (drop (i + 1) (signal_names names.of.view))
first_left names i ge lt has not bytes place ep eb =
    passed names.of.view names.of.set names.of.whole (i - names.signals.start) names.signals.start (omega (arith, names.all)) (λ k a b. not k a (omega arith))
    ∙ ap (λ k. chosen_from names.of.set.width names.of.set.word k (drop k (signal_names names.of.view))) (omega arith)
    ∙ next_has names.of.view names.of.set names.of.whole i (omega (arith, names.all)) has bytes place ep eb

-- ---- the bytes of the names

fields_short : (m word i : ℕ) (names : List (List ℕ)) → ((k : ℕ) → k < length names → length (get_or names k []) ≤ 40) → length (name_fields (chosen_from m word i names)) ≤ 41 * length names
fields_short m word i [] short = omega arith
fields_short m word i (name ∷ names) short = of (eqb (bit_of m i word) 1) (fields_short m word (i + 1) names (λ k lt. short (suc k) (omega arith)))
  where
    of : (b : Bool) → length (name_fields (chosen_from m word (i + 1) names)) ≤ 41 * length names
        → length (name_fields (cond b (name ∷ chosen_from m word (i + 1) names) (chosen_from m word (i + 1) names))) ≤ 41 * suc (length names)
    of true rest = omega (arith, rest, short 0 (omega arith), length-append name (name_fields (chosen_from m word (i + 1) names)))
    of false rest = omega (arith, rest)

pub names_short : (view : TableView) (m word : ℕ) → length (name_fields (chosen_from m word 0 (signal_names view))) ≤ 41 * signal_count view
names_short view m word = omega (arith, fields_short m word 0 (signal_names view) (name_small view), length_names view)
