-- The parts of a table show a lawful table, and each place holds a name.
use Rattle.std.proofs.Common.{◌≡◌, ℕ, zero, suc, ◌+◌, ◌-◌, ◌^◌, ◌<◌, ◌≤◌, min, Bool, true, false, not, ◌&&◌, ltb, leb, List, [], ◌∷◌, map, length, get_or, take, drop, is_some, Some, None, Option, sym, refl, ap, ◌∙◌, subst, arith}
use Rattle.std.specs.List.{AllByRecursion, list_all}
use Rattle.std.proofs.lemmas.List.{length-map, length-take, length-take-le, length-drop, get_or-drop, take-append-drop}
use Rattle.std.proofs.lemmas.List.Folds.{list_all-append}
use Rattle.std.proofs.lemmas.Bool.{and_parts, and_from, not-true, leb-true, le-leb, ltb-true, lt-ltb, true≢false}
use Rattle.table.specs.declared.place.Place.{Place}
use Rattle.table.specs.Names.{Name, wrong_byte_of, part_at}
use Rattle.table.specs.Tables.{Lawful}
use Rattle.view.specs.Views.{holds_name_at, fit, table_of, absent, signal_place}

-- what a test says of each
pub every_at : {X : Type 0} (test : X → Bool) (xs : List X) (i : ℕ) (d : X) → list_all test xs ≡ true → i < length xs → test (get_or xs i d) ≡ true
every_at test [] i d e lt = absurd (omega arith)
every_at test (x ∷ xs) zero d e lt = (and_parts (test x) (list_all test xs) e).0
every_at test (x ∷ xs) (suc i) d e lt = every_at test xs i d (and_parts (test x) (list_all test xs) e).1 (omega arith)

-- what holds of all holds of the first n and of the rest, and back
pub every_cut : {X : Type 0} (test : X → Bool) (n : ℕ) (xs : List X) → list_all test xs ≡ (list_all test (take n xs) && list_all test (drop n xs))
every_cut test n xs = ap (list_all test) (sym (take-append-drop n xs)) ∙ list_all-append test (take n xs) (drop n xs)

pub every_front : {X : Type 0} (test : X → Bool) (n : ℕ) (xs : List X) → list_all test xs ≡ true → list_all test (take n xs) ≡ true
every_front test n xs e = (and_parts _ _ (sym (every_cut test n xs) ∙ e)).0

pub every_back : {X : Type 0} (test : X → Bool) (n : ℕ) (xs : List X) → list_all test xs ≡ true → list_all test (drop n xs) ≡ true
every_back test n xs e = (and_parts _ _ (sym (every_cut test n xs) ∙ e)).1

pub every_says : {X Y : Type 0} (test : X → Bool) (f : X → Y) (P : Y → Type 0) → ((x : X) → test x ≡ true → P (f x)) → (xs : List X) → list_all test xs ≡ true → AllByRecursion P (map f xs)
every_says test f P says [] e = tt
every_says test f P says (x ∷ xs) e = let h = and_parts (test x) (list_all test xs) e in (says x h.0, every_says test f P says xs h.1)

pub every_each : {X : Type 0} (test : X → Bool) (P : X → Type 0) → ((x : X) → test x ≡ true → P x) → (xs : List X) → list_all test xs ≡ true → AllByRecursion P xs
every_each test P says [] e = tt
every_each test P says (x ∷ xs) e = let h = and_parts (test x) (list_all test xs) e in (says x h.0, every_each test P says xs h.1)

none_from : (o : Option ℕ) → is_some o ≡ false → o ≡ None
none_from None e = refl
none_from (Some x) e = absurd (true≢false e)

-- the place lies inside the text
pub place_inside : (text : List ℕ) (p : Place) → holds_name_at text p ≡ true → p.start + p.length ≤ length text
place_inside text p e = leb-true _ _ (and_parts _ _ e).0

-- its bytes are a name
pub place_named : (text : List ℕ) (p : Place) → holds_name_at text p ≡ true → Name (part_at text p)
place_named text p e = none_from (wrong_byte_of (part_at text p)) (not-true _ (and_parts (leb (p.start + p.length) (length text)) _ e).1)

-- what fit parts are
pub record Fit (text words : List ℕ) (places : List Place) : Type 0 where
  pub rows : length words ≤ 512
  pub enough : length words ≤ length places
  pub signals : length places - length words ≤ 60
  pub narrow : list_all (λ w. ltb w (2 ^ (length places - length words))) words ≡ true
  pub names : list_all (holds_name_at text) places ≡ true

pub fit_parts : (text words : List ℕ) (places : List Place) → fit text words places ≡ true → Fit text words places
fit_parts text words places e =
    let a = and_parts _ _ e in
    let b = and_parts _ _ a.1 in
    let c = and_parts _ _ b.1 in
    let d = and_parts _ _ c.1 in
    record { rows = leb-true _ _ a.0; enough = leb-true _ _ b.0; signals = leb-true _ _ c.0; narrow = d.0; names = d.1 }

-- fit parts show a lawful table
pub fit_lawful : (text words : List ℕ) (places : List Place) → fit text words places ≡ true → Lawful (table_of text words places)
fit_lawful text words places e =
    let f = fit_parts text words places e in
    let signals : length (map (part_at text) (drop (length words) places)) ≡ length places - length words = length-map (drop (length words) places) (part_at text) ∙ length-drop (length words) places in
    record {
      rows = f.rows;
      signals = subst (λ n. n ≤ 60) (sym signals) f.signals;
      named = length-map (take (length words) places) (part_at text) ∙ length-take-le (length words) places f.enough;
      row_named = every_says (holds_name_at text) (part_at text) Name (place_named text) (take (length words) places) (every_front (holds_name_at text) (length words) places f.names);
      signal_named = every_says (holds_name_at text) (part_at text) Name (place_named text) (drop (length words) places) (every_back (holds_name_at text) (length words) places f.names);
      narrow = subst (λ n. AllByRecursion (λ w. w < 2 ^ n) words) (sym signals) (every_each _ _ (λ w. ltb-true w _) words f.narrow);
    }

-- and where the places lie inside the text, the parts of a lawful table are fit
abbrev inside : List ℕ → Place → Bool
inside text p = leb (p.start + p.length) (length text)

every_named : (text : List ℕ) (places : List Place) → list_all (inside text) places ≡ true → AllByRecursion Name (map (part_at text) places) → list_all (holds_name_at text) places ≡ true
every_named text [] within named = refl
every_named text (p ∷ ps) within named =
    let h = and_parts (inside text p) (list_all (inside text) ps) within in
    and_from _ _ (and_from _ _ h.0 (ap (λ o. not (is_some o)) named.0)) (every_named text ps h.1 named.1)

every_from : {X : Type 0} (test : X → Bool) (P : X → Type 0) → ((x : X) → P x → test x ≡ true) → (xs : List X) → AllByRecursion P xs → list_all test xs ≡ true
every_from test P says [] h = refl
every_from test P says (x ∷ xs) h = and_from _ _ (says x h.0) (every_from test P says xs h.1)

pub lawful_fit : (text words : List ℕ) (places : List Place) → list_all (λ p. leb (p.start + p.length) (length text)) places ≡ true → Lawful (table_of text words places) → fit text words places ≡ true
lawful_fit text words places within t =
    let g : ℕ = length words in
    let signals : length (map (part_at text) (drop g places)) ≡ length places - g = length-map (drop g places) (part_at text) ∙ length-drop g places in
    let rows : min g (length places) ≡ g = sym (length-map (take g places) (part_at text) ∙ length-take g places) ∙ t.named in
    let narrow : AllByRecursion (λ w. w < 2 ^ (length places - g)) words = subst (λ n. AllByRecursion (λ w. w < 2 ^ n) words) signals t.narrow in
    and_from _ _ (le-leb _ _ t.rows)
    (and_from _ _ (le-leb _ _ (omega arith))
    (and_from _ _ (le-leb _ _ (subst (λ n. n ≤ 60) signals t.signals))
    (and_from _ _ (every_from _ _ (λ w. lt-ltb w _) words narrow)
    (every_cut (holds_name_at text) g places
    ∙ and_from _ _ (every_named text (take g places) (every_front (inside text) g places within) t.row_named)
    (every_named text (drop g places) (every_back (inside text) g places within) t.signal_named)))))

-- the place of the name of a signal, among all places
pub signal_present : (g i : ℕ) (places : List Place) → get_or places (g + i) absent ≡ signal_place g places i
signal_present g i places = sym (get_or-drop g places i absent)
