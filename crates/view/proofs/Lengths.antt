-- The text of a table in its three parts, and its length.
use Rattle.std.proofs.Common.{◌≡◌, ℕ, ◌+◌, ◌-◌, ◌*◌, ◌<◌, ◌≤◌, true, false, ◌&&◌, leb, ◌⊎◌, List, [], ◌∷◌, ◌++◌, map, length, get_or, take, drop, Some, decimal, sym, ap, ◌∙◌, inl, inr, append_assoc, suc-mul, arith, length-append}
use Rattle.std.specs.List.{flat_map, list_all, sum_by}
use Rattle.std.proofs.lemmas.Grind.{flat_map-append}
use Rattle.std.proofs.lemmas.List.Folds.{flat_map-map}
use Rattle.std.proofs.lemmas.List.Sums.{sum_by-cons}
use Rattle.std.proofs.lemmas.List.{length-map, length-drop, length-take, take-append-drop}
use Rattle.std.proofs.lemmas.Bool.{cases_Bool, cond-false, and_parts, leb-true}
use Rattle.table.specs.declared.place.Place.{Place}
use Rattle.table.specs.Names.{Name, wrong_byte_of, part_at}
use Rattle.table.specs.Tables.{line, cells}
use Rattle.table.proofs.Cells.{length_cells_at}
use Rattle.view.specs.Views.{fit, holds_name_at}
use Rattle.view.specs.Texts.{shown_text, head_text, names_text, rows_text}
use Rattle.view.proofs.Laws.{every_at, fit_parts, place_inside, place_named}

-- the row names and then the signal names are the names at all places
pub names_parts : (text : List ℕ) (places : List Place) (g : ℕ) → flat_map line (map (part_at text) (take g places)) ++ flat_map line (map (part_at text) (drop g places)) ≡ names_text text places
names_parts text places g =
    ap (λ xs. xs ++ flat_map line (map (part_at text) (drop g places))) (flat_map-map line (part_at text) (take g places))
    ∙ ap (λ xs. flat_map (λ p. line (part_at text p)) (take g places) ++ xs) (flat_map-map line (part_at text) (drop g places))
    ∙ sym (flat_map-append (λ p. line (part_at text p)) (take g places) (drop g places))
    ∙ ap (names_text text) (take-append-drop g places)

regroup : (g m row_names signal_names rows : List ℕ)
    → 66 ∷ 10 ∷ 10 ∷ (line g ++ (line m ++ 10 ∷ (row_names ++ (signal_names ++ rows)))) ≡ (66 ∷ 10 ∷ 10 ∷ (line g ++ (line m ++ 10 ∷ []))) ++ ((row_names ++ signal_names) ++ rows)
regroup g m row_names signal_names rows = simp append_assoc

-- the text is the head, the names and the rows
pub text_parts : (text words : List ℕ) (places : List Place)
    → shown_text text words places ≡ head_text (length words) (length places - length words) ++ (names_text text places ++ rows_text (length places - length words) words)
text_parts text words places =
    let same : length (map (part_at text) (drop (length words) places)) ≡ length places - length words = length-map (drop (length words) places) (part_at text) ∙ length-drop (length words) places in
    regroup (decimal (length words)) (decimal (length (map (part_at text) (drop (length words) places))))
    (flat_map line (map (part_at text) (take (length words) places))) (flat_map line (map (part_at text) (drop (length words) places))) (rows_text (length (map (part_at text) (drop (length words) places))) words)
    ∙ ap (λ names. head_text (length words) (length (map (part_at text) (drop (length words) places))) ++ (names ++ rows_text (length (map (part_at text) (drop (length words) places))) words)) (names_parts text places (length words))
    ∙ ap (λ m. head_text (length words) m ++ (names_text text places ++ rows_text m words)) same

pub length_rows : (m : ℕ) (words : List ℕ) → length (rows_text m words) ≡ length words * (m + 1)
length_rows m [] = omega arith
length_rows m (w ∷ ws) =
    length-append (line (cells m w)) (rows_text m ws)
    ∙ ap (λ n. n + length (rows_text m ws)) (length-append (cells m w) (10 ∷ []) ∙ ap (λ n. n + 1) (length_cells_at m w 0 m))
    ∙ ap (λ n. m + 1 + n) (length_rows m ws)
    ∙ omega (arith, suc-mul (length ws) (m + 1))

pub length_head : (g m : ℕ) → length (head_text g m) ≡ 6 + length (decimal g) + length (decimal m)
length_head g m = simp length-append (omega arith)

-- a name has at most 40 bytes
pub name_short : (bs : List ℕ) → Name bs → length bs ≤ 40
name_short bs e = by_test (cases_Bool (leb 1 (length bs) && leb (length bs) 40))
  where
    by_test : ((leb 1 (length bs) && leb (length bs) 40) ≡ true) ⊎ ((leb 1 (length bs) && leb (length bs) 40) ≡ false) → length bs ≤ 40
    by_test (inl fine) = leb-true (length bs) 40 (and_parts (leb 1 (length bs)) (leb (length bs) 40) fine).1
    by_test (inr bad) =
        let f : wrong_byte_of bs ≡ Some 1 = cond-false _ _ _ bad in
        absurd (let z : ◌≡◌ {A = ℕ} 0 1 = cc in omega arith)

-- the length of the text from the lengths of its parts
pub length_text : (text words : List ℕ) (places : List Place) → length (shown_text text words places)
    ≡ 6 + length (decimal (length words)) + length (decimal (length places - length words)) + length (names_text text places) + length words * (length places - length words + 1)
length_text text words places =
    let m : ℕ = length places - length words in
    ap length (text_parts text words places)
    ∙ length-append (head_text (length words) m) _
    ∙ omega (arith, length_head (length words) m, length-append (names_text text places) (rows_text m words), length_rows m words)

pub text_sum : (text words : List ℕ) (places : List Place) (g m a b n : ℕ) → g ≡ length words → m ≡ length places - length words → a ≡ length (decimal g) → b ≡ length (decimal m) → n ≡ length (names_text text places)
    → 6 + a + b + n + g * (m + 1) ≡ length (shown_text text words places)
text_sum text words places g m a b n eg em ea eb en = let e = length_text text words places in cc

-- the bytes at the places, and a line feed for each, are the lines of the names; they are few
pub record NamesCounted (text : List ℕ) (places : List Place) : Type 0 where
  pub whole : sum_by (λ p. p.length) places + length places ≡ length (names_text text places)
  pub few : sum_by (λ p. p.length) places ≤ 40 * length places

pub names_counted : (text : List ℕ) (places : List Place) → list_all (holds_name_at text) places ≡ true → NamesCounted text places
names_counted text [] e = record { whole = omega arith; few = omega arith }
names_counted text (p ∷ ps) e =
    let h = and_parts (holds_name_at text p) (list_all (holds_name_at text) ps) e in
    let more = names_counted text ps h.1 in
    let inside = place_inside text p h.0 in
    let part : length (part_at text p) ≡ p.length = simp (length-take, length-drop) (omega arith) in
    let short : length (part_at text p) ≤ 40 = name_short (part_at text p) (place_named text p h.0) in
    let sum : sum_by (λ q. q.length) (p ∷ ps) ≡ p.length + sum_by (λ q. q.length) ps = sum_by-cons (λ q. q.length) p ps in
    record {
      whole = omega (arith, sum, part, more.whole, length-append (line (part_at text p)) (names_text text ps), length-append (part_at text p) (10 ∷ []));
      few = omega (arith, sum, part, short, more.few);
    }

pub fit_short : (text words : List ℕ) (places : List Place) (i : ℕ) (d : Place) → fit text words places ≡ true → i < length places → length (part_at text (get_or places i d)) ≤ 40
fit_short text words places i d e lt = name_short _ (place_named text (get_or places i d) (every_at (holds_name_at text) places i d (fit_parts text words places e).names lt))
