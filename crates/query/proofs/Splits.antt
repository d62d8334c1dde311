-- A line's fields, one by one: the field that begins at a position, and the fields behind it.
use Rattle.std.proofs.Common.{◌≡◌, ℕ, suc, ◌+◌, ◌-◌, ◌<◌, Bool, true, false, cond, eqb, List, [], ◌∷◌, length, take, drop, refl, ap, ◌∙◌, arith}
use Rattle.std.proofs.lemmas.List.{at_drop_more, drop-drop}
use Rattle.query.specs.Fields.{longer, fields_from, fields_of, comma_from, field_end_of, field_at, rest_from, fields_behind}

-- the number of bytes before the first comma
abbrev pub run : List ℕ → ℕ
run [] = 0
run (b ∷ bs) = cond (eqb b 44) 0 (suc (run bs))

run_comma : (p : ℕ) (bs : List ℕ) → comma_from p bs ≡ p + run bs
run_comma p [] = omega arith
run_comma p (b ∷ bs) = at (eqb b 44) (run_comma (p + 1) bs)
  where
    at : (t : Bool) → comma_from (p + 1) bs ≡ p + 1 + run bs → cond t p (comma_from (p + 1) bs) ≡ p + cond t 0 (suc (run bs))
    at true e = omega arith
    at false e = omega arith

pub first : (p : ℕ) (bs : List ℕ) → fields_from (p + 1) bs ≡ record { byte = p + 1; bytes = take (run bs) bs } ∷ rest_from (p + run bs) (drop (run bs) bs)
first p [] = refl
first p (b ∷ bs) = at (eqb b 44) (first (p + 1) bs)
  where
    at :
        (t : Bool) → fields_from (p + 1 + 1) bs ≡ record { byte = p + 1 + 1; bytes = take (run bs) bs } ∷ rest_from (p + 1 + run bs) (drop (run bs) bs)
        → cond t (record { byte = p + 1; bytes = [] } ∷ fields_from (p + 1 + 1) bs) (longer (p + 1) b (fields_from (p + 1 + 1) bs))
        ≡ record { byte = p + 1; bytes = take (cond t 0 (suc (run bs))) (b ∷ bs) } ∷ rest_from (p + cond t 0 (suc (run bs))) (drop (cond t 0 (suc (run bs))) (b ∷ bs))
    at true e =
        let next : p + 1 + 1 ≡ p + 0 + 2 = omega arith in
        ap (λ n. record { byte = p + 1; bytes = [] } ∷ fields_from n bs) next
    at false e =
        let next : p + 1 + run bs ≡ p + suc (run bs) = omega arith in
        ap (longer (p + 1) b) e ∙ ap (λ n. record { byte = p + 1; bytes = b ∷ take (run bs) bs } ∷ rest_from n (drop (run bs) bs)) next

-- the fields from position p on
pub field_first : (line : List ℕ) (p e : ℕ) → e ≡ field_end_of p line → fields_from (p + 1) (drop p line) ≡ field_at p e line ∷ fields_behind e line
field_first line p e is =
    let end : e ≡ p + run (drop p line) = is ∙ run_comma p (drop p line) in
    let long : run (drop p line) ≡ e - p = omega arith in
    let whole : p + (e - p) ≡ e = omega arith in
    first p (drop p line)
    ∙ ap (λ n. record { byte = p + 1; bytes = take n (drop p line) } ∷ rest_from (p + n) (drop n (drop p line))) long
    ∙ ap (λ bs. field_at p e line ∷ rest_from (p + (e - p)) bs) (drop-drop (e - p) p line)
    ∙ ap (λ n. field_at p e line ∷ rest_from n (drop n line)) whole

-- the fields of a line
pub line_first : (line : List ℕ) (e : ℕ) → e ≡ field_end_of 0 line → fields_of line ≡ record { byte = 1; bytes = take e line } ∷ fields_behind e line
line_first line e is = field_first line 0 e is ∙ ap (λ n. record { byte = 1; bytes = take n line } ∷ fields_behind e line) (omega arith)

-- the fields behind the comma at a position
pub behind_more : (line : List ℕ) (at e : ℕ) → at < length line → e ≡ field_end_of (at + 1) line → fields_behind at line ≡ field_at (at + 1) e line ∷ fields_behind e line
behind_more line at e lt is =
    let next : at + 2 ≡ at + 1 + 1 = omega arith in
    at_drop_more (rest_from at) line at 0 lt ∙ ap (λ n. fields_from n (drop (at + 1) line)) next ∙ field_first line (at + 1) e is
