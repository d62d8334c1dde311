-- The lines of sets and rules, as the code puts them piece by piece.
use Rattle.std.proofs.Common.{◌≡◌, ℕ, ◌+◌, List, [], ◌∷◌, ◌++◌, length, codes, decimal, sym, ap, ◌∙◌, append_assoc, append-nil, arith, length-append}
use Rattle.page.specs.Pages.{counted_names, name_fields, names_line}

-- the pieces of a set's line
abbrev pub set_pieces : (place : ℕ) → List (List ℕ) → List ℕ
set_pieces place names = codes "set," ++ (decimal place ++ (counted_names names ++ 10 ∷ []))

pub set_whole : (place : ℕ) (names : List (List ℕ)) → set_pieces place names ≡ names_line place names
set_whole place names =
    let digits = decimal (length names) in
    let fields = name_fields names ++ 10 ∷ [] in
    ap (λ xs. codes "set," ++ (decimal place ++ 44 ∷ xs)) (append_assoc digits (name_fields names) (10 ∷ []) ∙ ap (λ xs. xs ++ fields) (sym (append-nil digits)))
    ∙ ap (λ xs. codes "set," ++ xs) (sym (append_assoc (decimal place) (44 ∷ (digits ++ [])) fields))

pub set_long : (place : ℕ) (names : List (List ℕ)) → length (set_pieces place names) ≡ 5 + length (decimal place) + length (counted_names names)
set_long place names = simp length-append (omega arith)
