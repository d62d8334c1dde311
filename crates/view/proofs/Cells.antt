-- The cells of a row, one after another.
use Rattle.std.proofs.Common.{◌≡◌, ℕ, zero, suc, ◌+◌, ◌<◌, List, [], ◌∷◌, ◌++◌, length, take, set, sym, ap, ◌∙◌, add-zero, zero-add, add-one, arith}
use Rattle.std.proofs.lemmas.List.{take_more_set}
use Rattle.table.specs.Tables.{cells_at}
use Rattle.view.specs.Texts.{cell_of}

-- one cell more at the end
cells_push : (m w i n : ℕ) → cells_at m w i (suc n) ≡ cells_at m w i n ++ cell_of m w (i + n) ∷ []
cells_push m w i zero = ap (λ k. cell_of m w k ∷ []) (sym (add-zero i))
cells_push m w i (suc n) =
    let same : i + 1 + n ≡ i + suc n = omega arith in
    ap (λ cs. cell_of m w i ∷ cs) (cells_push m w (i + 1) n) ∙ ap (λ k. cell_of m w i ∷ (cells_at m w (i + 1) n ++ cell_of m w k ∷ [])) same

pub cells_more : (m w i : ℕ) (row : List ℕ) → i < length row → take i row ≡ cells_at m w 0 i → take (i + 1) (set row i (cell_of m w i)) ≡ cells_at m w 0 (i + 1)
cells_more m w i row lt e =
    take_more_set row i (cell_of m w i) lt
    ∙ ap (λ cs. cs ++ cell_of m w i ∷ []) e
    ∙ ap (λ k. cells_at m w 0 i ++ cell_of m w k ∷ []) (sym (zero-add i))
    ∙ sym (cells_push m w 0 i)
    ∙ ap (cells_at m w 0) (sym (add-one i))
