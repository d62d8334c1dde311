-- The step of the reading of several lines, each as an item.
use Rattle.std.proofs.Common.{◌≡◌, ℕ, suc, ◌+◌, ◌-◌, ◌<◌, List, [], ◌∷◌, ◌++◌, length, take, set, Ok, Err, Result, sym, refl, ap, ◌∙◌, append_assoc, add_assoc, arith}
use Rattle.std.proofs.lemmas.List.{take_more_set}
use Rattle.table.specs.declared.faults.TableFault.{TableFault}
use Rattle.table.specs.Reading.{Taken, Item, line_at, lines_at, and_then, behind}

-- what was read before, and then the rest
abbrev pub before : {X : Type 0} → List X → Result (Taken (List X)) TableFault → Result (Taken (List X)) TableFault
before xs (Ok t) = Ok (record { value = xs ++ t.value; next = t.next })
before xs (Err e) = Err e

before_behind : {X : Type 0} (xs : List X) (x : X) (r : Result (Taken (List X)) TableFault)
    → before xs (and_then r (λ rest. Ok (behind x rest))) ≡ before (xs ++ x ∷ []) r
before_behind xs x (Ok t) = ap (λ ys. Ok (record { value = ys; next = t.next })) (sym (append_assoc xs (x ∷ []) t.value))
before_behind xs x (Err e) = refl

module _ {X : Type 0} (item : Item X) (text : List ℕ) (count line i at : ℕ) (xs : List X) where
  -- one line more
  pub lines_more : i < count → (t : Taken X) → line_at item (line + i) at text ≡ Ok t
      → before xs (lines_at item (count - i) (line + i) at text) ≡ before (xs ++ t.value ∷ []) (lines_at item (count - (i + 1)) (line + (i + 1)) t.next text)
  lines_more lt t e =
      let n : count - i ≡ suc (count - (i + 1)) = omega arith in
      ap (λ k. before xs (lines_at item k (line + i) at text)) n
      ∙ ap (λ r. before xs (and_then r (λ first. and_then (lines_at item (count - (i + 1)) (line + i + 1) first.next text) (λ rest. Ok (behind first.value rest))))) e
      ∙ before_behind xs t.value (lines_at item (count - (i + 1)) (line + i + 1) t.next text)
      ∙ ap (λ l. before (xs ++ t.value ∷ []) (lines_at item (count - (i + 1)) l t.next text)) (add_assoc line i 1)

-- what a loop over the lines keeps: the memory begins with what was read, and what is left gives the answer
abbrev pub Going : {X : Type 0} → Item X → (text : List ℕ) (count line from i at : ℕ) (memory : List X) → Type 0
Going item text count line from i at memory = before (take i memory) (lines_at item (count - i) (line + i) at text) ≡ lines_at item count line from text

module _ {X : Type 0} (item : Item X) (text : List ℕ) (count line from i at : ℕ) (memory : List X) where
  pub going_more : i < count → i < length memory → Going item text count line from i at memory → (t : Taken X) → line_at item (line + i) at text ≡ Ok t
      → Going item text count line from (i + 1) t.next (set memory i t.value)
  going_more lt room so t e =
      ap (λ ys. before ys (lines_at item (count - (i + 1)) (line + (i + 1)) t.next text)) (take_more_set memory i t.value room)
      ∙ sym (lines_more item text count line i at (take i memory) lt t e) ∙ so
