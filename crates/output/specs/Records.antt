-- Lines of a word and numbers, parted by commas.
use Rattle.std.specs.Prelude.{ℕ, List, [], ◌∷◌, ◌++◌, decimal}
use Rattle.std.specs.List.{flat_map}

-- each number in decimal digits behind a comma, the byte 44
abbrev pub number_fields : List ℕ → List ℕ
number_fields ns = flat_map (λ n. 44 ∷ decimal n) ns

-- the word, the numbers, and a line feed
abbrev pub record_line : (word numbers : List ℕ) → List ℕ
record_line word ns = word ++ (number_fields ns ++ 10 ∷ [])
