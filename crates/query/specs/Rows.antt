-- Whether an implication holds in the rows of a table, by a test of each row.
use Rattle.std.specs.Prelude.{ℕ, Bool, true, false, cond, not, ◌&&◌, List, [], ◌∷◌, ◌==◌, bit_and}

-- the row contains the set
abbrev pub contains : (row set : ℕ) → Bool
contains row set = (bit_and set row) == set

-- the row contains the premise and not the conclusion
abbrev pub breaks : (row premise conclusion : ℕ) → Bool
breaks row premise conclusion = contains row premise && not (contains row conclusion)

-- no row contains the premise and not the conclusion
abbrev pub holds_in_rows : (rows : List ℕ) (premise conclusion : ℕ) → Bool
holds_in_rows [] premise conclusion = true
holds_in_rows (row ∷ rows) premise conclusion = cond (breaks row premise conclusion) false (holds_in_rows rows premise conclusion)
