-- A trial: the closure of a set that is wanted only where it brings no signal above a bit, that is with a lower number.
use Rattle.std.specs.Prelude.{◌≡◌, ℕ, suc, ◌/◌, ◌^◌, Some, None, Option}
use Rattle.sets.specs.declared.set.Set.{Set}

-- a and b have the same signals above the bit
abbrev pub Alike : (bit a b : ℕ) → Type 0
Alike bit a b = a / 2 ^ suc bit ≡ b / 2 ^ suc bit

-- what a trial of an operator of width `span` and closure c finds: the closure, or none where it brings a signal above the bit; a set of another width is given back
abbrev pub Tried : (span : ℕ) (c : ℕ → ℕ) (set : Set) (bit : ℕ) → Option Set → Type 0
Tried span c set bit None = (set.width ≡ span) × (Alike bit (c set.word) set.word → ⊥)
Tried span c set bit (Some found) =
    (found.width ≡ set.width) × (set.width ≡ span → (found.word ≡ c set.word) × Alike bit (c set.word) set.word)
    × ((set.width ≡ span → ⊥) → found ≡ set)
