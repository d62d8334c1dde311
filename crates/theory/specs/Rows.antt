-- Rows of a table, and the closure that they give.
--
--   row      a set: the signals marked on one line of a table
--   common   the signals shared by all rows that contain a given set
--   holds    said of a premise and a conclusion: each row that contains the one contains the other
use Rattle.std.specs.Prelude.{◌≡◌, ℕ, ◌-◌, ◌^◌, cond, List, [], ◌∷◌, ◌==◌, bit_and}
use mathlib.Core.List.{Memᴰ}
use Rattle.theory.specs.Words.{Sub}

-- the signals common to all rows that contain x; all m signals where no row does
abbrev pub common : (m : ℕ) (rows : List ℕ) (x : ℕ) → ℕ
common m [] x = 2 ^ m - 1
common m (r ∷ rows) x = cond (bit_and x r == x) (bit_and r (common m rows x)) (common m rows x)

-- x is the intersection of some chosen rows: their signals in common, since each contains the empty set 0; that of no rows has all m signals
pub record Intersection (m : ℕ) (rows : List ℕ) (x : ℕ) : Type 0 where
  pub chosen : List ℕ
  pub among : (r : ℕ) → Memᴰ r chosen → Memᴰ r rows
  pub shared : common m chosen 0 ≡ x

-- each row that contains the premise contains the conclusion
abbrev pub Holds : (rows : List ℕ) (premise conclusion : ℕ) → Type 0
Holds rows premise conclusion = (r : ℕ) → Memᴰ r rows → Sub premise r → Sub conclusion r
