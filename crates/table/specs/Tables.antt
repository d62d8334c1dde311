-- Tables, and the text of a table.
--
-- A *table* has rows and signals. A row is a word: signal i of m belongs to the row exactly when the bit of weight 2 ^ (m - 1 - i) is 1.
use Rattle.std.specs.Prelude.{◌≡◌, ℕ, zero, suc, ◌+◌, ◌-◌, ◌/◌, ◌%◌, ◌^◌, ◌<◌, ◌≤◌, cond, List, [], ◌∷◌, ◌++◌, length, decimal, ◌==◌}
use Rattle.std.specs.List.{flat_map, AllByRecursion}
use Rattle.table.specs.Names.{Name}

pub record Table : Type 0 where
  pub words : List ℕ
  pub row_names : List (List ℕ)
  pub signal_names : List (List ℕ)

-- the table is within the limits: at most 512 rows and 60 signals, a name for each row, names that are names, and words of the signals' width
pub record Lawful (t : Table) : Type 0 where
  pub rows : length t.words ≤ 512
  pub signals : length t.signal_names ≤ 60
  pub named : length t.row_names ≡ length t.words
  pub row_named : AllByRecursion Name t.row_names
  pub signal_named : AllByRecursion Name t.signal_names
  pub narrow : AllByRecursion (λ w. w < 2 ^ length t.signal_names) t.words

-- the bytes of a line, and its line feed
abbrev pub line : List ℕ → List ℕ
line bs = bs ++ 10 ∷ []

-- the cells of the signals from i on, `count` of them, in a row of m signals: X (88) for a signal that the row contains, else a full stop (46)
abbrev pub cells_at : (m w i count : ℕ) → List ℕ
cells_at m w i zero = []
cells_at m w i (suc n) = cond (w / 2 ^ (m - 1 - i) % 2 == 1) 88 46 ∷ cells_at m w (i + 1) n

-- the cells of a row
abbrev pub cells : (m : ℕ) → ℕ → List ℕ
cells m w = cells_at m w 0 m

-- the text of a table: the letter B, an empty line, the number of rows, the number of signals, an empty line, the row names, the signal names, the rows
abbrev pub text_of : Table → List ℕ
text_of t =
    line (66 ∷ []) ++ (line [] ++ (line (decimal (length t.words)) ++ (line (decimal (length t.signal_names)) ++ (line []
    ++ (flat_map line t.row_names ++ (flat_map line t.signal_names
    ++ flat_map (λ w. line (cells (length t.signal_names) w)) t.words))))))
