-- The text of the table that a view shows, and the three parts that it is written in.
use Rattle.std.specs.Prelude.{ℕ, ◌-◌, ◌/◌, ◌%◌, ◌^◌, cond, List, [], ◌∷◌, ◌++◌, decimal, ◌==◌}
use Rattle.std.specs.List.{flat_map}
use Rattle.table.specs.declared.place.Place.{Place}
use Rattle.table.specs.Names.{part_at}
use Rattle.table.specs.Tables.{line, cells, text_of}
use Rattle.view.specs.Views.{table_of}

-- the text of the table that a text, row words and places show
abbrev pub shown_text : (text words : List ℕ) → List Place → List ℕ
shown_text text words places = text_of (table_of text words places)

-- the first five lines: the letter B, an empty line, the number of rows, the number of signals, an empty line
abbrev pub head_text : (rows signals : ℕ) → List ℕ
head_text rows signals = 66 ∷ 10 ∷ 10 ∷ (line (decimal rows) ++ (line (decimal signals) ++ 10 ∷ []))

-- the lines of the names
abbrev pub names_text : List ℕ → List Place → List ℕ
names_text text places = flat_map (λ p. line (part_at text p)) places

-- the cell of signal i in a row of m signals: X (88) where the row contains the signal, else a full stop (46)
abbrev pub cell_of : (m w i : ℕ) → ℕ
cell_of m w i = cond (w / 2 ^ (m - 1 - i) % 2 == 1) 88 46

-- the lines of the rows
abbrev pub rows_text : (signals : ℕ) → List ℕ → List ℕ
rows_text signals words = flat_map (λ w. line (cells signals w)) words
