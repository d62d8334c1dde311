-- What it means that a text is accepted: it begins with the text of a table.
use Rattle.std.specs.Prelude.{◌≡◌, ℕ, ◌+◌, ◌≤◌, List, ◌++◌, map, length, Ok, Err, Result}
use Rattle.table.specs.declared.faults.TableFault.{TableFault}
use Rattle.table.specs.Names.{part_at}
use Rattle.table.specs.Reading.{Contents, read_of}
use Rattle.table.specs.Tables.{Table, Lawful, text_of}

-- the text begins with the text of the table; the bytes behind it are the caller's
abbrev pub Begins : List ℕ → Table → Type 0
Begins text t = (rest : List ℕ) × (text ≡ text_of t ++ rest)

-- the text is to be accepted for this table: it has at most 65000 bytes, begins with the table's text, and there is room for a word a row and a place a name
pub record Fitting (text : List ℕ) (row_room place_room : ℕ) (t : Table) : Type 0 where
  pub lawful : Lawful t
  pub short : length text ≤ 65000
  pub begins : Begins text t
  pub rows_fit : length t.words ≤ row_room
  pub places_fit : length t.words + length t.signal_names ≤ place_room

-- what was read is the table: its words, its names byte for byte and in order, its signals, and the bytes of its text
pub record ReadAs (text : List ℕ) (c : Contents) (t : Table) : Type 0 where
  pub words : c.words ≡ t.words
  pub signals : c.signals ≡ length t.signal_names
  pub names : map (part_at text) c.places ≡ t.row_names ++ t.signal_names
  pub bytes : c.bytes ≡ length (text_of t)

-- granted: there is such a table, it was read, and no other lawful table's text begins the text
pub record Accepted (text : List ℕ) (row_room place_room : ℕ) (c : Contents) : Type 0 where
  pub table : Table
  pub fitting : Fitting text row_room place_room table
  pub read : ReadAs text c table
  pub only : (u : Table) → Lawful u → Begins text u → u ≡ table

-- a text is accepted exactly when there is a table to accept it for
abbrev pub Grammar : List ℕ → (row_room place_room : ℕ) → Result Contents TableFault → Type 0
Grammar text row_room place_room (Ok c) = Accepted text row_room place_room c
Grammar text row_room place_room (Err e) = (t : Table) → Fitting text row_room place_room t → ⊥

-- the text of a table, with whatever bytes behind it, is read as that table
abbrev pub ReadAgain : Table → Type 0
ReadAgain t = (rest : List ℕ) (row_room place_room : ℕ) → Fitting (text_of t ++ rest) row_room place_room t
    → (c : Contents) × (read_of (text_of t ++ rest) row_room place_room ≡ Ok c) × ReadAs (text_of t ++ rest) c t
