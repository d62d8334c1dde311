-- What a view shows, and how it is written.
use Rattle.std.specs.Prelude.{ℕ, ◌-◌, List, length}
use Rattle.table.specs.Tables.{Table}
use Rattle.view.specs.Texts.{names_text, rows_text, shown_text}
use Rattle.view.specs.Views.{table_of}
use Rattle.view.specs.declared.table_view.TableView.{TableView}

-- the number of signals: the places that are not those of row names
abbrev pub signal_count : TableView → ℕ
signal_count view = length view.places.now - length view.words.now

-- the table that the view shows
abbrev pub shown : TableView → Table
shown view = table_of view.text.now view.words.now view.places.now

-- the names of its signals
abbrev pub signal_names : TableView → List (List ℕ)
signal_names view = (shown view).signal_names

-- the text of that table
abbrev pub table_text : TableView → List ℕ
table_text view = shown_text view.text.now view.words.now view.places.now

-- its lines of names
abbrev pub name_lines : TableView → List ℕ
name_lines view = names_text view.text.now view.places.now

-- its lines of rows
abbrev pub row_lines : TableView → List ℕ
row_lines view = rows_text (signal_count view) view.words.now
