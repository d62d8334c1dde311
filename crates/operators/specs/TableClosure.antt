-- The closure that the rows of a table give.
use Rattle.std.specs.Prelude.{◌≡◌, ℕ, ◌-◌, ◌<◌, true, ◌↔◌, List, length}
use mathlib.Core.List.{Memᴰ}
use Rattle.table.specs.declared.place.Place.{Place}
use Rattle.theory.specs.Closures.{Closure}
use Rattle.theory.specs.Rows.{common}
use Rattle.theory.specs.Words.{Has, Sub}
use Rattle.theory.proofs.Rows.{common_closure}
use Rattle.view.specs.Shown.{signal_count}
use Rattle.view.specs.Views.{fit}
use Rattle.view.specs.declared.table_view.TableView.{TableView}
use Rattle.view.proofs.Laws.{fit_parts}

-- the number of signals of a table: a place for each name that is not that of a row
abbrev pub signals_of : (words : List ℕ) (places : List Place) → ℕ
signals_of words places = length places - length words

-- what the closure over a table gives: the signals common to all rows that contain x
abbrev pub closure_in : TableView → (x : ℕ) → ℕ
closure_in view x = common (signal_count view) view.words.now x

-- y has just the signals, of m, that every row that contains x has
abbrev pub Shared : (m : ℕ) (rows : List ℕ) (x y : ℕ) → Type 0
Shared m rows x y = (i : ℕ) → i < m → Has m i y ↔ ((r : ℕ) → Memᴰ r rows → Sub x r → Has m i r)

-- the signals common to the rows are a closure operator
pub rows_close :
    (text words : List ℕ) (places : List Place) → fit text words places ≡ true
    → Closure (signals_of words places) (common (signals_of words places) words)
rows_close text words places fits =
    common_closure (signals_of words places) words (fit_parts text words places fits).signals
