-- What a view of a table is made of, and the table that it shows.
use Rattle.std.specs.Prelude.{ℕ, ◌+◌, ◌-◌, ◌^◌, Bool, not, ◌&&◌, List, map, length, take, drop, is_some, nat_le, nat_lt, slice_index_or}
use Rattle.std.specs.List.{list_all}
use Rattle.table.specs.declared.place.Place.{Place}
use Rattle.table.specs.Names.{wrong_byte_of, part_at}
use Rattle.table.specs.Tables.{Table}

-- the place lies inside the text, and its bytes are a name
abbrev pub holds_name_at : List ℕ → Place → Bool
holds_name_at text p = nat_le (p.start + p.length) (length text) && not (is_some (wrong_byte_of (part_at text p)))

-- the parts are those of a table: as many places as rows and signals, within the limits, each word of the signals' width, each place with a name
abbrev pub fit : (text words : List ℕ) → List Place → Bool
fit text words places =
    nat_le (length words) 512 && (nat_le (length words) (length places) && (nat_le (length places - length words) 60
    && (list_all (λ w. nat_lt w (2 ^ (length places - length words))) words && list_all (holds_name_at text) places)))

-- no name: the empty part at 0
abbrev pub absent : Place
absent = record { start = 0; length = 0 }

-- the place of the name of row i among the places of g row names and then the signal names
abbrev pub row_place : (g : ℕ) → List Place → ℕ → Place
row_place g places i = slice_index_or (take g places) i absent

-- the place of the name of signal i
abbrev pub signal_place : (g : ℕ) → List Place → ℕ → Place
signal_place g places i = slice_index_or (drop g places) i absent

-- the table that a text, row words and places show
abbrev pub table_of : (text words : List ℕ) → List Place → Table
table_of text words places =
    record {
      words = words;
      row_names = map (part_at text) (take (length words) places);
      signal_names = map (part_at text) (drop (length words) places);
    }
