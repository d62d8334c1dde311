-- Fields of a line, parted by commas, the byte 44.
use Rattle.std.specs.Prelude.{ℕ, ◌+◌, ◌-◌, cond, List, [], ◌∷◌, take, drop, ◌==◌}

-- a field: the byte of its line where it starts, counted from 1, and its bytes
pub record Field : Type 0 where
  pub byte : ℕ
  pub bytes : List ℕ

-- the fields with one byte more before the first, which then starts at `at`
abbrev pub longer : (at b : ℕ) → List Field → List Field
longer at b [] = []
longer at b (f ∷ fs) = record { byte = at; bytes = b ∷ f.bytes } ∷ fs

-- the fields of bytes that begin at byte `at` of a line
abbrev pub fields_from : (at : ℕ) → List ℕ → List Field
fields_from at [] = record { byte = at; bytes = [] } ∷ []
fields_from at (b ∷ bs) = cond (b == 44) (record { byte = at; bytes = [] } ∷ fields_from (at + 1) bs) (longer at b (fields_from (at + 1) bs))

-- the fields of a line
abbrev pub fields_of : List ℕ → List Field
fields_of line = fields_from 1 line

-- where the first comma stands in bytes that begin at position `at`, or where they end
abbrev pub comma_from : (at : ℕ) → List ℕ → ℕ
comma_from at [] = at
comma_from at (b ∷ bs) = cond (b == 44) at (comma_from (at + 1) bs)

-- where the field that begins at position `at` of a line ends
abbrev pub field_end_of : (at : ℕ) → List ℕ → ℕ
field_end_of at line = comma_from at (drop at line)

-- the field from position `start` to position `end` of a line
abbrev pub field_at : (start end : ℕ) → List ℕ → Field
field_at start end line = record { byte = start + 1; bytes = take (end - start) (drop start line) }

-- the fields of what is left of a line at position `at`: none at its end, else those behind the comma that stands there
abbrev pub rest_from : (at : ℕ) → List ℕ → List Field
rest_from at [] = []
rest_from at (b ∷ bs) = fields_from (at + 2) bs

-- the fields behind the one that ends at position `at` of a line
abbrev pub fields_behind : (at : ℕ) → List ℕ → List Field
fields_behind at line = rest_from at (drop at line)
