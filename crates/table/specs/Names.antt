-- Names: 1 to 40 bytes from 32 to 126, without a comma.
use Rattle.std.specs.Prelude.{◌≡◌, ℕ, ◌+◌, Bool, cond, not, ◌&&◌, List, [], ◌∷◌, length, take, drop, Some, None, Option, ◌==◌, nat_le}
use Rattle.table.specs.declared.place.Place.{Place}

-- a byte that a name may have
abbrev pub name_byte : ℕ → Bool
name_byte b = nat_le 32 b && (nat_le b 126 && not (b == 44))

-- the number of the first byte that a name may not have, in bytes numbered from `byte`
abbrev pub wrong_from : (byte : ℕ) → List ℕ → Option ℕ
wrong_from byte [] = None
wrong_from byte (b ∷ bs) = cond (name_byte b) (wrong_from (byte + 1) bs) (Some byte)

-- the byte, counted from 1, at which a line is no name; none if it is one
abbrev pub wrong_byte_of : List ℕ → Option ℕ
wrong_byte_of bs = cond (nat_le 1 (length bs) && nat_le (length bs) 40) (wrong_from 1 bs) (Some 1)

-- the part of a text at a place
abbrev pub part_at : List ℕ → Place → List ℕ
part_at text p = take p.length (drop p.start text)

-- these bytes are a name
abbrev pub Name : List ℕ → Type 0
Name bs = wrong_byte_of bs ≡ None
