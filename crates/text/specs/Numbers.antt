-- Numbers from 0 to 9999 as a line or a field writes them: one to four digits, with no leading zero except for 0 itself.
use Rattle.std.specs.Prelude.{ℕ, ◌+◌, ◌-◌, ◌*◌, cond, ◌&&◌, List, [], ◌∷◌, Ok, Err, Result, ◌==◌, nat_lt}
use Rattle.std.specs.Char.{is_ascii_digit}
use Rattle.text.specs.declared.faults.FieldFault.{FieldFault}
use Rattle.text.specs.declared.faults.FieldFault.TheVariants.{NoNumber}

-- the number of `value` followed by more digits, of which `count` are read; the first byte that is no digit, or a fifth digit, is wrong
abbrev pub digits_from : (line value count : ℕ) → List ℕ → Result ℕ FieldFault
digits_from line value count [] = Ok value
digits_from line value count (b ∷ bs) =
    cond (nat_lt count 4 && is_ascii_digit b)
    (digits_from line (value * 10 + (b - 48)) (count + 1) bs)
    (Err (NoNumber line (count + 1)))

-- after a first digit 0 nothing may follow
abbrev pub zero_then : (line : ℕ) → List ℕ → Result ℕ FieldFault
zero_then line [] = Ok 0
zero_then line (b ∷ bs) = Err (NoNumber line 1)

-- the number that the bytes of a line write
abbrev pub number_of : (line : ℕ) → List ℕ → Result ℕ FieldFault
number_of line [] = Err (NoNumber line 1)
number_of line (b ∷ bs) = cond (b == 48) (zero_then line bs) (digits_from line 0 0 (b ∷ bs))
