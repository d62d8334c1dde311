-- Bytes put into an output, a list of bytes that keeps its length, at a position counted from 0.
use Rattle.std.specs.Prelude.{ℕ, ◌+◌, Bool, cond, List, ◌++◌, length, take, drop, Ok, Err, Result, nat_le}
use Rattle.output.specs.declared.faults.OutputFault.{OutputFault}
use Rattle.output.specs.declared.faults.OutputFault.TheVariants.{Full}

-- the output has room for the bytes at position `at`
abbrev pub fits_at : (at : ℕ) → (bytes out : List ℕ) → Bool
fits_at at bytes out = nat_le (at + length bytes) (length out)

-- the output with the bytes at position `at`, and the rest as before
abbrev pub put_at : (at : ℕ) → (bytes out : List ℕ) → List ℕ
put_at at bytes out = take at out ++ (bytes ++ drop (at + length bytes) out)

-- what is answered: the position behind the bytes, or that they do not fit
abbrev pub put_answer_of : (at : ℕ) → (bytes out : List ℕ) → Result ℕ OutputFault
put_answer_of at bytes out = cond (fits_at at bytes out) (Ok (at + length bytes)) (Err Full)

-- the output afterwards: as before where the bytes do not fit
abbrev pub after_put : (at : ℕ) → (bytes out : List ℕ) → List ℕ
after_put at bytes out = cond (fits_at at bytes out) (put_at at bytes out) out
