-- Names that a query gives, and the signals that they mean.
--
--   means   said of a name: the lowest-numbered signal that has it
use Rattle.std.specs.Prelude.{ℕ, ◌+◌, ◌-◌, ◌^◌, cond, List, [], ◌∷◌, length, Some, None, Ok, Err, Option, Result, bit_or}
use Rattle.std.specs.Str.{bytes_eq}
use Rattle.query.specs.declared.faults.QueryFault.{QueryFault}
use Rattle.query.specs.declared.faults.QueryFault.TheVariants.{NoName}
use Rattle.query.specs.Fields.{Field}

-- the lowest-numbered signal with these bytes for its name, among the names of the signals from i on
abbrev pub named_from : (i : ℕ) → (names : List (List ℕ)) → (bytes : List ℕ) → Option ℕ
named_from i [] bytes = None
named_from i (name ∷ names) bytes = cond (bytes_eq name bytes) (Some i) (named_from (i + 1) names bytes)

-- the lowest-numbered signal with these bytes for its name
abbrev pub signal_named : (names : List (List ℕ)) → (bytes : List ℕ) → Option ℕ
signal_named names bytes = named_from 0 names bytes

-- the set of one signal of m, or the refusal of a name at this line and byte
abbrev pub found_word : (m line byte : ℕ) → Option ℕ → Result ℕ QueryFault
found_word m line byte None = Err (NoName line byte)
found_word m line byte (Some i) = Ok (2 ^ (m - 1 - i))

-- the set of the signal that a field names
abbrev pub name_word_of : (names : List (List ℕ)) → (line : ℕ) → Field → Result ℕ QueryFault
name_word_of names line f = found_word (length names) line f.byte (signal_named names f.bytes)

-- a result carried on, or its refusal
abbrev pub and_then : {X Y E : Type 0} → Result X E → (X → Result Y E) → Result Y E
and_then (Ok x) next = next x
and_then (Err e) next = Err e

-- the set with the signals that the fields name, or the refusal of the first name that no signal has
abbrev pub with_names : (names : List (List ℕ)) → (line word : ℕ) → List Field → Result ℕ QueryFault
with_names names line word [] = Ok word
with_names names line word (f ∷ fs) = and_then (name_word_of names line f) (λ bit. with_names names line (bit_or word bit) fs)
