-- Counting down the room for a line of a word and numbers.
use Rattle.std.proofs.Common.{◌≡◌, ℕ, ◌+◌, ◌-◌, ◌<◌, ◌≤◌, true, false, leb, ◌⊎◌, List, [], ◌∷◌, length, get_or, drop, decimal, sym, ap, ◌∙◌, inl, inr, arith}
use Rattle.std.proofs.lemmas.List.{at_drop_more, at_drop_all, length-append}
use Rattle.std.proofs.lemmas.Bool.{cases_lt, le-leb, lt-leb}
use Rattle.output.specs.Records.{record_line, number_fields}

-- two tests with one meaning have one answer
leb_same : (a b c d : ℕ) → (a ≤ b → c ≤ d) → (b < a → d < c) → leb a b ≡ leb c d
leb_same a b c d yes-too no-too = by_order (cases_lt b a)
  where
    by_order : (b < a) ⊎ (a ≤ b) → leb a b ≡ leb c d
    by_order (inl lt) = lt-leb a b lt ∙ sym (lt-leb c d (no-too lt))
    by_order (inr le) = le-leb a b le ∙ sym (le-leb c d (yes-too le))

pub length_record : (word ns : List ℕ) → length (record_line word ns) ≡ length word + (length (number_fields ns) + 1)
length_record word ns = length-append word _ ∙ ap (λ n. length word + n) (length-append (number_fields ns) (10 ∷ []))

-- what a loop over the numbers keeps: the fields left fit the room left exactly when the line fits
abbrev pub Counting : (word ns : List ℕ) (left i room : ℕ) → Type 0
Counting word ns left i room = leb (length (number_fields (drop i ns))) room ≡ leb (length (record_line word ns)) left

pub room_start : (word ns : List ℕ) (left : ℕ) → length word < left → Counting word ns left 0 (left - length word - 1)
room_start word ns left lt =
    leb_same (length (number_fields ns)) (left - length word - 1) (length (record_line word ns)) left
    (λ le. omega (arith, length_record word ns)) (λ less. omega (arith, length_record word ns))

pub room_short : (word ns : List ℕ) (left : ℕ) → left ≤ length word → false ≡ leb (length (record_line word ns)) left
room_short word ns left le = sym (lt-leb _ _ (omega (arith, length_record word ns)))

module _ (word ns : List ℕ) (left i room : ℕ) (within : i < length ns) where
  next_length : length (number_fields (drop i ns)) ≡ length (decimal (get_or ns i 0)) + 1 + length (number_fields (drop (i + 1) ns))
  next_length =
      let e = at_drop_more number_fields ns i 0 within in
      ap length e ∙ omega (arith, length-append (44 ∷ decimal (get_or ns i 0)) (number_fields (drop (i + 1) ns)))

  pub room_more : length (decimal (get_or ns i 0)) + 1 ≤ room → Counting word ns left i room → Counting word ns left (i + 1) (room - (length (decimal (get_or ns i 0)) + 1))
  room_more fits so =
      leb_same (length (number_fields (drop (i + 1) ns))) (room - (length (decimal (get_or ns i 0)) + 1)) (length (number_fields (drop i ns))) room
      (λ le. omega (arith, next_length)) (λ less. omega (arith, next_length))
      ∙ so

  pub room_none : room < length (decimal (get_or ns i 0)) + 1 → Counting word ns left i room → false ≡ leb (length (record_line word ns)) left
  room_none short so = sym (lt-leb (length (number_fields (drop i ns))) room (omega (arith, next_length))) ∙ so

pub room_all : (word ns : List ℕ) (left i room : ℕ) → length ns ≤ i → Counting word ns left i room → true ≡ leb (length (record_line word ns)) left
room_all word ns left i room all so =
    sym (le-leb (length (number_fields (drop i ns))) room (omega (arith, ap length (at_drop_all number_fields ns i all)))) ∙ so
