-- Reading a table text, line by line: the answer, or the first fault. Lines count from 1, positions from 0.
use Rattle.std.specs.Prelude.{ℕ, zero, suc, ◌+◌, ◌-◌, ◌*◌, cond, ◌||◌, List, [], ◌∷◌, ◌++◌, length, take, drop, Some, None, Ok, Err, Option, Result, ◌==◌, nat_le, nat_lt}
use Rattle.text.specs.declared.faults.FieldFault.{FieldFault}
use Rattle.text.specs.Lines.{line_end_of}
use Rattle.text.specs.Numbers.{number_of}
use Rattle.table.specs.declared.faults.TableFault.{TableFault}
use Rattle.table.specs.declared.faults.TableFault.TheVariants.{Field, TooLong, NotB, NotEmpty, TooMany, NoRoom, NotName, CellCount, NotCell}
use Rattle.table.specs.declared.place.Place.{Place}
use Rattle.table.specs.declared.read.Reading.{Reading}
use Rattle.table.specs.Names.{wrong_byte_of}

-- go on with the value, or stop at the fault
abbrev pub and_then : {X Y : Type 0} → Result X TableFault → (X → Result Y TableFault) → Result Y TableFault
and_then (Ok x) f = f x
and_then (Err e) f = Err e

-- a fault of a field, inside a fault of the table
abbrev pub raised : {X : Type 0} → Result X FieldFault → Result X TableFault
raised (Ok x) = Ok x
raised (Err e) = Err (Field e)

-- an item is what a line must be: from its number, the position of its first byte and its bytes, a value or a fault
abbrev pub Item : Type 0 → Type 0
Item X = (line at : ℕ) → List ℕ → Result X TableFault

-- a value that was read, and the position behind its last line
pub record Taken (X : Type 0) : Type 0 where
  pub value : X
  pub next : ℕ

-- the line at a position, read as an item
abbrev pub line_at : {X : Type 0} → Item X → (line at : ℕ) → List ℕ → Result (Taken X) TableFault
line_at item line at text =
    and_then (raised (line_end_of line at text))
    (λ end. and_then (item line at (take (end - at) (drop at text)))
    (λ v. Ok (record { value = v; next = end + 1 })))

-- one more value in front
abbrev pub behind : {X : Type 0} → X → Taken (List X) → Taken (List X)
behind x t = record { value = x ∷ t.value; next = t.next }

-- `count` lines from a position on, each read as an item
abbrev pub lines_at : {X : Type 0} → Item X → (count line at : ℕ) → List ℕ → Result (Taken (List X)) TableFault
lines_at item zero line at text = Ok (record { value = []; next = at })
lines_at item (suc n) line at text =
    and_then (line_at item line at text)
    (λ first. and_then (lines_at item n (line + 1) first.next text) (λ rest. Ok (behind first.value rest)))

-- lines that were read, by where they end and what was kept of them
abbrev pub kept_as : {X : Type 0} → Result ℕ TableFault → List X → Result (Taken (List X)) TableFault
kept_as (Ok next) values = Ok (record { value = values; next = next })
kept_as (Err e) values = Err e

-- the letter B, the byte 66, alone
abbrev pub letter_item : Item (Unit {0})
letter_item line at [] = Err NotB
letter_item line at (b ∷ []) = cond (b == 66) (Ok tt) (Err NotB)
letter_item line at (b ∷ c ∷ bs) = Err NotB

-- nothing
abbrev pub empty_item : Item (Unit {0})
empty_item line at [] = Ok tt
empty_item line at (b ∷ bs) = Err (NotEmpty line)

-- a number up to a limit
abbrev pub size_item : (limit : ℕ) → Item ℕ
size_item limit line at bytes = and_then (raised (number_of line bytes)) (λ n. cond (nat_le n limit) (Ok n) (Err (TooMany line)))

-- a name: the place where it stands
abbrev pub placed : (line at : ℕ) → List ℕ → Option ℕ → Result Place TableFault
placed line at bytes None = Ok (record { start = at; length = length bytes })
placed line at bytes (Some byte) = Err (NotName line byte)

abbrev pub name_item : Item Place
name_item line at bytes = placed line at bytes (wrong_byte_of bytes)

-- the row's word. A cell is X (88) where the row contains the signal, and the full stop (46) where it does not; each is one more binary digit behind `word`, and `byte` is the next byte's number
abbrev pub cells_from : (line word byte : ℕ) → List ℕ → Result ℕ TableFault
cells_from line word byte [] = Ok word
cells_from line word byte (b ∷ bs) =
    cond (b == 88) (cells_from line (word * 2 + 1) (byte + 1) bs)
    (cond (b == 46) (cells_from line (word * 2) (byte + 1) bs)
    (Err (NotCell line byte)))

-- a row of cells, one for each signal
abbrev pub row_item : (signals : ℕ) → Item ℕ
row_item signals line at bytes = cond (length bytes == signals) (cells_from line 0 1 bytes) (Err (CellCount line))

-- what a text holds: a word for each row, the places of the row names and then of the signal names, the number of signals, and the bytes taken
pub record Contents : Type 0 where
  pub words : List ℕ
  pub places : List Place
  pub signals : ℕ
  pub bytes : ℕ

-- room for a word a row and a place a name
abbrev pub room_for : (rows signals row_room place_room : ℕ) → Result (Unit {0}) TableFault
room_for g m row_room place_room = cond (nat_lt row_room g || nat_lt place_room (g + m)) (Err NoRoom) (Ok tt)

-- what the first five lines give: the numbers of rows and signals, and the position of the names
pub record Head : Type 0 where
  pub rows : ℕ
  pub signals : ℕ
  pub next : ℕ

-- the first five lines, and the room that they ask for
abbrev pub head_of : List ℕ → (row_room place_room : ℕ) → Result Head TableFault
head_of text row_room place_room =
    and_then (line_at letter_item 1 0 text) (λ b.
    and_then (line_at empty_item 2 b.next text) (λ e.
    and_then (line_at (size_item 512) 3 e.next text) (λ g.
    and_then (line_at (size_item 60) 4 g.next text) (λ m.
    and_then (room_for g.value m.value row_room place_room) (λ _.
    and_then (line_at empty_item 5 m.next text) (λ e2.
    Ok (record { rows = g.value; signals = m.value; next = e2.next })))))))

-- the names and the rows behind the first five lines
abbrev pub body_of : List ℕ → Head → Result Contents TableFault
body_of text h =
    and_then (lines_at name_item (h.rows + h.signals) 6 h.next text) (λ names.
    and_then (lines_at (row_item h.signals) h.rows (6 + (h.rows + h.signals)) names.next text) (λ rows.
    Ok (record { words = rows.value; places = names.value; signals = h.signals; bytes = rows.next })))

-- what reading a text answers, given how many row words and name places there are to fill
abbrev pub read_of : List ℕ → (row_room place_room : ℕ) → Result Contents TableFault
read_of text row_room place_room =
    cond (nat_lt 65000 (length text)) (Err TooLong) (and_then (head_of text row_room place_room) (body_of text))

-- what reading a text into row words and name places answers
abbrev pub read_into : (text words : List ℕ) → List Place → Result Contents TableFault
read_into text words places = read_of text (length words) (length places)

-- where the table's text ends
abbrev pub bytes_of : Result Contents TableFault → Result ℕ TableFault
bytes_of (Ok c) = Ok c.bytes
bytes_of (Err e) = Err e

-- what reading tells: the numbers of rows and signals, and the bytes taken
abbrev pub answer_of : Result Contents TableFault → Result Reading TableFault
answer_of (Ok c) = Ok (record { rows = length c.words; signals = c.signals; bytes = c.bytes })
answer_of (Err e) = Err e

-- memory after its front was filled; the rest is kept
abbrev pub filled : {X : Type 0} → List X → List X → List X
filled new old = new ++ drop (length new) old

-- what the row words hold after reading; a refusal leaves them as they were
abbrev pub words_after : Result Contents TableFault → List ℕ → List ℕ
words_after (Ok c) old = filled c.words old
words_after (Err e) old = old

-- what the name places hold after reading; a refusal leaves them as they were
abbrev pub places_after : Result Contents TableFault → List Place → List Place
places_after (Ok c) old = filled c.places old
places_after (Err e) old = old

-- what the caller now holds: the answer, and the fronts of the row words and the name places
abbrev pub held : Result Reading TableFault → List ℕ → List Place → Result Contents TableFault
held (Ok a) words places =
    Ok (record { words = take a.rows words; places = take (a.rows + a.signals) places; signals = a.signals; bytes = a.bytes })
held (Err e) words places = Err e
