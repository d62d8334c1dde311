-- What the sections of a text that were read make together.
use Rattle.std.proofs.Common.{◌≡◌, ℕ, zero, suc, ◌+◌, ◌≤◌, ltb, List, [], length, take, Ok, Err, Result, sym, refl, ap, ◌∙◌, arith}
use Rattle.std.proofs.lemmas.List.{take_at}
use Rattle.std.proofs.lemmas.Bool.{cond-false, le-ltb}
use Rattle.table.specs.declared.faults.TableFault.{TableFault}
use Rattle.table.specs.declared.place.Place.{Place}
use Rattle.table.specs.Reading.{Taken, Head, Item, Contents, line_at, lines_at, and_then, behind, name_item, row_item, head_of, body_of, read_of, filled, bytes_of, answer_of, words_after, places_after, held}

-- as many values as lines
counted_behind : {X : Type 0} (n : ℕ) (x : X) (r : Result (Taken (List X)) TableFault) (t : Taken (List X))
    → ((u : Taken (List X)) → r ≡ Ok u → length u.value ≡ n) → and_then r (λ rest. Ok (behind x rest)) ≡ Ok t → length t.value ≡ suc n
counted_behind n x (Ok u) t h e =
    let same : behind x u ≡ t = cc in
    ap (λ v. length v.value) (sym same) ∙ ap suc (h u refl)
counted_behind n x (Err f) t h e = let z : ◌≡◌ {A = ℕ} 0 1 = cc in absurd (omega arith)

counted_first : {X : Type 0} (n : ℕ) (r : Result (Taken X) TableFault) (rest : Taken X → Result (Taken (List X)) TableFault) (t : Taken (List X))
    → ((first : Taken X) (u : Taken (List X)) → rest first ≡ Ok u → length u.value ≡ n)
    → and_then r (λ first. and_then (rest first) (λ more. Ok (behind first.value more))) ≡ Ok t → length t.value ≡ suc n
counted_first n (Ok first) rest t h e = counted_behind n first.value (rest first) t (h first) e
counted_first n (Err f) rest t h e = let z : ◌≡◌ {A = ℕ} 0 1 = cc in absurd (omega arith)

pub lines_count : {X : Type 0} (item : Item X) (n line at : ℕ) (text : List ℕ) (t : Taken (List X)) → lines_at item n line at text ≡ Ok t → length t.value ≡ n
lines_count item zero line at text t e = let same : record { value = []; next = at } ≡ t = cc in ap (λ v. length v.value) (sym same)
lines_count item (suc n) line at text t e =
    counted_first n (line_at item line at text) (λ first. lines_at item n (line + 1) first.next text) t
    (λ first u is. lines_count item n (line + 1) first.next text u is) e

-- behind a head that was read the rest is the body
pub read_behind : (text : List ℕ) (row_room place_room : ℕ) (h : Head) → length text ≤ 65000 → head_of text row_room place_room ≡ Ok h → read_of text row_room place_room ≡ body_of text h
read_behind text row_room place_room h short is =
    cond-false (ltb 65000 (length text)) _ _ (le-ltb 65000 (length text) short) ∙ ap (λ r. and_then r (body_of text)) is

rows_behind : (h : Head) (places : List Place) (r : Result (Taken (List ℕ)) TableFault) (bytes : ℕ)
    → ((t : Taken (List ℕ)) → r ≡ Ok t → length t.value ≡ h.rows)
    → Ok bytes ≡ bytes_of (and_then r (λ rows. Ok (record { words = rows.value; places = places; signals = h.signals; bytes = rows.next })))
    → Ok (record { rows = h.rows; signals = h.signals; bytes = bytes })
    ≡ answer_of (and_then r (λ rows. Ok (record { words = rows.value; places = places; signals = h.signals; bytes = rows.next })))
rows_behind h places (Ok t) bytes counted e =
    let same : bytes ≡ t.next = cc in
    ap (λ b. Ok (record { rows = h.rows; signals = h.signals; bytes = b })) same
    ∙ ap (λ n. Ok (record { rows = n; signals = h.signals; bytes = t.next })) (sym (counted t refl))
rows_behind h places (Err f) bytes counted e = let z : ◌≡◌ {A = ℕ} 0 1 = cc in absurd (omega arith)

names_behind : (text : List ℕ) (h : Head) (r : Result (Taken (List Place)) TableFault) (bytes : ℕ)
    → Ok bytes ≡ bytes_of (and_then r (λ ns. and_then (lines_at (row_item h.signals) h.rows (6 + (h.rows + h.signals)) ns.next text)
    (λ rs. Ok (record { words = rs.value; places = ns.value; signals = h.signals; bytes = rs.next }))))
    → Ok (record { rows = h.rows; signals = h.signals; bytes = bytes })
    ≡ answer_of (and_then r (λ ns. and_then (lines_at (row_item h.signals) h.rows (6 + (h.rows + h.signals)) ns.next text)
    (λ rs. Ok (record { words = rs.value; places = ns.value; signals = h.signals; bytes = rs.next }))))
names_behind text h (Ok ns) bytes e =
    rows_behind h ns.value (lines_at (row_item h.signals) h.rows (6 + (h.rows + h.signals)) ns.next text) bytes
    (lines_count (row_item h.signals) h.rows (6 + (h.rows + h.signals)) ns.next text) e
names_behind text h (Err f) bytes e = let z : ◌≡◌ {A = ℕ} 0 1 = cc in absurd (omega arith)

-- the answer tells the head's numbers and the body's end
pub answer_behind : (text : List ℕ) (h : Head) (bytes : ℕ) → Ok bytes ≡ bytes_of (body_of text h)
    → Ok (record { rows = h.rows; signals = h.signals; bytes = bytes }) ≡ answer_of (body_of text h)
answer_behind text h bytes = names_behind text h (lines_at name_item (h.rows + h.signals) 6 h.next text) bytes

-- the caller holds what was read
pub held_is : (r : Result Contents TableFault) (words : List ℕ) (places : List Place)
    → ((c : Contents) → r ≡ Ok c → length c.places ≡ length c.words + c.signals)
    → held (answer_of r) (words_after r words) (places_after r places) ≡ r
held_is (Ok c) words places many =
    ap (λ ws. Ok (record { words = ws; places = take (length c.words + c.signals) (filled c.places places); signals = c.signals; bytes = c.bytes }))
    (take_at c.words _ (length c.words) refl)
    ∙ ap (λ ps. Ok (record { words = c.words; places = ps; signals = c.signals; bytes = c.bytes }))
    (take_at c.places _ (length c.words + c.signals) (many c refl))
held_is (Err f) words places many = refl
