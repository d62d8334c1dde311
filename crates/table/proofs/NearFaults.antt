-- Every refusal of reading has a line and a byte of at most five digits.
use Rattle.std.proofs.Common.{◌≡◌, ℕ, zero, suc, ◌+◌, ◌-◌, ◌*◌, ◌<◌, ◌≤◌, cond, ◌&&◌, ◌||◌, eqb, ltb, leb, List, [], ◌∷◌, length, take, drop, IfSome, IfErr, Some, None, Ok, Err, Option, Result, sym, subst, arith, MatchResult}
use Rattle.std.specs.Char.{is_ascii_digit}
use Rattle.std.proofs.lemmas.Bool.{cond_both, and_parts, ltb-true, leb-true, eqb-true}
use Rattle.fault.specs.Layers.{Near}
use Rattle.text.specs.declared.faults.FieldFault.{FieldFault}
use Rattle.text.specs.Faults as fields
use Rattle.text.specs.Lines.{feed_from, line_end_of}
use Rattle.text.specs.Numbers.{digits_from, zero_then, number_of}
use Rattle.table.specs.declared.faults.TableFault.{TableFault}
use Rattle.table.specs.declared.faults.TableFault.TheVariants.{TooLong, NotB, TooMany, NoRoom, CellCount}
use Rattle.table.specs.declared.place.Place.{Place}
use Rattle.table.specs.declared.read.Reading.{Reading}
use Rattle.table.specs.Faults.{fault_of}
use Rattle.table.specs.Names.{name_byte, wrong_from, wrong_byte_of}
use Rattle.table.specs.Reading.{Taken, Head, and_then, raised, Item, line_at, lines_at, behind, letter_item, empty_item, size_item, placed, name_item, cells_from, row_item, Contents, room_for, head_of, body_of, read_of, answer_of}

-- a value of which P holds, or a fault of a field that is near
abbrev NearField : {X : Type 0} → (X → Type 0) → Result X FieldFault → Type 0
NearField P r = MatchResult r P (λ e. Near (fields.fault_of e))

-- a value of which P holds, or a fault that is near
abbrev NearOr : {X : Type 0} → (X → Type 0) → Result X TableFault → Type 0
NearOr P r = MatchResult r P (λ e. Near (fault_of e))

-- of a value nothing is said
abbrev Any : (X : Type 0) → X → Type 0
Any X x = Unit {0}

-- a chain is near where its first part is, and the rest behind each value of it
then_near : {X Y : Type 0} (P : X → Type 0) (Q : Y → Type 0) (r : Result X TableFault) (f : X → Result Y TableFault)
    → NearOr P r → ((x : X) → P x → NearOr Q (f x)) → NearOr Q (and_then r f)
then_near P Q (Ok x) f p q = q x p
then_near P Q (Err e) f p q = p

raised_near : {X : Type 0} (P : X → Type 0) (r : Result X FieldFault) → NearField P r → NearOr P (raised r)
raised_near P (Ok x) p = p
raised_near P (Err e) p = p

-- the line feed that is not found
feed_near : (l at : ℕ) (xs : List ℕ) → l < 2000 → NearField (Any ℕ) (feed_from l at xs)
feed_near l at [] lt = record { line = omega arith; byte = omega arith }
feed_near l at (b ∷ xs) lt = cond_both (eqb b 10) _ _ (NearField (Any ℕ)) (λ _. tt) (λ _. feed_near l (at + 1) xs lt)

-- a number's first wrong byte is at most its fifth
digits_near : (l value count : ℕ) (bs : List ℕ) → l < 2000 → count ≤ 4 → NearField (Any ℕ) (digits_from l value count bs)
digits_near l value count [] lt le = tt
digits_near l value count (b ∷ bs) lt le =
    cond_both (ltb count 4 && is_ascii_digit b) _ _ (NearField (Any ℕ))
    (λ e. digits_near l (value * 10 + (b - 48)) (count + 1) bs lt (omega (arith, ltb-true count 4 (and_parts (ltb count 4) (is_ascii_digit b) e).0)))
    (λ _. record { line = omega arith; byte = omega arith })

zero_near : (l : ℕ) (bs : List ℕ) → l < 2000 → NearField (Any ℕ) (zero_then l bs)
zero_near l [] lt = tt
zero_near l (b ∷ bs) lt = record { line = omega arith; byte = omega arith }

number_near : (l : ℕ) (bs : List ℕ) → l < 2000 → NearField (Any ℕ) (number_of l bs)
number_near l [] lt = record { line = omega arith; byte = omega arith }
number_near l (b ∷ bs) lt =
    cond_both (eqb b 48) (zero_then l bs) (digits_from l 0 0 (b ∷ bs)) (NearField (Any ℕ)) (λ _. zero_near l bs lt) (λ _. digits_near l 0 0 (b ∷ bs) lt (omega arith))

-- an item is near on every line of a table text
abbrev NearItem : {X : Type 0} → (X → Type 0) → Item X → Type 0
NearItem P item = (l at : ℕ) (bs : List ℕ) → l < 2000 → NearOr P (item l at bs)

line_near : {X : Type 0} (P : X → Type 0) (item : Item X) → NearItem P item → (l at : ℕ) (text : List ℕ) → l < 2000 → NearOr (λ (t : Taken X). P t.value) (line_at item l at text)
line_near {X} P item near l at text lt =
    then_near (Any ℕ) (λ (t : Taken X). P t.value) (raised (line_end_of l at text)) (λ end. and_then (item l at (take (end - at) (drop at text))) (λ v. Ok (record { value = v; next = end + 1 })))
    (raised_near (Any ℕ) (line_end_of l at text) (feed_near l at (drop at text) lt))
    (λ end _. then_near P (λ (t : Taken X). P t.value) (item l at (take (end - at) (drop at text))) (λ v. Ok (record { value = v; next = end + 1 })) (near l at (take (end - at) (drop at text)) lt) (λ v p. p))

lines_near : {X : Type 0} (P : X → Type 0) (item : Item X) → NearItem P item → (count l at : ℕ) (text : List ℕ) → l + count < 2000 → NearOr (Any (Taken (List X))) (lines_at item count l at text)
lines_near P item near zero l at text lt = tt
lines_near {X} P item near (suc n) l at text lt =
    then_near (λ (t : Taken X). P t.value) (Any (Taken (List X))) (line_at item l at text) (λ first. and_then (lines_at item n (l + 1) first.next text) (λ rest. Ok (behind first.value rest)))
    (line_near P item near l at text (omega arith))
    (λ first _. then_near (Any (Taken (List X))) (Any (Taken (List X))) (lines_at item n (l + 1) first.next text) (λ rest. Ok (behind first.value rest))
    (lines_near P item near n (l + 1) first.next text (omega arith)) (λ _ _. tt))

letter_near : NearItem (Any (Unit {0})) letter_item
letter_near l at [] lt = record { line = omega arith; byte = omega arith }
letter_near l at (b ∷ []) lt = cond_both (eqb b 66) (Ok tt) (Err NotB) (NearOr (Any (Unit {0}))) (λ _. tt) (λ _. record { line = omega arith; byte = omega arith })
letter_near l at (b ∷ c ∷ bs) lt = record { line = omega arith; byte = omega arith }

empty_near : NearItem (Any (Unit {0})) empty_item
empty_near l at [] lt = tt
empty_near l at (b ∷ bs) lt = record { line = omega arith; byte = omega arith }

-- a size that was read is within its limit
size_near : (limit : ℕ) → NearItem (λ n. n ≤ limit) (size_item limit)
size_near limit l at bs lt =
    then_near (Any ℕ) (λ n. n ≤ limit) (raised (number_of l bs)) (λ n. cond (leb n limit) (Ok n) (Err (TooMany l)))
    (raised_near (Any ℕ) (number_of l bs) (number_near l bs lt))
    (λ n _. cond_both (leb n limit) (Ok n) (Err (TooMany l)) (NearOr (λ k. k ≤ limit)) (λ e. leb-true n limit e) (λ _. record { line = omega arith; byte = omega arith }))

-- no byte is wrong, or one that is near
abbrev NearByte : Option ℕ → Type 0
NearByte o = IfSome o (λ n. n < 2000)

wrong_near : (byte : ℕ) (bs : List ℕ) → byte + length bs ≤ 41 → NearByte (wrong_from byte bs)
wrong_near byte [] le = tt
wrong_near byte (b ∷ bs) le = cond_both (name_byte b) (wrong_from (byte + 1) bs) (Some byte) NearByte (λ _. wrong_near (byte + 1) bs (omega arith)) (λ _. omega arith)

placed_near : (l at : ℕ) (bs : List ℕ) (o : Option ℕ) → l < 2000 → NearByte o → NearOr (Any Place) (placed l at bs o)
placed_near l at bs None lt p = tt
placed_near l at bs (Some n) lt p = record { line = omega arith; byte = omega arith }

name_near : NearItem (Any Place) name_item
name_near l at bs lt =
    placed_near l at bs (wrong_byte_of bs) lt
    (cond_both (leb 1 (length bs) && leb (length bs) 40) (wrong_from 1 bs) (Some 1) NearByte
    (λ e. wrong_near 1 bs (omega (arith, leb-true (length bs) 40 (and_parts (leb 1 (length bs)) (leb (length bs) 40) e).1))) (λ _. omega arith))

cells_near : (l word byte : ℕ) (bs : List ℕ) → l < 2000 → byte + length bs ≤ 61 → NearOr (Any ℕ) (cells_from l word byte bs)
cells_near l word byte [] lt le = tt
cells_near l word byte (b ∷ bs) lt le =
    cond_both (eqb b 88) _ _ (NearOr (Any ℕ)) (λ _. cells_near l (word * 2 + 1) (byte + 1) bs lt (omega arith))
    (λ _. cond_both (eqb b 46) _ _ (NearOr (Any ℕ)) (λ _. cells_near l (word * 2) (byte + 1) bs lt (omega arith)) (λ _. record { line = omega arith; byte = omega arith }))

row_near : (m : ℕ) → m ≤ 60 → NearItem (Any ℕ) (row_item m)
row_near m le l at bs lt =
    cond_both (eqb (length bs) m) (cells_from l 0 1 bs) (Err (CellCount l)) (NearOr (Any ℕ))
    (λ e. cells_near l 0 1 bs lt (omega (arith, eqb-true (length bs) m e))) (λ _. record { line = omega arith; byte = omega arith })

room_near : (g m rr pr : ℕ) → NearOr (Any (Unit {0})) (room_for g m rr pr)
room_near g m rr pr = cond_both (ltb rr g || ltb pr (g + m)) (Err NoRoom) (Ok tt) (NearOr (Any (Unit {0}))) (λ _. record { line = omega arith; byte = omega arith }) (λ _. tt)

-- the numbers of rows and signals are within their limits
abbrev Few : Head → Type 0
Few h = (h.rows ≤ 512) × (h.signals ≤ 60)

head_near : (text : List ℕ) (rr pr : ℕ) → NearOr Few (head_of text rr pr)
head_near text rr pr =
    then_near (Any (Taken (Unit {0}))) Few (line_at letter_item 1 0 text) _ (line_near (Any (Unit {0})) letter_item letter_near 1 0 text (omega arith)) (λ b _.
    then_near (Any (Taken (Unit {0}))) Few (line_at empty_item 2 b.next text) _ (line_near (Any (Unit {0})) empty_item empty_near 2 b.next text (omega arith)) (λ e _.
    then_near (λ (t : Taken ℕ). t.value ≤ 512) Few (line_at (size_item 512) 3 e.next text) _ (line_near (λ n. n ≤ 512) (size_item 512) (size_near 512) 3 e.next text (omega arith)) (λ g few.
    then_near (λ (t : Taken ℕ). t.value ≤ 60) Few (line_at (size_item 60) 4 g.next text) _ (line_near (λ n. n ≤ 60) (size_item 60) (size_near 60) 4 g.next text (omega arith)) (λ m narrow.
    then_near (Any (Unit {0})) Few (room_for g.value m.value rr pr) _ (room_near g.value m.value rr pr) (λ _ _.
    then_near (Any (Taken (Unit {0}))) Few (line_at empty_item 5 m.next text) _ (line_near (Any (Unit {0})) empty_item empty_near 5 m.next text (omega arith)) (λ _ _. (few, narrow)))))))

body_near : (text : List ℕ) (h : Head) → Few h → NearOr (Any Contents) (body_of text h)
body_near text h few =
    let g : ℕ = h.rows in
    let m : ℕ = h.signals in
    then_near (Any (Taken (List Place))) (Any Contents) (lines_at name_item (g + m) 6 h.next text) _
    (lines_near (Any Place) name_item name_near (g + m) 6 h.next text (omega (arith, few.0, few.1))) (λ ns _.
    then_near (Any (Taken (List ℕ))) (Any Contents) (lines_at (row_item m) g (6 + (g + m)) ns.next text) _
    (lines_near (Any ℕ) (row_item m) (row_near m few.1) g (6 + (g + m)) ns.next text (omega (arith, few.0, few.1))) (λ _ _. tt))

read_near : (text : List ℕ) (rr pr : ℕ) → NearOr (Any Contents) (read_of text rr pr)
read_near text rr pr =
    cond_both (ltb 65000 (length text)) (Err TooLong) (and_then (head_of text rr pr) (body_of text)) (NearOr (Any Contents))
    (λ _. record { line = omega arith; byte = omega arith })
    (λ _. then_near Few (Any Contents) (head_of text rr pr) (body_of text) (head_near text rr pr) (body_near text))

told_near : (r : Result Contents TableFault) → NearOr (Any Contents) r → IfErr (answer_of r) (λ e. Near (fault_of e))
told_near (Ok c) p = tt
told_near (Err e) p = p

-- an answer that is a refusal is near
pub near_answered : (text : List ℕ) (rr pr : ℕ) (r : Result Reading TableFault) → r ≡ answer_of (read_of text rr pr) → IfErr r (λ e. Near (fault_of e))
near_answered text rr pr r is = subst (λ a. IfErr a (λ e. Near (fault_of e))) (sym is) (told_near (read_of text rr pr) (read_near text rr pr))
