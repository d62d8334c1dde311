-- The two sections of a table text, its first five lines and the lines of names and rows: what was read stands in the text, and what stands in the text is read.
use Rattle.std.proofs.Common.{◌≡◌, ℕ, ◌+◌, ◌^◌, ◌<◌, ◌≤◌, true, false, ◌||◌, eqb, ltb, ◌⊎◌, List, [], ◌∷◌, ◌++◌, map, length, Ok, Err, decimal, Result, sym, refl, ap, ◌∙◌, subst, inl, inr, arith}
use Rattle.std.specs.List.{flat_map, AllByRecursion}
use Rattle.std.proofs.lemmas.List.{length-map}
use Rattle.std.proofs.lemmas.List.Folds.{flat_map-map}
use Rattle.std.proofs.lemmas.Bool.{cond-false, or_parts, or_from, ltb-false, le-ltb, eqb-true}
use Rattle.table.specs.declared.faults.TableFault.{TableFault}
use Rattle.table.specs.declared.faults.TableFault.TheVariants.{NotB, NoRoom}
use Rattle.table.specs.declared.place.Place.{Place}
use Rattle.table.specs.Names.{Name}
use Rattle.table.specs.Reading.{Head, line_at, lines_at, letter_item, empty_item, size_item, name_item, row_item, room_for, Contents, head_of, body_of}
use Rattle.table.specs.Tables.{line, cells}
use Rattle.table.proofs.Spans.{Span, span_join, span_front, span_back}
use Rattle.table.proofs.Codecs.{Both, LinesRead, not_ok, cond_from, then_from, then_reads, both_length, line_from, line_reads, lines_from, lines_reads}
use Rattle.table.proofs.Cells.{Row, RowOf, row_codec, rows_are, rows_narrow, rows_good, rows_only}
use Rattle.table.proofs.Sizes.{size_read, size_free, size_from}
use Rattle.table.proofs.NameLines.{NamedAt, name_codec}

-- the letter and the empty line are all that is read as such
pub letter_from : (l at : ℕ) (bs : List ℕ) (v : Unit {0}) → letter_item l at bs ≡ Ok v → bs ≡ 66 ∷ []
letter_from l at [] v h = absurd (not_ok _ v h)
letter_from l at (b ∷ []) v h = go (cond_from (eqb b 66) (Ok tt) (Err NotB) v h)
  where
    go : ((eqb b 66 ≡ true) × (◌≡◌ {A = Result (Unit {0}) TableFault} (Ok tt) (Ok v))) ⊎ ((eqb b 66 ≡ false) × (◌≡◌ {A = Result (Unit {0}) TableFault} (Err NotB) (Ok v))) → b ∷ [] ≡ 66 ∷ []
    go (inl p) = ap (λ x. x ∷ []) (eqb-true b 66 p.0)
    go (inr p) = absurd (not_ok _ v p.1)
letter_from l at (b ∷ c ∷ bs) v h = absurd (not_ok _ v h)

pub empty_from : (l at : ℕ) (bs : List ℕ) (v : Unit {0}) → empty_item l at bs ≡ Ok v → bs ≡ []
empty_from l at [] v h = refl
empty_from l at (b ∷ bs) v h = absurd (not_ok _ v h)

-- there is room exactly when both kinds of room are there
pub room_from : (g m rr pr : ℕ) (v : Unit {0}) → room_for g m rr pr ≡ Ok v → (g ≤ rr) × (g + m ≤ pr)
room_from g m rr pr v h = go (cond_from (ltb rr g || ltb pr (g + m)) (Err NoRoom) (Ok tt) v h)
  where
    go : (((ltb rr g || ltb pr (g + m)) ≡ true) × (◌≡◌ {A = Result (Unit {0}) TableFault} (Err NoRoom) (Ok v))) ⊎ (((ltb rr g || ltb pr (g + m)) ≡ false) × (◌≡◌ {A = Result (Unit {0}) TableFault} (Ok tt) (Ok v))) → (g ≤ rr) × (g + m ≤ pr)
    go (inl p) = absurd (not_ok _ v p.1)
    go (inr p) = let q = or_parts (ltb rr g) (ltb pr (g + m)) p.0 in (ltb-false rr g q.0, ltb-false pr (g + m) q.1)

pub room_reads : (g m rr pr : ℕ) → g ≤ rr → g + m ≤ pr → room_for g m rr pr ≡ Ok tt
room_reads g m rr pr a b = cond-false (ltb rr g || ltb pr (g + m)) _ _ (or_from (ltb rr g) (ltb pr (g + m)) (le-ltb rr g a) (le-ltb pr (g + m) b))

-- the first five lines, of g rows and m signals
abbrev pub head_text : (g m : ℕ) → List ℕ
head_text g m = line (66 ∷ []) ++ (line [] ++ (line (decimal g) ++ (line (decimal m) ++ line [])))

-- what was read as the first five lines
pub record HeadRead (text : List ℕ) (rr pr : ℕ) (h : Head) : Type 0 where
  pub rows_few : h.rows ≤ 512
  pub signals_few : h.signals ≤ 60
  pub row_room : h.rows ≤ rr
  pub place_room : h.rows + h.signals ≤ pr
  pub span : Span text 0 (head_text h.rows h.signals) h.next

pub head_from : (text : List ℕ) (rr pr : ℕ) (h : Head) → head_of text rr pr ≡ Ok h → HeadRead text rr pr h
head_from text rr pr h r =
    let a = then_from (line_at letter_item 1 0 text) _ h r in
    let b = then_from (line_at empty_item 2 a.0.next text) _ h a.2 in
    let c = then_from (line_at (size_item 512) 3 b.0.next text) _ h b.2 in
    let d = then_from (line_at (size_item 60) 4 c.0.next text) _ h c.2 in
    let e = then_from (room_for c.0.value d.0.value rr pr) _ h d.2 in
    let f = then_from (line_at empty_item 5 d.0.next text) _ h e.2 in
    let g : ℕ = c.0.value in
    let m : ℕ = d.0.value in
    let same : ◌≡◌ {A = Head} (record { rows = g; signals = m; next = f.0.next }) h = cc f.2 in
    let la = line_from letter_item 1 0 text a.0 a.1 in
    let lb = line_from empty_item 2 a.0.next text b.0 b.1 in
    let lc = line_from (size_item 512) 3 b.0.next text c.0 c.1 in
    let ld = line_from (size_item 60) 4 c.0.next text d.0 d.1 in
    let lf = line_from empty_item 5 d.0.next text f.0 f.1 in
    let gs = size_from 512 3 b.0.next lc.bytes g (omega arith) lc.read in
    let ms = size_from 60 4 c.0.next ld.bytes m (omega arith) ld.read in
    let room = room_from g m rr pr e.0 e.1 in
    let sa : Span text 0 (line (66 ∷ [])) a.0.next = subst (λ x. Span text 0 (line x) a.0.next) (letter_from 1 0 la.bytes a.0.value la.read) la.span in
    let sb : Span text a.0.next (line []) b.0.next = subst (λ x. Span text a.0.next (line x) b.0.next) (empty_from 2 a.0.next lb.bytes b.0.value lb.read) lb.span in
    let sc : Span text b.0.next (line (decimal g)) c.0.next = subst (λ x. Span text b.0.next (line x) c.0.next) gs.1 lc.span in
    let sd : Span text c.0.next (line (decimal m)) d.0.next = subst (λ x. Span text c.0.next (line x) d.0.next) ms.1 ld.span in
    let sf : Span text d.0.next (line []) f.0.next = subst (λ x. Span text d.0.next (line x) f.0.next) (empty_from 5 d.0.next lf.bytes f.0.value lf.read) lf.span in
    let tail : Span text b.0.next (line (decimal g) ++ (line (decimal m) ++ line [])) f.0.next =
    span_join text b.0.next c.0.next f.0.next (line (decimal g)) (line (decimal m) ++ line []) sc
    (span_join text c.0.next d.0.next f.0.next (line (decimal m)) (line []) sd sf) in
    let whole : Span text 0 (head_text g m) f.0.next =
    span_join text 0 a.0.next f.0.next (line (66 ∷ [])) (line [] ++ (line (decimal g) ++ (line (decimal m) ++ line []))) sa
    (span_join text a.0.next b.0.next f.0.next (line []) (line (decimal g) ++ (line (decimal m) ++ line [])) sb tail) in
    subst (HeadRead text rr pr) same (record { rows_few = gs.0; signals_few = ms.0; row_room = room.0; place_room = room.1; span = whole })

-- the first five lines, where they stand in the text, are read
pub head_reads : (text : List ℕ) (rr pr g m next : ℕ) → g ≤ 512 → m ≤ 60 → g ≤ rr → g + m ≤ pr → Span text 0 (head_text g m) next
    → head_of text rr pr ≡ Ok (record { rows = g; signals = m; next = next })
head_reads text rr pr g m next few narrow row_room place_room s =
    let d3 : List ℕ = line (decimal m) ++ line [] in
    let d2 : List ℕ = line (decimal g) ++ d3 in
    let d1 : List ℕ = line [] ++ d2 in
    let p1 : ℕ = 0 + length (line (66 ∷ [])) in
    let p2 : ℕ = p1 + length (line []) in
    let p3 : ℕ = p2 + length (line (decimal g)) in
    let p4 : ℕ = p3 + length (line (decimal m)) in
    let s1 : Span text p1 d1 next = span_back text 0 next (line (66 ∷ [])) d1 s in
    let s2 : Span text p2 d2 next = span_back text p1 next (line []) d2 s1 in
    let s3 : Span text p3 d3 next = span_back text p2 next (line (decimal g)) d3 s2 in
    let s4 : Span text p4 (line []) next = span_back text p3 next (line (decimal m)) (line []) s3 in
    let sa : Span text 0 (line (66 ∷ [])) p1 = span_front text 0 next (line (66 ∷ [])) d1 s in
    let sb : Span text p1 (line []) p2 = span_front text p1 next (line []) d2 s1 in
    let sc : Span text p2 (line (decimal g)) p3 = span_front text p2 next (line (decimal g)) d3 s2 in
    let sd : Span text p3 (line (decimal m)) p4 = span_front text p3 next (line (decimal m)) (line []) s3 in
    let whole : Head = record { rows = g; signals = m; next = next } in
    let no : ◌≡◌ {A = ℕ} 66 10 → ⊥ = omega arith in
    then_reads (line_at letter_item 1 0 text) _ (record { value = tt; next = p1 }) whole (line_reads letter_item 1 0 text (66 ∷ []) p1 tt sa (no, tt) refl)
    (then_reads (line_at empty_item 2 p1 text) _ (record { value = tt; next = p2 }) whole (line_reads empty_item 2 p1 text [] p2 tt sb tt refl)
    (then_reads (line_at (size_item 512) 3 p2 text) _ (record { value = g; next = p3 }) whole
    (line_reads (size_item 512) 3 p2 text (decimal g) p3 g sc (size_free g (omega arith)) (size_read 512 3 p2 g (omega arith) few))
    (then_reads (line_at (size_item 60) 4 p3 text) _ (record { value = m; next = p4 }) whole
    (line_reads (size_item 60) 4 p3 text (decimal m) p4 m sd (size_free m (omega arith)) (size_read 60 4 p3 m (omega arith) narrow))
    (then_reads (room_for g m rr pr) _ tt whole (room_reads g m rr pr row_room place_room)
    (then_reads (line_at empty_item 5 p4 text) _ (record { value = tt; next = next }) whole (line_reads empty_item 5 p4 text [] next tt s4 tt refl) refl)))))

-- the lines of names and rows
abbrev pub body_text : (m : ℕ) → List (List ℕ) → List ℕ → List ℕ
body_text m names words = flat_map line names ++ flat_map (λ w. line (cells m w)) words

-- what was read as the lines of names and rows
pub record BodyRead (text : List ℕ) (h : Head) (c : Contents) : Type 0 where
  pub names : List (List ℕ)
  pub many : length names ≡ h.rows + h.signals
  pub named : Both (NamedAt text) c.places names
  pub rows : length c.words ≡ h.rows
  pub signals : c.signals ≡ h.signals
  pub narrow : AllByRecursion (λ w. w < 2 ^ h.signals) c.words
  pub span : Span text h.next (body_text h.signals names c.words) c.bytes

pub body_from : (text : List ℕ) (h : Head) (c : Contents) → body_of text h ≡ Ok c → BodyRead text h c
body_from text h c r =
    let g : ℕ = h.rows in
    let m : ℕ = h.signals in
    let a = then_from (lines_at name_item (g + m) 6 h.next text) _ c r in
    let b = then_from (lines_at (row_item m) g (6 + (g + m)) a.0.next text) _ c a.2 in
    let la : LinesRead text (NamedAt text) (g + m) h.next a.0 = lines_from text name_item Name (NamedAt text) (name_codec text) (g + m) 6 h.next a.0 a.1 in
    let lb : LinesRead text (RowOf m) g a.0.next b.0 = lines_from text (row_item m) (Row m) (RowOf m) (row_codec text m) g (6 + (g + m)) a.0.next b.0 b.1 in
    let words : List ℕ = b.0.value in
    let same : ◌≡◌ {A = Contents} (record { words = words; places = a.0.value; signals = m; bytes = b.0.next }) c = cc b.2 in
    let joins : flat_map line lb.lines ≡ flat_map (λ w. line (cells m w)) words = ap (flat_map line) (rows_are m words lb.lines lb.read) ∙ flat_map-map line (cells m) words in
    let sb : Span text a.0.next (flat_map (λ w. line (cells m w)) words) b.0.next = subst (λ x. Span text a.0.next x b.0.next) joins lb.span in
    subst (BodyRead text h) same
    (record {
      names = la.lines;
      many = la.many;
      named = la.read;
      rows = both_length (RowOf m) words lb.lines lb.read ∙ lb.many;
      signals = refl;
      narrow = rows_narrow m words lb.lines lb.read;
      span = span_join text h.next a.0.next b.0.next (flat_map line la.lines) (flat_map (λ w. line (cells m w)) words) la.span sb;
    })

-- lines of names and rows, where they stand in the text, are read
pub body_reads : (text : List ℕ) (h : Head) (names : List (List ℕ)) (words : List ℕ) (next : ℕ)
    → length names ≡ h.rows + h.signals → AllByRecursion Name names → length words ≡ h.rows → AllByRecursion (λ w. w < 2 ^ h.signals) words
    → Span text h.next (body_text h.signals names words) next
    → (ps : List Place) × (body_of text h ≡ Ok (record { words = words; places = ps; signals = h.signals; bytes = next })) × Both (NamedAt text) ps names
body_reads text h names words next many good rows narrow s =
    let g : ℕ = h.rows in
    let m : ℕ = h.signals in
    let cell_lines : List ℕ = flat_map (λ w. line (cells m w)) words in
    let mid : ℕ = h.next + length (flat_map line names) in
    let sa : Span text h.next (flat_map line names) mid = span_front text h.next next (flat_map line names) cell_lines s in
    let sb : Span text mid cell_lines next = span_back text h.next next (flat_map line names) cell_lines s in
    let sc : Span text mid (flat_map line (map (cells m) words)) next = subst (λ x. Span text mid x next) (sym (flat_map-map line (cells m) words)) sb in
    let a = lines_reads text name_item Name (NamedAt text) (name_codec text) names 6 h.next mid good sa in
    let b = lines_reads text (row_item m) (Row m) (RowOf m) (row_codec text m) (map (cells m) words) (6 + (g + m)) mid next (rows_good m words narrow) sc in
    let ea : lines_at name_item (g + m) 6 h.next text ≡ Ok (record { value = a.0; next = mid }) =
    ap (λ k. lines_at name_item k 6 h.next text) (sym many) ∙ a.1 in
    let ws : b.0 ≡ words = rows_only m b.0 words narrow b.2 in
    let size : length (map (cells m) words) ≡ g = length-map words (cells m) ∙ rows in
    let eb : lines_at (row_item m) g (6 + (g + m)) mid text ≡ Ok (record { value = words; next = next }) =
    ap (λ k. lines_at (row_item m) k (6 + (g + m)) mid text) (sym size) ∙ (b.1 ∙ ap (λ v. Ok (record { value = v; next = next })) ws) in
    let c : Contents = record { words = words; places = a.0; signals = m; bytes = next } in (
      a.0,
      then_reads (lines_at name_item (g + m) 6 h.next text) _ (record { value = a.0; next = mid }) c ea
          (then_reads (lines_at (row_item m) g (6 + (g + m)) mid text) _ (record { value = words; next = next }) c eb refl),
      a.2,
    )
