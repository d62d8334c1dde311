-- Reading agrees with the text of a table: what is read is a lawful table that the text begins with, every such table is read, and there is only one.
use Rattle.std.proofs.Common.{◌≡◌, ℕ, ◌+◌, ◌*◌, ◌^◌, ◌<◌, ◌≤◌, true, false, ltb, ◌⊎◌, List, [], ◌∷◌, ◌++◌, map, length, take, drop, Ok, Err, decimal, Result, sym, refl, ap, ◌∙◌, subst, inl, inr, arith}
use Rattle.std.specs.List.{flat_map, AllByRecursion}
use Rattle.std.proofs.lemmas.Fmt.{length-decimal-le}
use Rattle.std.proofs.lemmas.Grind.{flat_map-append}
use Rattle.std.proofs.lemmas.List.{append_assoc, length-append, length-take, length-drop, take-append-drop, take_at, drop_at}
use Rattle.std.proofs.lemmas.Bool.{cond-false, ltb-false, le-ltb}
use Rattle.table.specs.declared.faults.TableFault.{TableFault}
use Rattle.table.specs.declared.faults.TableFault.TheVariants.{TooLong}
use Rattle.table.specs.Names.{Name, part_at}
use Rattle.table.specs.Reading.{Head, and_then, Contents, head_of, body_of, read_of, answer_of, words_after, places_after, held}
use Rattle.table.specs.declared.place.Place.{Place}
use Rattle.table.specs.declared.read.Reading.{Reading}
use Rattle.table.specs.Tables.{Table, Lawful, line, cells, text_of}
use Rattle.table.specs.Grammar.{Begins, Fitting, ReadAs, Grammar, ReadAgain}
use Rattle.table.proofs.Bodies.{held_is}
use Rattle.table.proofs.Spans.{Span, span_from, span_join, span_front, span_back, every_append, every_left, every_right}
use Rattle.table.proofs.Codecs.{Both, both_length, not_ok, cond_from, then_from, then_reads}
use Rattle.table.proofs.Cells.{length_cells_at}
use Rattle.table.proofs.NameLines.{NamedAt, Placed, named_parts, named_names, named_placed, names_long}
use Rattle.table.proofs.HeadAndBody.{head_text, body_text, HeadRead, BodyRead, head_from, head_reads, body_from, body_reads}

-- the two sections of a text, read one after the other; the limit on the text's length is apart
abbrev pub both_of : List ℕ → (row_room place_room : ℕ) → Result Contents TableFault
both_of text rr pr = and_then (head_of text rr pr) (body_of text)

-- the text of g rows and m signals with these names, row names first, and these words
abbrev pub text_of_parts : (g m : ℕ) → List (List ℕ) → List ℕ → List ℕ
text_of_parts g m names words = head_text g m ++ body_text m names words

-- the text of a table is the text of its sections
regroup : (a b c d e x y z : List ℕ) → (a ++ (b ++ (c ++ (d ++ e)))) ++ ((x ++ y) ++ z) ≡ a ++ (b ++ (c ++ (d ++ (e ++ (x ++ (y ++ z))))))
regroup a b c d e x y z = simp append_assoc

pub whole_text : (t : Table) → text_of_parts (length t.words) (length t.signal_names) (t.row_names ++ t.signal_names) t.words ≡ text_of t
whole_text t =
    let g : ℕ = length t.words in
    let m : ℕ = length t.signal_names in
    let rows : List ℕ = flat_map (λ w. line (cells m w)) t.words in
    ap (λ x. head_text g m ++ (x ++ rows)) (flat_map-append line t.row_names t.signal_names)
    ∙ regroup (line (66 ∷ [])) (line []) (line (decimal g)) (line (decimal m)) (line []) (flat_map line t.row_names) (flat_map line t.signal_names) rows

-- what the two sections were read as
pub record Found (text : List ℕ) (rr pr : ℕ) (c : Contents) : Type 0 where
  pub names : List (List ℕ)
  pub many : length names ≡ length c.words + c.signals
  pub named : Both (NamedAt text) c.places names
  pub rows_few : length c.words ≤ 512
  pub signals_few : c.signals ≤ 60
  pub row_room : length c.words ≤ rr
  pub place_room : length c.words + c.signals ≤ pr
  pub narrow : AllByRecursion (λ w. w < 2 ^ c.signals) c.words
  pub span : Span text 0 (text_of_parts (length c.words) c.signals names c.words) c.bytes

pub both_from : (text : List ℕ) (rr pr : ℕ) (c : Contents) → both_of text rr pr ≡ Ok c → Found text rr pr c
both_from text rr pr c r =
    let a = then_from (head_of text rr pr) (body_of text) c r in
    let h : Head = a.0 in
    let p : HeadRead text rr pr h = head_from text rr pr h a.1 in
    let q : BodyRead text h c = body_from text h c a.2 in
    let g : h.rows ≡ length c.words = sym q.rows in
    let m : h.signals ≡ c.signals = sym q.signals in
    let whole : Span text 0 (text_of_parts h.rows h.signals q.names c.words) c.bytes =
    span_join text 0 h.next c.bytes (head_text h.rows h.signals) (body_text h.signals q.names c.words) p.span q.span in
    record {
      names = q.names;
      many = omega (arith, q.many, g, m);
      named = q.named;
      rows_few = omega (arith, p.rows_few, g);
      signals_few = omega (arith, p.signals_few, m);
      row_room = omega (arith, p.row_room, g);
      place_room = omega (arith, p.place_room, g, m);
      narrow = subst (λ k. AllByRecursion (λ w. w < 2 ^ k) c.words) m q.narrow;
      span = subst (λ k. Span text 0 (text_of_parts k c.signals q.names c.words) c.bytes) g
          (subst (λ k. Span text 0 (text_of_parts h.rows k q.names c.words) c.bytes) m whole);
    }

-- what is read, if the text is not too long, is what the two sections are read as
pub read_from : (text : List ℕ) (rr pr : ℕ) (c : Contents) → read_of text rr pr ≡ Ok c → (length text ≤ 65000) × (both_of text rr pr ≡ Ok c)
read_from text rr pr c r = go (cond_from (ltb 65000 (length text)) (Err TooLong) (both_of text rr pr) c r)
  where
    go : ((ltb 65000 (length text) ≡ true) × (◌≡◌ {A = Result Contents TableFault} (Err TooLong) (Ok c))) ⊎ ((ltb 65000 (length text) ≡ false) × (both_of text rr pr ≡ Ok c))
        → (length text ≤ 65000) × (both_of text rr pr ≡ Ok c)
    go (inl p) = absurd (not_ok _ c p.1)
    go (inr p) = (ltb-false 65000 (length text) p.0, p.1)

-- the table of what was read: the first names are the rows' and the others the signals'
table_of : Contents → List (List ℕ) → Table
table_of c names = record { words = c.words; row_names = take (length c.words) names; signal_names = drop (length c.words) names }

-- what is read is a table that the text is to be accepted for
pub sound : (text : List ℕ) (rr pr : ℕ) (c : Contents) → read_of text rr pr ≡ Ok c → (t : Table) × Fitting text rr pr t × ReadAs text c t
unfolding table_of
sound text rr pr c r =
    let short = read_from text rr pr c r in
    let f : Found text rr pr c = both_from text rr pr c short.1 in
    let g : ℕ = length c.words in
    let names : List (List ℕ) = f.names in
    let t : Table = table_of c names in
    let parts : take g names ++ drop g names ≡ names = take-append-drop g names in
    let m : c.signals ≡ length (drop g names) = omega (arith, f.many, length-drop g names) in
    let all : AllByRecursion Name (take g names ++ drop g names) = subst (AllByRecursion Name) (sym parts) (named_names text c.places names f.named) in
    let spanned : Span text 0 (text_of_parts g (length (drop g names)) (take g names ++ drop g names) c.words) c.bytes =
    subst (λ ns. Span text 0 (text_of_parts g (length (drop g names)) ns c.words) c.bytes) (sym parts)
    (subst (λ k. Span text 0 (text_of_parts g k names c.words) c.bytes) m f.span) in
    let span : Span text 0 (text_of t) c.bytes = subst (λ x. Span text 0 x c.bytes) (whole_text t) spanned in (
      t,
      record {
        lawful = record {
          rows = f.rows_few;
          signals = omega (arith, f.signals_few, m);
          named = length-take g names ∙ omega (arith, f.many);
          row_named = every_left Name (take g names) (drop g names) all;
          signal_named = every_right Name (take g names) (drop g names) all;
          narrow = subst (λ k. AllByRecursion (λ w. w < 2 ^ k) c.words) m f.narrow;
        };
        short = short.0;
        begins = (drop c.bytes text, span.here);
        rows_fit = f.row_room;
        places_fit = omega (arith, f.place_room, m);
      },
      record {
        words = refl;
        signals = m;
        names = named_parts text c.places names f.named ∙ sym parts;
        bytes = omega (arith, span.end);
      },
    )

-- a lawful table that the text begins with is read, where there is room
pub both_reads : (text : List ℕ) (rr pr : ℕ) (t : Table) → Lawful t → Begins text t → length t.words ≤ rr → length t.words + length t.signal_names ≤ pr
    → (c : Contents) × (both_of text rr pr ≡ Ok c) × ReadAs text c t
both_reads text rr pr t lawful begins row_room place_room =
    let g : ℕ = length t.words in
    let m : ℕ = length t.signal_names in
    let names : List (List ℕ) = t.row_names ++ t.signal_names in
    let n : ℕ = 0 + length (text_of t) in
    let s : Span text 0 (text_of t) n = span_from text 0 (text_of t) begins.0 begins.1 in
    let whole : Span text 0 (text_of_parts g m names t.words) n = subst (λ x. Span text 0 x n) (sym (whole_text t)) s in
    let mid : ℕ = 0 + length (head_text g m) in
    let front : Span text 0 (head_text g m) mid = span_front text 0 n (head_text g m) (body_text m names t.words) whole in
    let back : Span text mid (body_text m names t.words) n = span_back text 0 n (head_text g m) (body_text m names t.words) whole in
    let h : Head = record { rows = g; signals = m; next = mid } in
    let first : head_of text rr pr ≡ Ok h = head_reads text rr pr g m mid lawful.rows lawful.signals row_room place_room front in
    let many : length names ≡ g + m = omega (arith, length-append t.row_names t.signal_names, lawful.named) in
    let b = body_reads text h names t.words n many (every_append Name t.row_names t.signal_names lawful.row_named lawful.signal_named) refl lawful.narrow back in
    let c : Contents = record { words = t.words; places = b.0; signals = m; bytes = n } in (
      c,
      then_reads (head_of text rr pr) (body_of text) h c first b.1,
      record { words = refl; signals = refl; names = named_parts text b.0 names b.2; bytes = omega arith },
    )

-- every table that the text is to be accepted for is read
pub complete : (text : List ℕ) (rr pr : ℕ) (t : Table) → Fitting text rr pr t → (c : Contents) × (read_of text rr pr ≡ Ok c) × ReadAs text c t
complete text rr pr t f =
    let b = both_reads text rr pr t f.lawful f.begins f.rows_fit f.places_fit in
    (b.0, cond-false (ltb 65000 (length text)) (Err TooLong) (both_of text rr pr) (le-ltb 65000 (length text) f.short) ∙ b.1, b.2)

-- a text begins with the text of at most one lawful table
pub unique : (text : List ℕ) (t u : Table) → Lawful t → Lawful u → Begins text t → Begins text u → t ≡ u
unique text t u lt lu bt bu =
    let rr : ℕ = length t.words + length u.words in
    let pr : ℕ = rr + (length t.signal_names + length u.signal_names) in
    let a = both_reads text rr pr t lt bt (omega arith) (omega arith) in
    let b = both_reads text rr pr u lu bu (omega arith) (omega arith) in
    let same : a.0 ≡ b.0 = let x = a.1 in let y = b.1 in cc in
    let words : t.words ≡ u.words = sym a.2.words ∙ (ap (λ (c : Contents). c.words) same ∙ b.2.words) in
    let names : t.row_names ++ t.signal_names ≡ u.row_names ++ u.signal_names =
    sym a.2.names ∙ (ap (λ (c : Contents). map (part_at text) c.places) same ∙ b.2.names) in
    let k : ℕ = length u.row_names in
    let size : length t.row_names ≡ k = lt.named ∙ (ap (λ (ws : List ℕ). length ws) words ∙ sym lu.named) in
    let row_names : t.row_names ≡ u.row_names =
    sym (take_at t.row_names t.signal_names k size) ∙ (ap (take k) names ∙ take_at u.row_names u.signal_names k refl) in
    let signal_names : t.signal_names ≡ u.signal_names =
    sym (drop_at t.row_names t.signal_names k size) ∙ (ap (drop k) names ∙ drop_at u.row_names u.signal_names k refl) in
    λ i. record { words = words i; row_names = row_names i; signal_names = signal_names i }

-- lines of rows are not long
rows_long : (m : ℕ) (ws : List ℕ) → m ≤ 60 → length (flat_map (λ w. line (cells m w)) ws) ≤ length ws * 61
rows_long m [] le = omega arith
rows_long m (w ∷ ws) le =
    omega (arith, rows_long m ws le, length-append (line (cells m w)) (flat_map (λ v. line (cells m v)) ws), length-append (cells m w) (10 ∷ []), length_cells_at m w 0 m)

-- the length of a text in eight parts
length_parts : (a b c d e x y z : List ℕ) → length (a ++ (b ++ (c ++ (d ++ (e ++ (x ++ (y ++ z)))))))
    ≡ length a + (length b + (length c + (length d + (length e + (length x + (length y + length z))))))
length_parts a b c d e x y z = simp length-append

-- the text of a lawful table is within the limit
pub bounded : (t : Table) → Lawful t → length (text_of t) ≤ 65000
bounded t l =
    let g : ℕ = length t.words in
    let m : ℕ = length t.signal_names in
    let few : g ≤ 512 = l.rows in
    let narrow : m ≤ 60 = l.signals in
    let named : length t.row_names ≡ g = l.named in
    let rows : List ℕ = flat_map (λ w. line (cells m w)) t.words in
    let total : length (text_of t)
    ≡ length (line (66 ∷ [])) + (length (line []) + (length (line (decimal g)) + (length (line (decimal m)) + (length (line []) + (length (flat_map line t.row_names) + (length (flat_map line t.signal_names) + length rows)))))) =
    length_parts (line (66 ∷ [])) (line []) (line (decimal g)) (line (decimal m)) (line []) (flat_map line t.row_names) (flat_map line t.signal_names) rows in
    let lg : length (line (decimal g)) ≤ 4 = omega (arith, length-append (decimal g) (10 ∷ []), length-decimal-le 3 g (omega arith) (omega arith) (omega arith)) in
    let lm : length (line (decimal m)) ≤ 3 = omega (arith, length-append (decimal m) (10 ∷ []), length-decimal-le 2 m (omega arith) (omega arith) (omega arith)) in
    let lx : length (flat_map line t.row_names) ≤ length t.row_names * 41 = names_long t.row_names l.row_named in
    let ly : length (flat_map line t.signal_names) ≤ m * 41 = names_long t.signal_names l.signal_named in
    let lz : length rows ≤ g * 61 = rows_long m t.words narrow in
    omega arith

-- a text is accepted exactly when there is a table to accept it for
pub grammar : (text : List ℕ) (rr pr : ℕ) → Grammar text rr pr (read_of text rr pr)
grammar text rr pr = go (read_of text rr pr) refl
  where
    go : (r : Result Contents TableFault) → read_of text rr pr ≡ r → Grammar text rr pr r
    go (Ok c) e =
        let s = sound text rr pr c e in
        record { table = s.0; fitting = s.1; read = s.2; only = λ u l b. unique text u s.0 l s.1.lawful b s.1.begins }
    go (Err x) e = λ t f. let c = complete text rr pr t f in not_ok x c.0 (sym e ∙ c.1)

-- the text of a lawful table, with whatever bytes behind it, is read as that table
pub read_again : (t : Table) → Lawful t → ReadAgain t
read_again t l rest rr pr f = complete (text_of t ++ rest) rr pr t f

-- the sizes of what was read, and what each word and each place of it is
pub record Shaped (text : List ℕ) (rr pr : ℕ) (c : Contents) : Type 0 where
  pub row_room : length c.words ≤ rr
  pub place_room : length c.places ≤ pr
  pub many : length c.places ≡ length c.words + c.signals
  pub rows_few : length c.words ≤ 512
  pub signals_few : c.signals ≤ 60
  pub within : c.bytes ≤ length text
  pub narrow : AllByRecursion (λ w. w < 2 ^ c.signals) c.words
  pub placed : AllByRecursion (Placed text) c.places

pub places_long : (text : List ℕ) (rr pr : ℕ) (c : Contents) → read_of text rr pr ≡ Ok c → Shaped text rr pr c
places_long text rr pr c r =
    let f : Found text rr pr c = both_from text rr pr c (read_from text rr pr c r).1 in
    let many : length c.places ≡ length c.words + c.signals = both_length (NamedAt text) c.places f.names f.named ∙ f.many in
    record {
      row_room = f.row_room;
      place_room = omega (arith, many, f.place_room);
      many = many;
      rows_few = f.rows_few;
      signals_few = f.signals_few;
      within = omega (
        arith,
        f.span.end,
        ap length f.span.here,
        length-append (text_of_parts (length c.words) c.signals f.names c.words) (drop c.bytes text),
      );
      narrow = f.narrow;
      placed = named_placed text c.places f.names f.named;
    }

-- what the caller of a reading holds is what the grammar says
pub grammar_held : (text words : List ℕ) (places : List Place) (r : Result Reading TableFault) (ws : List ℕ) (ps : List Place)
    → r ≡ answer_of (read_of text (length words) (length places))
    → ws ≡ words_after (read_of text (length words) (length places)) words
    → ps ≡ places_after (read_of text (length words) (length places)) places
    → Grammar text (length words) (length places) (held r ws ps)
grammar_held text words places r ws ps r-is ws-is ps-is =
    let R : Result Contents TableFault = read_of text (length words) (length places) in
    let same : held r ws ps ≡ R =
    ap (λ x. held x ws ps) r-is ∙ ap (λ x. held (answer_of R) x ps) ws-is ∙ ap (λ x. held (answer_of R) (words_after R words) x) ps-is
    ∙ held_is R words places (λ c is. (places_long text (length words) (length places) c is).many) in
    subst (Grammar text (length words) (length places)) (sym same) (grammar text (length words) (length places))
