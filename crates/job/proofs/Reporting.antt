-- What reading, and then writing, leaves in an output.
use Rattle.std.proofs.Common.{◌≡◌, ℕ, ◌+◌, ◌-◌, ◌^◌, ◌<◌, ◌≤◌, Bool, true, false, cond, ltb, List, [], ◌∷◌, ◌++◌, length, take, drop, replicate, Ok, Err, decimal, Result, sym, refl, ap, ◌∙◌, subst, zero-add, arith, length-append, MatchResult}
use Rattle.std.proofs.lemmas.Fmt.{length-decimal-le}
use Rattle.std.proofs.lemmas.List.{append-nil, drop_all, drop-replicate, length-drop, length-replicate, take_at}
use borrow.Rule.Slice.PartMut.{put_mid}
use Rattle.fault.specs.declared.Fault.{Fault}
use Rattle.fault.specs.Layers.{Near}
use Rattle.output.specs.Puts.{put_at, after_put, put_answer_of}
use Rattle.output.proofs.Puts.{answer_fits, granted_fits, output_fits}
use Rattle.table.specs.declared.faults.TableFault.{TableFault}
use Rattle.table.specs.declared.faults.TableFault.TheVariants.{Field, TooLong, NotB, NotEmpty, TooMany, NoRoom, NotName, CellCount, NotCell}
use Rattle.table.specs.Faults as tables
use Rattle.text.specs.Faults as fields
use Rattle.text.specs.declared.faults.FieldFault.{FieldFault}
use Rattle.text.specs.declared.faults.FieldFault.TheVariants.{NoLineFeed, NoNumber}
use Rattle.output.specs.declared.faults.OutputFault.TheVariants.{Full}
use Rattle.table.specs.declared.read.Reading.{Reading}
use Rattle.table.specs.Reading.{Contents, read_of, answer_of, words_after, places_after}
use Rattle.table.proofs.Agreement.{places_long}
use Rattle.view.specs.Views.{fit}
use Rattle.view.proofs.OwnText.{own_fit, own_text}
use Rattle.output.specs.declared.faults.OutputFault.{OutputFault}
use Rattle.output.proofs.Sequels.{refused_long, same_fault}
use Rattle.std.proofs.lemmas.Bool.{cond-true, cond-false, le-leb, lt-leb}
use Rattle.table.specs.declared.place.Place.{Place}
use Rattle.view.specs.Texts.{shown_text}
use Rattle.job.specs.declared.faults.JobFault.{JobFault}
use Rattle.job.specs.declared.faults.JobFault.TheVariants.{SmallOutput, Table, Output, Tray, Page, Draft}
use Rattle.page.specs.declared.faults.PageFault.TheVariants.{Set as OfSet, Output as OfOutput}
use Rattle.draft.specs.declared.faults.DraftFault.TheVariants as drafting
use Rattle.sets.specs.Fault as sets
use Rattle.sets.specs.declared.faults.SetFault.{SetFault}
use Rattle.sets.specs.declared.faults.SetFault.TheVariants.{Unfit, NotInside, OtherWidth, Ended}
use Rattle.tray.specs.declared.faults.TrayFault.TheVariants.{Full as NoPlace}
use Rattle.job.specs.Faults.{fault_of}
use Rattle.view.specs.declared.table_view.TableView.{TableView}
use Rattle.job.specs.Jobs.{Put, behind}
use Rattle.job.specs.Reports.{fault_line, read_line, reported, report_of, fitted, report_text, count_of, min_output, padded, refused_output, output_after, Lined}
use Rattle.job.proofs.Lined.{LinedOr}

-- bytes put at the front of zeros are followed by zeros
pub put_zeros : (n : ℕ) (bytes : List ℕ) → put_at 0 bytes (replicate n 0) ≡ padded n bytes
put_zeros n bytes = ap (λ k. bytes ++ drop k (replicate n 0)) (zero-add (length bytes)) ∙ ap (λ xs. bytes ++ xs) (drop-replicate (length bytes) n 0)

-- a fault line has at most 32 bytes
pub fault_short : (f : Fault) → f.number < 2 ^ 8 → Near f → length (fault_line f) ≤ 32
fault_short f small near =
    let number : length (decimal f.number) ≤ 3 = length-decimal-le 3 f.number (omega arith) (omega arith) (omega arith) in
    let line : length (decimal f.line) ≤ 5 = length-decimal-le 5 f.line (omega arith) (omega (arith, near.line)) (omega (arith, near.line)) in
    let byte : length (decimal f.byte) ≤ 5 = length-decimal-le 5 f.byte (omega arith) (omega (arith, near.byte)) (omega (arith, near.byte)) in
    omega (
      arith,
      length-append (decimal f.number ++ 44 ∷ (decimal f.line ++ 44 ∷ (decimal f.byte ++ []))) (10 ∷ []),
      length-append (decimal f.number) (44 ∷ (decimal f.line ++ 44 ∷ (decimal f.byte ++ []))),
      length-append (decimal f.line) (44 ∷ (decimal f.byte ++ [])),
      length-append (decimal f.byte) [],
    )

-- a refusal with a fault line is near
pub lined_near : (e : JobFault) → Lined e → Near (fault_of e)
lined_near (Table inner) near = near
lined_near (Output inner) near = near
lined_near (Tray inner) near = near
lined_near (Page inner) near = near
lined_near (Draft inner) near = near
lined_near SmallOutput none = absurd none

-- every refusal has a number of at most three digits
field_number : (e : FieldFault) → (fields.fault_of e).number < 2 ^ 8
field_number (NoLineFeed line) = omega arith
field_number (NoNumber line byte) = omega arith

table_number : (e : TableFault) → (tables.fault_of e).number < 2 ^ 8
table_number (Field inner) = field_number inner
table_number TooLong = omega arith
table_number NotB = omega arith
table_number (NotEmpty line) = omega arith
table_number (TooMany line) = omega arith
table_number NoRoom = omega arith
table_number (NotName line byte) = omega arith
table_number (CellCount line) = omega arith
table_number (NotCell line byte) = omega arith

set_number : (e : SetFault) → (sets.fault_of e).number < 2 ^ 8
set_number Unfit = omega arith
set_number NotInside = omega arith
set_number OtherWidth = omega arith
set_number Ended = omega arith

pub fault_number : (e : JobFault) → (fault_of e).number < 2 ^ 8
fault_number SmallOutput = omega arith
fault_number (Table inner) = table_number inner
fault_number (Output Full) = omega arith
fault_number (Tray NoPlace) = omega arith
fault_number (Page (OfSet inner)) = set_number inner
fault_number (Page (OfOutput Full)) = omega arith
fault_number (Draft (drafting.Set inner)) = set_number inner
fault_number (Draft (drafting.Tray NoPlace)) = omega arith
fault_number (Draft drafting.AtEnd) = omega arith
fault_number (Draft drafting.NotAtEnd) = omega arith

-- the output of a refused job is its fault line and zeros
pub refused_line : (e : JobFault) (told : Fault) (size : ℕ) (out after : List ℕ) → Lined e → 32 ≤ size → told ≡ fault_of e → out ≡ replicate size 0
    → after ≡ after_put 0 (fault_line told) out → after ≡ padded size (fault_line (fault_of e))
refused_line e told size out after lined room same zeros put =
    let short : length (fault_line (fault_of e)) ≤ 32 = fault_short (fault_of e) (fault_number e) (lined_near e lined) in
    put ∙ ap (λ f. after_put 0 (fault_line f) out) same ∙ ap (after_put 0 (fault_line (fault_of e))) zeros
    ∙ output_fits 0 (fault_line (fault_of e)) (replicate size 0) (omega (arith, length-replicate {A = ℕ} size 0))
    ∙ put_zeros size (fault_line (fault_of e))

-- what a granted reading tells is that of the contents read
answered : (r : Result Contents TableFault) (a : Reading) → Ok a ≡ answer_of r
    → (c : Contents) × (r ≡ Ok c) × (a.rows ≡ length c.words) × (a.signals ≡ c.signals) × (a.bytes ≡ c.bytes)
answered (Ok c) a e =
    let same : a ≡ record { rows = length c.words; signals = c.signals; bytes = c.bytes } = cc in
    (c, refl, ap (λ x. x.rows) same, ap (λ x. x.signals) same, ap (λ x. x.bytes) same)
answered (Err e) a is = let z : ◌≡◌ {A = ℕ} 0 1 = cc in absurd (omega arith)

-- a refused reading tells its fault
pub refused_reading : (r : Result Contents TableFault) (e : TableFault) → Err e ≡ answer_of r → r ≡ Err e
refused_reading (Ok c) e is = let z : ◌≡◌ {A = ℕ} 0 1 = cc in absurd (omega arith)
refused_reading (Err f) e is = let same : e ≡ f = cc in ap Err (sym same)

-- nothing more is owed where reading refuses
pub reading_refused : (part : Result Contents TableFault → Result (List ℕ) JobFault) → ((e : TableFault) → part (Err e) ≡ Err (Table e))
    → (out : List ℕ) (r : Result Contents TableFault) (e : TableFault) (answer : Result ℕ JobFault) → Err e ≡ answer_of r → answer ≡ Err (Table e)
    → (answer ≡ behind 0 (part r)) × Put 0 (part r) out out
reading_refused part passes out r e answer is told =
    let same = ap part (refused_reading r e is) ∙ passes e in
    (told ∙ sym (ap (behind 0) same), subst (λ p. Put 0 p out out) (sym same) tt)

-- behind the rest of an output there is nothing
pub front_part : (at : ℕ) (out rest : List ℕ) → put_mid at (length out - at) out rest ≡ take at out ++ rest
front_part at out rest =
    ap (λ xs. take at out ++ (rest ++ xs)) (drop_all (length out - at) (drop at out) (omega (arith, length-drop at out)))
    ∙ ap (λ xs. take at out ++ xs) (append-nil rest)

-- what is known after a granted reading, of its answer and of what the memory then holds
pub record Granted (text words : List ℕ) (places : List Place) (a : Reading) (ws : List ℕ) (ps : List Place) : Type 0 where
  pub contents : Contents
  pub is : read_of text (length words) (length places) ≡ Ok contents
  pub rows_few : a.rows ≤ 512
  pub signals_few : a.signals ≤ 60
  pub row_room : a.rows ≤ length words
  pub place_room : a.rows + a.signals ≤ length places
  pub rows : take a.rows ws ≡ contents.words
  pub names : take (a.rows + a.signals) ps ≡ contents.places
  pub bytes : a.bytes ≡ contents.bytes

pub granted : (text words : List ℕ) (places : List Place) (a : Reading) (ws : List ℕ) (ps : List Place)
    → Ok a ≡ answer_of (read_of text (length words) (length places))
    → ws ≡ words_after (read_of text (length words) (length places)) words
    → ps ≡ places_after (read_of text (length words) (length places)) places
    → Granted text words places a ws ps
granted text words places a ws ps answer ws-is ps-is =
    let found = answered (read_of text (length words) (length places)) a answer in
    let c : Contents = found.0 in
    let shape = places_long text (length words) (length places) c found.1 in
    let rows : length c.words ≡ a.rows = omega (arith, found.2) in
    let names : length c.places ≡ a.rows + a.signals = omega (arith, found.2, found.3, shape.many) in
    record {
      contents = c;
      is = found.1;
      rows_few = omega (arith, found.2, shape.rows_few);
      signals_few = omega (arith, found.3, shape.signals_few);
      row_room = omega (arith, found.2, shape.row_room);
      place_room = omega (arith, found.2, found.3, shape.many, shape.place_room);
      rows = ap (take a.rows) (ws-is ∙ ap (λ r. words_after r words) found.1) ∙ take_at c.words _ a.rows rows;
      names = ap (take (a.rows + a.signals)) (ps-is ∙ ap (λ r. places_after r places) found.1) ∙ take_at c.places _ (a.rows + a.signals) names;
      bytes = found.4;
    }

module _ (text words : List ℕ) (places : List Place) (a : Reading) (ws : List ℕ) (ps : List Place) (g : Granted text words places a ws ps) where
  -- the parts read are fit to be viewed
  granted_fit : fit text (take a.rows ws) (take (a.rows + a.signals) ps) ≡ true
  granted_fit =
      ap (λ x. fit text x (take (a.rows + a.signals) ps)) g.rows ∙ ap (fit text g.contents.words) g.names
      ∙ own_fit text (length words) (length places) g.contents g.is

  -- they lie in the memory
  pub view_fits : length ws ≡ length words → length ps ≡ length places → (a.rows ≤ length ws) × (a.rows + a.signals ≤ length ps) × (fit text (take a.rows ws) (take (a.rows + a.signals) ps) ≡ true)
  view_fits ew ep = (omega (arith, g.row_room), omega (arith, g.place_room), granted_fit)

  -- a view of them
  module _ (view : TableView) (text_is : view.text.now ≡ text) (words_are : view.words.now ≡ take a.rows ws) (places_are : view.places.now ≡ take (a.rows + a.signals) ps) where
    -- what is put is the report of the text
    granted_text : report_of view a.bytes ≡ reported text g.contents
    granted_text =
        let c : Contents = g.contents in
        let signals : length c.places - length c.words ≡ c.signals = omega (arith, (places_long text (length words) (length places) c g.is).many) in
        ap (λ x. report_text x view.words.now view.places.now a.bytes) text_is
        ∙ ap (λ x. report_text text x view.places.now a.bytes) (words_are ∙ g.rows) ∙ ap (λ x. report_text text c.words x a.bytes) (places_are ∙ g.names)
        ∙ ap (report_text text c.words c.places) g.bytes
        ∙ ap (λ k. read_line (length c.words) k c.bytes ++ shown_text text c.words c.places) signals
        ∙ ap (λ bs. read_line (length c.words) c.signals c.bytes ++ bs) (own_text text (length words) (length places) c g.is)

    -- granted, the report is put
    pub report_granted : (out after : List ℕ) (n : ℕ) → Ok n ≡ put_answer_of 0 (report_of view a.bytes) out → after ≡ put_at 0 (report_of view a.bytes) out
        → (Ok n ≡ behind 0 (fitted text (length out) (read_of text (length words) (length places)))) × Put 0 (fitted text (length out) (read_of text (length words) (length places))) out after
    report_granted out after n e put =
        let B : List ℕ = reported text g.contents in
        let e2 : Ok n ≡ put_answer_of 0 B out = e ∙ ap (λ bs. put_answer_of 0 bs out) granted_text in
        let fits : 0 + length B ≤ length out = granted_fits 0 n B out e2 in
        let answer : put_answer_of 0 B out ≡ Ok (0 + length B) = answer_fits 0 B out fits in
        let count : n ≡ 0 + length B = cc in
        let whole : fitted text (length out) (read_of text (length words) (length places)) ≡ Ok B =
        ap (fitted text (length out)) g.is ∙ cond-true _ _ _ (le-leb (length B) (length out) (omega arith)) in
        (ap Ok count ∙ sym (ap (behind 0) whole), subst (λ r. Put 0 r out after) (sym whole) (put ∙ ap (λ bs. put_at 0 bs out) granted_text))

    -- refused, it does not fit
    pub report_refused : (out after : List ℕ) (f : OutputFault) (r : Result ℕ JobFault) → Err f ≡ put_answer_of 0 (report_of view a.bytes) out → r ≡ Err (Output f)
        → (r ≡ behind 0 (fitted text (length out) (read_of text (length words) (length places)))) × Put 0 (fitted text (length out) (read_of text (length words) (length places))) out after
    report_refused out after f r e r-is =
        let B : List ℕ = reported text g.contents in
        let long : length out < 0 + length B = refused_long 0 B out f (e ∙ ap (λ bs. put_answer_of 0 bs out) granted_text) in
        let whole : fitted text (length out) (read_of text (length words) (length places)) ≡ Err (Output Full) =
        ap (fitted text (length out)) g.is ∙ cond-false _ _ _ (lt-leb (length B) (length out) (omega arith)) in
        let same : r ≡ Err (Output Full) = r-is ∙ ap (λ x. Err (Output x)) (same_fault f Full) in
        (same ∙ sym (ap (behind 0) whole), subst (λ x. Put 0 x out after) (sym whole) tt)

-- ---- the frame of a job: zeros, a part at the front of them, and its fault line and zeros where it is refused

-- a position behind a part at the front is its length
pub behind_front : (p : Result (List ℕ) JobFault) → behind 0 p ≡ count_of p
behind_front (Ok bytes) = ap Ok (zero-add (length bytes))
behind_front (Err e) = refl

lined_output : (size : ℕ) (e : JobFault) → Lined e → padded size (fault_line (fault_of e)) ≡ refused_output size e
lined_output size (Table inner) lined = refl
lined_output size (Output inner) lined = refl
lined_output size (Tray inner) lined = refl
lined_output size (Page inner) lined = refl
lined_output size (Draft inner) lined = refl
lined_output size SmallOutput none = absurd none

-- what the output holds once the answer is settled
pub settled : (size : ℕ) (p : Result (List ℕ) JobFault) (r : Result ℕ JobFault) (before middle after : List ℕ) → before ≡ replicate size 0 → length middle ≡ size → r ≡ behind 0 p → Put 0 p before middle → LinedOr p
    → MatchResult r (λ n. after ≡ middle) (λ e. after ≡ padded (length middle) (fault_line (fault_of e))) → after ≡ output_after size p
settled size (Ok bytes) r before middle after zeros long is put lined out =
    let kept : after ≡ middle = subst (λ x. MatchResult x (λ n. after ≡ middle) (λ e. after ≡ padded (length middle) (fault_line (fault_of e)))) is out in
    kept ∙ put ∙ ap (put_at 0 bytes) zeros ∙ put_zeros size bytes
settled size (Err e) r before middle after zeros long is put lined out =
    let told : after ≡ padded (length middle) (fault_line (fault_of e)) = subst (λ x. MatchResult x (λ n. after ≡ middle) (λ f. after ≡ padded (length middle) (fault_line (fault_of f)))) is out in
    told ∙ ap (λ n. padded n (fault_line (fault_of e))) long ∙ lined_output size e lined

-- an output that is not small
pub not_small : (size : ℕ) → ◌≡◌ {A = Result Unit JobFault} (Ok tt) (cond (ltb size min_output) (Err SmallOutput) (Ok tt)) → ltb size min_output ≡ false
not_small size e = of (ltb size min_output) e
  where
    of : (b : Bool) → ◌≡◌ {A = Result Unit JobFault} (Ok tt) (cond b (Err SmallOutput) (Ok tt)) → b ≡ false
    of true e = absurd (let z : ◌≡◌ {A = ℕ} 0 1 = cc in omega arith)
    of false e = refl

-- a job in its frame
pub framed : (size : ℕ) (part : Result (List ℕ) JobFault) (r s : Result ℕ JobFault) (before middle after : List ℕ) → ltb size min_output ≡ false → before ≡ replicate size 0 → length middle ≡ size
    → r ≡ behind 0 part → Put 0 part before middle → LinedOr part → s ≡ r → MatchResult r (λ n. after ≡ middle) (λ e. after ≡ padded (length middle) (fault_line (fault_of e)))
    → (s ≡ count_of (cond (ltb size min_output) (Err SmallOutput) part)) × (after ≡ output_after size (cond (ltb size min_output) (Err SmallOutput) part))
framed size part r s before middle after large zeros long is put lined same out =
    let whole : cond (ltb size min_output) (Err SmallOutput) part ≡ part = cond-false _ _ _ large in (
      same ∙ is ∙ behind_front part ∙ sym (ap count_of whole),
      settled size part r before middle after zeros long is put lined out ∙ sym (ap (output_after size) whole),
    )
