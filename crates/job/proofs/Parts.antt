-- What the parts of a job put, from what its calls answer.
use Rattle.std.proofs.Common.{◌≡◌, ℕ, ◌+◌, ◌<◌, ◌≤◌, min, true, false, leb, ◌⊎◌, List, [], ◌∷◌, ◌++◌, length, map, take, drop, Ok, Err, Result, sym, refl, ap, ap₂, ◌∙◌, subst, inl, inr, arith, length-append}
use Rattle.std.specs.List.{AllByRecursion}
use Rattle.std.proofs.lemmas.List.{length-drop, length-map, take_all}
use Rattle.std.proofs.lemmas.Bool.{cases_Bool, cond-true, cond-false, eq-eqb, le-leb, lt-leb}
use Rattle.draft.specs.Fills as ruling
use Rattle.operators.specs.TableClosure.{signals_of}
use Rattle.output.specs.declared.faults.OutputFault.TheVariants.{Full}
use Rattle.output.specs.declared.output.Output as lent
use Rattle.output.specs.Puts.{put_at}
use Rattle.output.proofs.Puts.{put_at_put_at}
use Rattle.page.specs.Pages.{foot, max_lines, reserve, shown_rule, shown_set}
use Rattle.page.specs.declared.faults.PageFault.{PageFault}
use Rattle.page.specs.declared.faults.PageFault.TheVariants.{Output as OfOutput}
use Rattle.sets.specs.declared.rule.Rule.{Rule}
use Rattle.sets.specs.declared.set.Set.{Set}
use Rattle.survey.specs.Fills.{Filled}
use Rattle.table.specs.declared.faults.TableFault.{TableFault}
use Rattle.table.specs.declared.place.Place.{Place}
use Rattle.table.specs.Grammar.{Accepted}
use Rattle.table.specs.Reading.{Contents}
use Rattle.table.specs.Tables.{text_of}
use Rattle.table.specs.Names.{part_at}
use Rattle.theory.specs.Rows.{common}
use Rattle.tray.specs.Tray.{max_entries}
use Rattle.view.specs.Shown as shown
use Rattle.view.specs.declared.table_view.TableView.{TableView}
use Rattle.job.specs.declared.faults.JobFault.{JobFault}
use Rattle.job.specs.declared.faults.JobFault.TheVariants.{Page}
use Rattle.job.specs.Closed.{SetsAfter, closed_part, in_job, listed, part_of}
use Rattle.job.specs.Jobs.{EndsBehind, Put, PutsPart, Rooms, done, RulesAfter, RulesReached, behind, closed_page, common_in, followed, onto, parts_of, parts_on, read_parts}
use Rattle.job.specs.Lists.{Fits, Showing, lines_of, page_answer_of, page_at, page_of}

-- ---- every entry is of the width of its page

-- as many names as signals
length_names : (view : TableView) → length (shown.signal_names view) ≡ shown.signal_count view
length_names view = length-map (drop (length view.words.now) view.places.now) (part_at view.text.now) ∙ length-drop (length view.words.now) view.places.now

every_map : {X : Type 0} {P Q : X → Type 0} → ((x : X) → P x → Q x) → (xs : List X) → AllByRecursion P xs → AllByRecursion Q xs
every_map f [] all = tt
every_map f (x ∷ xs) all = (f x all.0, every_map f xs all.1)

pub sets_fit : (view : TableView) (sets : List Set) → AllByRecursion (λ s. s.width ≡ shown.signal_count view) sets → Fits shown_set (shown.signal_names view) sets
sets_fit view sets wide = every_map (λ s e n. eq-eqb _ _ (e ∙ sym (length_names view))) sets wide

pub rules_fit : (view : TableView) (rules : List Rule) → AllByRecursion (λ r. r.premise.width ≡ shown.signal_count view) rules → Fits shown_rule (shown.signal_names view) rules
rules_fit view rules wide = every_map (λ r e n. eq-eqb _ _ (e ∙ sym (length_names view))) rules wide

-- ---- the page of entries that were filled into memory is that of their words

-- the entries kept by a filling are of the type E, and what the page is told by is of the type F
module _
    {E F : Type 0} (shows : Showing E) (tells : Showing F) (word : E → F) (alike : (x : E) (names : List (List ℕ)) (place : ℕ) → (shows x names place).bytes ≡ (tells (word x) names place).bytes)
    (names : List (List ℕ)) where
  lines_told : (place : ℕ) (xs : List E) → lines_of shows names place xs ≡ lines_of tells names place (map word xs)
  lines_told place [] = refl
  lines_told place (x ∷ xs) =
      ap (λ bs. bs ++ lines_of shows names (place + 1) xs) (alike x names place) ∙ ap (λ bs. (tells (word x) names place).bytes ++ bs) (lines_told (place + 1) xs)

  module _ (all : List F) (kept before after : List E) (front : take (length kept) after ≡ kept) (words : map word kept ≡ take (min (length before) max_entries) all) (at : ℕ) (head : List ℕ) (fault : JobFault) (size : ℕ) where
    abbrev page : Result (List ℕ) PageFault
    page = page_at at head (lines_of tells names 0 all) (foot (length all)) size

    abbrev part : Result (List ℕ) JobFault
    part = part_of (length all) (min (length before) max_entries) fault page

    -- more entries than places
    pub part_crowded : min (length before) max_entries < length all → (r : Result ℕ JobFault) (old new : List ℕ) → r ≡ Err fault → (r ≡ behind at part) × Put at part old new
    part_crowded long r old new is =
        let whole : part ≡ Err fault = cond-false _ _ _ (lt-leb _ _ long) in
        (is ∙ sym (ap (behind at) whole), subst (λ p. Put at p old new) (sym whole) tt)

    module _ (count : ℕ) (is_all : count ≡ length all) (room : count ≤ min (length before) max_entries) where
      abbrev pub entries : List E
      entries = take count after

      kept_all : map word kept ≡ all
      kept_all = words ∙ take_all (min (length before) max_entries) all (omega arith)

      pub entries_kept : entries ≡ kept
      entries_kept =
          let many : count ≡ length kept = omega (arith, ap length kept_all, length-map kept word) in
          ap (λ n. take n after) many ∙ front

      entries_all : map word entries ≡ all
      entries_all = ap (map word) entries_kept ∙ kept_all

      number : length entries ≡ length all
      number = sym (length-map entries word) ∙ ap length entries_all

      pub entries_few : length entries ≤ max_lines
      entries_few = omega (arith, number)

      lines_same : lines_of shows names 0 entries ≡ lines_of tells names 0 all
      lines_same = lines_told 0 entries ∙ ap (lines_of tells names 0) entries_all

      paged : part ≡ in_job page
      paged = cond-true _ _ _ (le-leb (length all) (min (length before) max_entries) (omega arith))

      answered : page_answer_of at head (lines_of shows names 0 entries) (foot (length entries)) size ≡ page_answer_of at head (lines_of tells names 0 all) (foot (length all)) size
      answered = ap (λ bs. page_answer_of at head bs (foot (length entries)) size) lines_same ∙ ap (λ n. page_answer_of at head (lines_of tells names 0 all) (foot n) size) number

      -- a page that does not fit
      pub part_full : (r : Result ℕ JobFault) (f : PageFault) (old new : List ℕ) → r ≡ Err (Page f) → Err f ≡ page_answer_of at head (lines_of shows names 0 entries) (foot (length entries)) size
          → (r ≡ behind at part) × Put at part old new
      part_full r f old new is answer = by_test (cases_Bool (leb (at + length (head ++ lines_of tells names 0 all) + reserve) size))
        where
          by_test : (leb (at + length (head ++ lines_of tells names 0 all) + reserve) size ≡ true) ⊎ (leb (at + length (head ++ lines_of tells names 0 all) + reserve) size ≡ false) → (r ≡ behind at part) × Put at part old new
          by_test (inl test) =
              let granted : page_answer_of at head (lines_of shows names 0 entries) (foot (length entries)) size ≡ Ok (at + length (page_of head (lines_of tells names 0 all) (foot (length all)))) = answered ∙ cond-true _ _ _ test in
              absurd (let z : ◌≡◌ {A = ℕ} 0 1 = cc in omega arith)
          by_test (inr test) =
              let refused : page_answer_of at head (lines_of shows names 0 entries) (foot (length entries)) size ≡ Err (OfOutput Full) = answered ∙ cond-false _ _ _ test in
              let why : f ≡ OfOutput Full = cc in
              let whole : part ≡ Err (Page (OfOutput Full)) = paged ∙ ap in_job (cond-false _ _ _ test) in
              (is ∙ ap (λ x. Err (Page x)) why ∙ sym (ap (behind at) whole), subst (λ p. Put at p old new) (sym whole) tt)

      -- a page that fits
      pub part_put : (end : ℕ) (old new : List ℕ) → Ok end ≡ page_answer_of at head (lines_of shows names 0 entries) (foot (length entries)) size
          → new ≡ put_at at (page_of head (lines_of shows names 0 entries) (foot (length entries))) old → (Ok end ≡ behind at part) × Put at part old new
      part_put end old new answer put = by_test (cases_Bool (leb (at + length (head ++ lines_of tells names 0 all) + reserve) size))
        where
          by_test : (leb (at + length (head ++ lines_of tells names 0 all) + reserve) size ≡ true) ⊎ (leb (at + length (head ++ lines_of tells names 0 all) + reserve) size ≡ false) → (Ok end ≡ behind at part) × Put at part old new
          by_test (inl test) =
              let whole : part ≡ Ok (page_of head (lines_of tells names 0 all) (foot (length all))) = paged ∙ ap in_job (cond-true _ _ _ test) in
              let granted : page_answer_of at head (lines_of shows names 0 entries) (foot (length entries)) size ≡ Ok (at + length (page_of head (lines_of tells names 0 all) (foot (length all)))) = answered ∙ cond-true _ _ _ test in
              let same : end ≡ at + length (page_of head (lines_of tells names 0 all) (foot (length all))) = cc in (
                ap Ok same ∙ sym (ap (behind at) whole),
                subst (λ p. Put at p old new) (sym whole)
                    (put ∙ ap (λ bs. put_at at (page_of head bs (foot (length entries))) old) lines_same ∙ ap (λ n. put_at at (page_of head (lines_of tells names 0 all) (foot n)) old) number),
              )
          by_test (inr test) =
              let refused : page_answer_of at head (lines_of shows names 0 entries) (foot (length entries)) size ≡ Err (OfOutput Full) = answered ∙ cond-false _ _ _ test in
              absurd (let z : ◌≡◌ {A = ℕ} 0 1 = cc in omega arith)

-- ---- one part behind another

-- the first is refused
pub followed_refused : (at : ℕ) (p : Result (List ℕ) JobFault) (next : ℕ → Result (List ℕ) JobFault) (r : Result ℕ JobFault) (e : JobFault) (before after : List ℕ) → r ≡ Err e → Err e ≡ behind at p
    → (r ≡ behind at (followed at p next)) × Put at (followed at p next) before after
followed_refused at (Ok bytes) next r e before after is answer = let z : ◌≡◌ {A = ℕ} 0 1 = cc in absurd (omega arith)
followed_refused at (Err f) next r e before after is answer = (is ∙ answer, tt)

onto_put : (at end : ℕ) (bytes before middle after : List ℕ) (q : Result (List ℕ) JobFault) (r : Result ℕ JobFault) → end ≡ at + length bytes → middle ≡ put_at at bytes before → end ≤ length before
    → r ≡ behind end q → Put end q middle after → (r ≡ behind at (onto bytes q)) × Put at (onto bytes q) before after
onto_put at end bytes before middle after (Ok more) r is put room answer more-put = (
  answer ∙ ap Ok (omega (arith, length-append bytes more)),
  more-put ∙ ap (λ n. put_at n more middle) is ∙ ap (put_at (at + length bytes) more) put ∙ put_at_put_at at bytes more before (omega arith),
)
onto_put at end bytes before middle after (Err f) r is put room answer more-put = (answer, tt)

-- it is put, and the next one behind it
pub followed_put : (at end : ℕ) (p : Result (List ℕ) JobFault) (next : ℕ → Result (List ℕ) JobFault) (r : Result ℕ JobFault) (before middle after : List ℕ) → Ok end ≡ behind at p → Put at p before middle → end ≤ length before
    → r ≡ behind end (next end) → Put end (next end) middle after → (r ≡ behind at (followed at p next)) × Put at (followed at p next) before after
followed_put at end (Ok bytes) next r before middle after answer put room more more-put =
    let is : end ≡ at + length bytes = cc in
    onto_put at end bytes before middle after (next (at + length bytes)) r is put room (more ∙ ap (λ n. behind end (next n)) is) (subst (λ n. Put end (next n) middle after) is more-put)
followed_put at end (Err f) next r before middle after answer put room more more-put = let z : ◌≡◌ {A = ℕ} 0 1 = cc in absurd (omega arith)

-- what was reached
pub reached_not : (m : ℕ) (c : ℕ → ℕ) (at : ℕ) (p : Result (List ℕ) JobFault) (e : JobFault) (rules : List Rule) → Err e ≡ behind at p → RulesReached m c p rules rules
reached_not m c at (Ok bytes) e rules answer = let z : ◌≡◌ {A = ℕ} 0 1 = cc in absurd (omega arith)
reached_not m c at (Err f) e rules answer = refl

pub reached : (m : ℕ) (c : ℕ → ℕ) (at end : ℕ) (p : Result (List ℕ) JobFault) (before after : List Rule) → Ok end ≡ behind at p → ruling.Filled m c before after → RulesReached m c p before after
reached m c at end (Ok bytes) before after answer f = f
reached m c at end (Err e) before after answer f = let z : ◌≡◌ {A = ℕ} 0 1 = cc in absurd (omega arith)

-- ---- what was read

-- the bytes taken lie in the text, which is short
pub accepted_inside : (text : List ℕ) (row_room place_room : ℕ) (c : Contents) → Accepted text row_room place_room c → (c.bytes ≤ length text) × (length text ≤ 65000)
accepted_inside text row_room place_room c a =
    let begins = a.fitting.begins in
    (omega (arith, a.read.bytes, ap length begins.1, length-append (text_of a.table) begins.0), a.fitting.short)

-- what is put of a view's table is put of what was read
module _
    (rooms : Rooms) (text : List ℕ) (view : TableView) (n : ℕ) (c : Contents) (r : Result Contents TableFault) (is : r ≡ Ok c)
    (text_is : view.text.now ≡ text) (words_are : view.words.now ≡ c.words) (places_are : view.places.now ≡ c.places) (bytes_are : n ≡ c.bytes) where
  -- what holds of the parts of the view holds of those that were read
  of_read : (P : List ℕ → List ℕ → List Place → Type 0) → P view.text.now view.words.now view.places.now → P text c.words c.places
  of_read P h = subst (λ x. P text c.words x) places_are (subst (λ x. P text x view.places.now) words_are (subst (λ x. P x view.words.now view.places.now) text_is h))

  pub listed_read : closed_page view rooms.sets 0 rooms.size ≡ listed text rooms.sets rooms.size r
  listed_read = of_read (λ t w p. closed_page view rooms.sets 0 rooms.size ≡ closed_part t w p rooms.sets 0 rooms.size) refl ∙ sym (ap (listed text rooms.sets rooms.size) is)

  pub parts_read : parts_on rooms view (drop n text) ≡ read_parts rooms text r
  parts_read =
      of_read (λ t w p. parts_on rooms view (drop n text) ≡ parts_of rooms t w p (drop n text)) refl ∙ ap (λ k. parts_of rooms text c.words c.places (drop k text)) bytes_are
      ∙ sym (ap (read_parts rooms text) is)

  pub sets_read : (before after : List Set) → Filled (shown.signal_count view) (common_in view) before after → SetsAfter r before after
  sets_read before after f = subst (λ x. SetsAfter x before after) (sym is) (of_read (λ t w p. Filled (signals_of w p) (common (signals_of w p) w) before after) f)

  pub rules_read : (before after : List Rule) → RulesReached (shown.signal_count view) (common_in view) (closed_page view rooms.sets 0 rooms.size) before after → RulesAfter rooms text r before after
  rules_read before after f =
      subst (λ x. RulesAfter rooms text x before after) (sym is) (of_read (λ t w p. RulesReached (signals_of w p) (common (signals_of w p) w) (closed_part t w p rooms.sets 0 rooms.size) before after) f)

-- ---- a part put behind what was put

-- `told` is the part by the position and the size of the output
module _ (told : (at size : ℕ) → Result (List ℕ) JobFault) (at : ℕ) (out : List ℕ) (a b : lent.Output) (ea : a.at ≡ at) (eo : a.bytes.now ≡ out) where
  granted_end : (part : Result (List ℕ) JobFault) → Ok tt ≡ done part → (end : ℕ) → EndsBehind at part end → Ok end ≡ behind at part
  granted_end (Ok bytes) e end is = ap Ok is
  granted_end (Err f) e end is = absurd (let z : ◌≡◌ {A = ℕ} 0 1 = cc in omega arith)

  refused_end : (part : Result (List ℕ) JobFault) (f : JobFault) → Err f ≡ done part → Err f ≡ behind at part
  refused_end (Ok bytes) f e = absurd (let z : ◌≡◌ {A = ℕ} 0 1 = cc in omega arith)
  refused_end (Err g) f e = let same : f ≡ g = cc in ap Err same

  pub rest_granted : PutsPart (told a.at (length a.bytes.now)) a (Ok tt) b → (Ok b.at ≡ behind at (told at (length out))) × Put at (told at (length out)) out b.bytes.now
  rest_granted p =
      let answer : Ok tt ≡ done (told at (length out)) = p.answer ∙ ap₂ (λ n o. done (told n (length o))) ea eo in
      let end : EndsBehind at (told at (length out)) b.at = subst (λ n. EndsBehind n (told n (length out)) b.at) ea (subst (λ o. EndsBehind a.at (told a.at (length o)) b.at) eo p.at) in (
        granted_end (told at (length out)) answer b.at end,
        subst (λ n. Put n (told n (length out)) out b.bytes.now) ea (subst (λ o. Put a.at (told a.at (length o)) o b.bytes.now) eo p.output),
      )

  pub rest_refused : (f : JobFault) → PutsPart (told a.at (length a.bytes.now)) a (Err f) b → (Err f ≡ behind at (told at (length out))) × Put at (told at (length out)) out b.bytes.now
  rest_refused f p =
      let answer : Err f ≡ done (told at (length out)) = p.answer ∙ ap₂ (λ n o. done (told n (length o))) ea eo in (
        refused_end (told at (length out)) f answer,
        subst (λ n. Put n (told n (length out)) out b.bytes.now) ea (subst (λ o. Put a.at (told a.at (length o)) o b.bytes.now) eo p.output),
      )
