-- The lines of the entries of a list, put one after another behind the head of a page.
use Rattle.std.proofs.Common.{◌≡◌, ℕ, zero, suc, ◌+◌, ◌<◌, ◌≤◌, true, false, cond, ltb, ◌⊎◌, List, [], ◌∷◌, ◌++◌, length, get_or, take, drop, Ok, Err, Result, sym, ap, ◌∙◌, subst, inl, inr, append_assoc, append-nil, add-zero, arith, length-append}
use Rattle.std.specs.List.{AllByRecursion}
use Rattle.std.proofs.lemmas.List.{take_more, take_all, length-take-le, take-append-drop}
use Rattle.std.proofs.lemmas.Bool.{and_from, and_right, cases_Bool, cond-false, cond-true, le-leb, leb-false, leb-true, lt-leb, lt-ltb}
use Rattle.output.specs.declared.faults.OutputFault.TheVariants.{Full}
use Rattle.output.specs.Puts.{put_at}
use Rattle.output.proofs.Writing.{Wrote, length_wrote, wrote_none, wrote_more}
use Rattle.page.specs.declared.faults.PageFault.{PageFault}
use Rattle.page.specs.declared.faults.PageFault.TheVariants.{Output as OfOutput}
use Rattle.page.specs.declared.page.Page.{Page}
use Rattle.page.specs.Pages.{at_with, fits_before, line_answer, lines_with, max_lines, output_with, reserve, takes}
use Rattle.job.specs.Lists.{Fits, Showing, lines_of}

-- what is answered of bytes that are put before the bytes of the foot
abbrev pub answered : (from : ℕ) → (bytes before : List ℕ) → Result Unit PageFault
answered from bytes before = cond (fits_before from bytes before) (Ok tt) (Err (OfOutput Full))

-- what holds of every element holds of the one at a place
every_at : {X : Type 0} (P : X → Type 0) (xs : List X) (i : ℕ) (d : X) → i < length xs → AllByRecursion P xs → P (get_or xs i d)
every_at P [] i d lt h = absurd (omega arith)
every_at P (x ∷ xs) zero d lt h = h.0
every_at P (x ∷ xs) (suc i) d lt h = every_at P xs i d (omega arith) h.1

module _ {E : Type 0} (shown : Showing E) (names : List (List ℕ)) where
  -- the lines of two lists, one behind the other
  lines_append : (place : ℕ) (xs ys : List E) → lines_of shown names place (xs ++ ys) ≡ lines_of shown names place xs ++ lines_of shown names (place + length xs) ys
  lines_append place [] ys = ap (λ p. lines_of shown names p ys) (sym (add-zero place))
  lines_append place (x ∷ xs) ys =
      let next : place + 1 + length xs ≡ place + length (x ∷ xs) = omega arith in
      ap (λ zs. (shown x names place).bytes ++ zs) (lines_append (place + 1) xs ys ∙ ap (λ p. lines_of shown names (place + 1) xs ++ lines_of shown names p ys) next)
      ∙ sym (append_assoc (shown x names place).bytes (lines_of shown names (place + 1) xs) (lines_of shown names (place + length (x ∷ xs)) ys))

  -- where the page stands after the first i entries
  pub record Listing (from place : ℕ) (xs : List E) (before after : List ℕ) (i at lines : ℕ) : Type 0 where
    pub written : Wrote from (lines_of shown names place (take i xs)) before after at
    pub number : lines ≡ place + i
    pub free : at + reserve ≤ length after

  pub listing_start : (at lines : ℕ) (xs : List E) (out : List ℕ) → at + reserve ≤ length out → Listing at lines xs out out 0 at lines
  listing_start at lines xs out room = record { written = wrote_none at out (omega arith); number = sym (add-zero lines); free = room }

  module _ (place : ℕ) (xs : List E) where
    -- the first lines are no longer than all
    first_short : (i : ℕ) → length (lines_of shown names place (take i xs)) ≤ length (lines_of shown names place xs)
    first_short i =
        let split : lines_of shown names place xs ≡ lines_of shown names place (take i xs) ++ lines_of shown names (place + length (take i xs)) (drop i xs) =
        ap (lines_of shown names place) (sym (take-append-drop i xs)) ∙ lines_append place (take i xs) (drop i xs) in
        omega (arith, ap length split, length-append (lines_of shown names place (take i xs)) (lines_of shown names (place + length (take i xs)) (drop i xs)))

    -- one entry more
    first_more : (i : ℕ) (d : E) → i < length xs → lines_of shown names place (take (i + 1) xs) ≡ lines_of shown names place (take i xs) ++ (shown (get_or xs i d) names (place + i)).bytes
    first_more i d lt =
        ap (lines_of shown names place) (take_more xs i d lt) ∙ lines_append place (take i xs) (get_or xs i d ∷ [])
        ∙ ap (λ zs. lines_of shown names place (take i xs) ++ zs) (append-nil (shown (get_or xs i d) names (place + length (take i xs))).bytes)
        ∙ ap (λ n. lines_of shown names place (take i xs) ++ (shown (get_or xs i d) names (place + n)).bytes) (length-take-le i xs (omega arith))

  -- the line of the next entry, which the page stands before
  module _
      (from place : ℕ) (xs : List E) (before after : List ℕ) (i : ℕ) (page : Page) (here : ℕ) (x : E)
      (wide : Fits shown names xs) (few : place + length xs ≤ 4096) (lt : i < length xs) (is : x ≡ get_or xs i x) (e : here ≡ page.lines)
      (l : Listing from place xs before after i page.at page.lines) where
    with_line : lines_of shown names place (take (i + 1) xs) ≡ lines_of shown names place (take i xs) ++ (shown x names here).bytes
    with_line =
        first_more place xs i x lt
        ∙ ap (λ y. lines_of shown names place (take i xs) ++ (shown y names (place + i)).bytes) (sym is)
        ∙ ap (λ n. lines_of shown names place (take i xs) ++ (shown x names n).bytes) (sym l.number ∙ sym e)

    shown_same_width : (shown x names here).same_width ≡ true
    shown_same_width = ap (λ y. (shown y names here).same_width) is ∙ every_at (λ y. (n : ℕ) → (shown y names n).same_width ≡ true) xs i x lt wide here

    some_left : ltb page.lines max_lines ≡ true
    some_left = lt-ltb _ _ (omega (arith, l.number))

    long_after : length after ≡ length before
    long_after = length_wrote from (lines_of shown names place (take i xs)) before after page.at l.written

    -- a granted line is the next of the listing
    pub listing_more : (later : List ℕ) (at lines : ℕ) → Ok tt ≡ line_answer page (shown x names here) after → later ≡ output_with page (shown x names here) after → at ≡ at_with page (shown x names here) after
        → lines ≡ lines_with page (shown x names here) after → at + reserve ≤ length later → Listing from place xs before later (i + 1) at lines
    listing_more later at lines answer put behind number free = by_test (cases_Bool (fits_before page.at (shown x names here).bytes after))
      where
        by_test : (fits_before page.at (shown x names here).bytes after ≡ true) ⊎ (fits_before page.at (shown x names here).bytes after ≡ false)
            → Listing from place xs before later (i + 1) at lines
        by_test (inl fits) =
            let yes : takes page (shown x names here) after ≡ true = and_from _ _ shown_same_width (and_from _ _ some_left fits) in
            let le : page.at + length (shown x names here).bytes + reserve ≤ length after = leb-true _ _ fits in
            let room : from + length (lines_of shown names place (take i xs) ++ (shown x names here).bytes) ≤ length before =
            omega (arith, l.written.behind, long_after, length-append (lines_of shown names place (take i xs)) (shown x names here).bytes) in
            record {
              written = subst (λ bs. Wrote from bs before later at) (sym with_line)
                  (wrote_more from (lines_of shown names place (take i xs)) (shown x names here).bytes before after later page.at at l.written room (behind ∙ cond-true _ _ _ yes) (put ∙ cond-true _ _ _ yes));
              number = omega (arith, number ∙ cond-true _ _ _ yes, l.number);
              free = free;
            }
        by_test (inr full) =
            let refused : line_answer page (shown x names here) after ≡ Err (OfOutput Full) = cond-true _ _ _ shown_same_width ∙ cond-false _ _ _ (and_right (ltb page.lines max_lines) _ full) in
            absurd (let z : ◌≡◌ {A = ℕ} 0 1 = cc in omega arith)

    -- where a line is refused, all lines do not fit
    pub listing_full : (fault : PageFault) → Err fault ≡ line_answer page (shown x names here) after → Err fault ≡ answered from (lines_of shown names place xs) before
    listing_full fault answer = by_test (cases_Bool (fits_before page.at (shown x names here).bytes after))
      where
        by_test : (fits_before page.at (shown x names here).bytes after ≡ true) ⊎ (fits_before page.at (shown x names here).bytes after ≡ false)
            → Err fault ≡ answered from (lines_of shown names place xs) before
        by_test (inl fits) =
            let granted : line_answer page (shown x names here) after ≡ Ok tt = cond-true _ _ _ shown_same_width ∙ cond-true _ _ _ (and_from _ _ some_left fits) in
            absurd (let z : ◌≡◌ {A = ℕ} 0 1 = cc in omega arith)
        by_test (inr full) =
            let gt : length after < page.at + length (shown x names here).bytes + reserve = leb-false _ _ full in
            let over : length before < from + length (lines_of shown names place xs) + reserve =
            omega (
              arith,
              l.written.behind,
              long_after,
              first_short place xs (i + 1),
              ap length with_line,
              length-append (lines_of shown names place (take i xs)) (shown x names here).bytes,
            ) in
            answer ∙ cond-true _ _ _ shown_same_width ∙ cond-false _ _ _ (and_right _ _ full) ∙ sym (cond-false _ _ _ (lt-leb _ _ over))

  -- all lines are put
  pub record Listed (from place : ℕ) (xs : List E) (before after : List ℕ) (at lines : ℕ) : Type 0 where
    pub answer : Ok tt ≡ answered from (lines_of shown names place xs) before
    pub behind : at ≡ from + length (lines_of shown names place xs)
    pub number : lines ≡ place + length xs
    pub output : after ≡ put_at from (lines_of shown names place xs) before

  pub listing_all : (from place : ℕ) (xs : List E) (before after : List ℕ) (i at lines : ℕ) → i ≡ length xs → Listing from place xs before after i at lines → Listed from place xs before after at lines
  listing_all from place xs before after i at lines e l =
      let w : Wrote from (lines_of shown names place xs) before after at = subst (λ ys. Wrote from (lines_of shown names place ys) before after at) (take_all i xs (omega arith)) l.written in
      let fits : from + length (lines_of shown names place xs) + reserve ≤ length before = omega (arith, w.behind, length_wrote _ _ _ _ _ w, l.free) in
      record { answer = sym (cond-true _ _ _ (le-leb _ _ fits)); behind = w.behind; number = l.number ∙ ap (λ n. place + n) e; output = w.whole }
