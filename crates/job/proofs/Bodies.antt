-- A page as its head, the lines behind it, and its foot.
use Rattle.std.proofs.Common.{◌≡◌, ℕ, ◌+◌, ◌<◌, ◌≤◌, true, false, ◌⊎◌, List, ◌++◌, length, IfOk, Ok, Err, Result, sym, ap, ◌∙◌, inl, inr, append_assoc, arith, length-append}
use Rattle.std.proofs.lemmas.Bool.{cases_Bool, cond-false, cond-true, le-leb, leb-false, leb-true, lt-leb}
use Rattle.output.specs.declared.faults.OutputFault.{OutputFault}
use Rattle.output.specs.declared.faults.OutputFault.TheVariants.{Full}
use Rattle.output.specs.Puts.{after_put, put_answer_of, put_at}
use Rattle.output.proofs.Puts.{put_at_put_at}
use Rattle.output.proofs.Writing.{Wrote, length_wrote, wrote_put}
use Rattle.page.specs.declared.faults.PageFault.{PageFault}
use Rattle.page.specs.declared.faults.PageFault.TheVariants.{Output as OfOutput}
use Rattle.page.specs.Pages.{fits_before, put_before, reserve}
use Rattle.job.specs.Lists.{end_answer, page_answer_of}
use Rattle.job.proofs.Lines.{answered}

-- ---- the lines and the foot of a begun page

-- where the lines do not fit, they are refused; `given` is what the code has for the lines
pub end_refused : (at : ℕ) (lines given last out : List ℕ) (r : Result ℕ PageFault) (fault : PageFault) → given ≡ lines → r ≡ Err fault → Err fault ≡ answered at given out → r ≡ end_answer at lines last out
end_refused at lines given last out r fault alike same e = by_test (cases_Bool (fits_before at lines out))
  where
    by_test : (fits_before at lines out ≡ true) ⊎ (fits_before at lines out ≡ false) → r ≡ end_answer at lines last out
    by_test (inl fits) =
        let granted : answered at given out ≡ Ok tt = ap (λ bs. answered at bs out) alike ∙ cond-true _ _ _ fits in
        absurd (let z : ◌≡◌ {A = ℕ} 0 1 = cc in omega arith)
    by_test (inr full) =
        let refused : answered at given out ≡ Err (OfOutput Full) = ap (λ bs. answered at bs out) alike ∙ cond-false _ _ _ full in
        let why : fault ≡ OfOutput Full = cc in
        same ∙ ap Err why ∙ sym (cond-false _ _ _ full)

granted_fits : (at : ℕ) (lines out : List ℕ) → Ok tt ≡ answered at lines out → fits_before at lines out ≡ true
granted_fits at lines out e = by_test (cases_Bool (fits_before at lines out))
  where
    by_test : (fits_before at lines out ≡ true) ⊎ (fits_before at lines out ≡ false) → fits_before at lines out ≡ true
    by_test (inl fits) = fits
    by_test (inr full) =
        let refused : answered at lines out ≡ Err (OfOutput Full) = cond-false _ _ _ full in
        absurd (let z : ◌≡◌ {A = ℕ} 0 1 = cc in omega arith)

-- lines that fit, and the foot behind them
pub end_granted :
    (at : ℕ) (lines given last told before middle later : List ℕ) (next end : ℕ) → given ≡ lines → told ≡ last → Ok tt ≡ answered at given before
    → next ≡ at + length given → middle ≡ put_at at given before → Ok end ≡ put_answer_of next told middle → later ≡ after_put next told middle
    → (Ok end ≡ end_answer at lines last before) × (later ≡ put_at at (lines ++ last) before) × (end ≤ length before)
end_granted at lines given last told before middle later next end alike foretold granted behind put_lines ended put_last =
    let fits = granted_fits at lines before (granted ∙ ap (λ bs. answered at bs before) alike) in
    let le : at + length lines + reserve ≤ length before = leb-true _ _ fits in
    let body : Wrote at lines before middle next = record { whole = put_lines ∙ ap (λ bs. put_at at bs before) alike; behind = behind ∙ ap (λ bs. at + length bs) alike; room = omega arith } in
    let whole = wrote_put at lines last before middle later next end body (ended ∙ ap (λ bs. put_answer_of next bs middle) foretold) (put_last ∙ ap (λ bs. after_put next bs middle) foretold) in
    (ap Ok whole.behind ∙ sym (cond-true _ _ _ fits), whole.whole, omega (arith, whole.behind, whole.room))

-- ---- the head before them

-- where the head does not fit, the page does not
pub head_full : (at : ℕ) (head lines last before : List ℕ) (r : Result ℕ PageFault) (fault : OutputFault) → r ≡ Err (OfOutput fault) → fault ≡ Full → fits_before at head before ≡ false
    → r ≡ page_answer_of at head lines last (length before)
head_full at head lines last before r fault e is full =
    let over : length before < at + length (head ++ lines) + reserve = omega (arith, leb-false _ _ full, length-append head lines) in
    e ∙ ap (λ f. Err (OfOutput f)) is ∙ sym (cond-false _ _ _ (lt-leb _ _ over))

module _ (at : ℕ) (head lines last before after : List ℕ) (next : ℕ) (begun : fits_before at head before ≡ true) (is : next ≡ at + length head) (put : after ≡ put_before at head before) where
  head_fits : at + length head + reserve ≤ length before
  head_fits = leb-true _ _ begun

  head_wrote : Wrote at head before after next
  head_wrote = record { whole = put ∙ cond-true _ _ _ begun; behind = is; room = omega (arith, head_fits) }

  pub long_after : length after ≡ length before
  long_after = length_wrote at head before after next head_wrote

  -- a begun page has room for its foot
  pub head_room : next + reserve ≤ length after
  head_room = omega (arith, is, head_fits, long_after)

  -- what is answered of the lines and the foot is answered of the page
  pub page_answer : (r : Result ℕ PageFault) → r ≡ end_answer next lines last after → r ≡ page_answer_of at head lines last (length before)
  page_answer r e = by_test (cases_Bool (fits_before next lines after))
    where
      by_test : (fits_before next lines after ≡ true) ⊎ (fits_before next lines after ≡ false) → r ≡ page_answer_of at head lines last (length before)
      by_test (inl fits) =
          let le : at + length (head ++ lines) + reserve ≤ length before = omega (arith, leb-true _ _ fits, is, long_after, length-append head lines) in
          let sum : next + length (lines ++ last) ≡ at + length ((head ++ lines) ++ last) =
          omega (arith, is, length-append lines last, length-append head lines, length-append (head ++ lines) last) in
          e ∙ cond-true _ _ _ fits ∙ ap Ok sum ∙ sym (cond-true _ _ _ (le-leb _ _ le))
      by_test (inr full) =
          let over : length before < at + length (head ++ lines) + reserve = omega (arith, leb-false _ _ full, is, long_after, length-append head lines) in
          e ∙ cond-false _ _ _ full ∙ sym (cond-false _ _ _ (lt-leb _ _ over))

  -- and the page stands in the output
  pub page_output : (later : List ℕ) → later ≡ put_at next (lines ++ last) after → later ≡ put_at at ((head ++ lines) ++ last) before
  page_output later put_lines =
      put_lines ∙ ap (λ n. put_at n (lines ++ last) after) is ∙ ap (put_at (at + length head) (lines ++ last)) head_wrote.whole
      ∙ put_at_put_at at head (lines ++ last) before head_wrote.room ∙ ap (λ bs. put_at at bs before) (sym (append_assoc head lines last))

-- what holds of the output of a granted call, told in other words
pub made_from : {E X : Type 0} {P Q : List ℕ → Type 0} → ((later : List ℕ) → P later → Q later) → (r : Result X E) (later : List ℕ) → IfOk r (λ _. P later) → IfOk r (λ _. Q later)
made_from f (Ok x) later h = f later h
made_from f (Err e) later h = h

-- a bound on what a granted call answers, over an output that keeps its length
pub inside_from : {E : Type 0} (r : Result ℕ E) (n k : ℕ) → n ≡ k → IfOk r (λ end. end ≤ n) → IfOk r (λ end. end ≤ k)
inside_from (Ok x) n k e h = omega arith
inside_from (Err f) n k e h = h
