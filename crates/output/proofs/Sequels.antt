-- Bytes put at a position, and more bytes put at the front of what is left behind them.
use Rattle.std.proofs.Common.{◌≡◌, ℕ, ◌+◌, ◌-◌, ◌<◌, ◌≤◌, ◌⊎◌, List, ◌++◌, length, take, drop, Ok, Err, sym, refl, ap, ◌∙◌, inl, inr, zero-add, arith, length-append, length-drop}
use Rattle.std.proofs.lemmas.List.{drop-drop}
use Rattle.std.proofs.lemmas.Bool.{cases_lt, cond-false, lt-leb}
use Rattle.output.specs.declared.faults.OutputFault.{OutputFault}
use Rattle.output.specs.declared.faults.OutputFault.TheVariants.{Full}
use Rattle.output.specs.Puts.{put_answer_of, put_at, after_put}
use Rattle.output.proofs.Puts.{answer_fits, output_fits, never_refused, granted_fits}
use Rattle.output.proofs.Writing.{Wrote, length_wrote, wrote_more}

-- what does not fit is refused
pub answer_full : (at : ℕ) (bytes out : List ℕ) → length out < at + length bytes → put_answer_of at bytes out ≡ Err Full
answer_full at bytes out lt = cond-false _ _ _ (lt-leb (at + length bytes) (length out) lt)

-- what is refused does not fit
pub refused_long : (at : ℕ) (bytes out : List ℕ) (fault : OutputFault) → Err fault ≡ put_answer_of at bytes out → length out < at + length bytes
refused_long at bytes out fault e = by_order (cases_lt (length out) (at + length bytes))
  where
    by_order : (length out < at + length bytes) ⊎ (at + length bytes ≤ length out) → length out < at + length bytes
    by_order (inl lt) = lt
    by_order (inr le) = never_refused at bytes out fault le (sym e)

-- there is one refusal
pub same_fault : (fault other : OutputFault) → fault ≡ other
same_fault Full Full = refl

-- where the first bytes do not fit, all do not
pub refused_front : (at : ℕ) (bytes more out : List ℕ) (fault : OutputFault) → Err fault ≡ put_answer_of at bytes out → put_answer_of at (bytes ++ more) out ≡ Err fault
refused_front at bytes more out fault e =
    answer_full at (bytes ++ more) out (omega (arith, refused_long at bytes out fault e, length-append bytes more)) ∙ ap Err (same_fault Full fault)

module _ (bytes more before after : List ℕ) (at : ℕ) (w : Wrote 0 bytes before after at) where
  rest_length : length (drop at after) ≡ length before - length bytes
  rest_length = omega (arith, length-drop at after, length_wrote 0 bytes before after at w, w.behind)

  -- where the rest does not fit behind them, all do not
  pub refused_rest : (fault : OutputFault) → Err fault ≡ put_answer_of 0 more (drop at after) → put_answer_of 0 (bytes ++ more) before ≡ Err fault
  refused_rest fault e =
      answer_full 0 (bytes ++ more) before (omega (arith, refused_long 0 more (drop at after) fault e, rest_length, w.room, length-append bytes more)) ∙ ap Err (same_fault Full fault)

  -- granted, both stand at the front
  pub granted_rest : (next : ℕ) (rest : List ℕ) → Ok next ≡ put_answer_of 0 more (drop at after) → rest ≡ after_put 0 more (drop at after)
      → (Ok (at + next) ≡ put_answer_of 0 (bytes ++ more) before) × (take at after ++ rest ≡ put_at 0 (bytes ++ more) before)
  granted_rest next rest e put =
      let fits : 0 + length more ≤ length (drop at after) = granted_fits 0 next more (drop at after) e in
      let answer : put_answer_of 0 more (drop at after) ≡ Ok (0 + length more) = answer_fits 0 more (drop at after) fits in
      let same : next ≡ 0 + length more = cc in
      let room : 0 + length (bytes ++ more) ≤ length before = omega (arith, rest_length, w.room, length-append bytes more) in
      let sum : at + next ≡ 0 + length (bytes ++ more) = omega (arith, w.behind, length-append bytes more) in
      let written : rest ≡ more ++ drop (at + length more) after =
      put ∙ output_fits 0 more (drop at after) fits ∙ ap (λ k. more ++ drop k (drop at after)) (zero-add (length more)) ∙ ap (λ xs. more ++ xs) (drop-drop (length more) at after) in
      let whole : take at after ++ rest ≡ put_at at more after = ap (λ xs. take at after ++ xs) written in (
        ap Ok sum ∙ sym (answer_fits 0 (bytes ++ more) before room),
        (wrote_more 0 bytes more before after (take at after ++ rest) at (at + next) w room (ap (λ n. at + n) (same ∙ zero-add (length more))) whole).whole,
      )
