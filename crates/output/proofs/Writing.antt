-- Bytes written into an output one put after another.
use Rattle.std.proofs.Common.{◌≡◌, ℕ, ◌+◌, ◌≤◌, List, [], ◌++◌, length, Ok, Err, Result, sym, refl, ap, ◌∙◌, add-zero, add_assoc, arith, length-append}
use Rattle.output.specs.declared.faults.OutputFault.{OutputFault}
use Rattle.output.specs.Puts.{put_at, put_answer_of, after_put}
use Rattle.output.proofs.Puts.{answer_fits, output_fits, granted_fits, never_refused, length_put_at, put_at_put_at, put_at_none}

-- the bytes stand at a position of the output, which ends behind them, and the rest is as before
pub record Wrote (from : ℕ) (bytes before after : List ℕ) (end : ℕ) : Type 0 where
  pub whole : after ≡ put_at from bytes before
  pub behind : end ≡ from + length bytes
  pub room : from + length bytes ≤ length before

-- nothing is written yet
pub wrote_none : (from : ℕ) (out : List ℕ) → from ≤ length out → Wrote from [] out out from
wrote_none from out le = record { whole = put_at_none from out; behind = sym (add-zero from); room = omega arith }

pub length_wrote : (from : ℕ) (bytes before after : List ℕ) (end : ℕ) → Wrote from bytes before after end → length after ≡ length before
length_wrote from bytes before after end w = ap length w.whole ∙ length_put_at from bytes before w.room

-- the front of what has room has room
pub front_room : (from n : ℕ) (bytes more : List ℕ) → from + length (bytes ++ more) ≤ n → from + length bytes ≤ n
front_room from n bytes more room = omega (arith, length-append bytes more)

-- more bytes behind
pub wrote_more : (from : ℕ) (bytes more before after later : List ℕ) (end next : ℕ) → Wrote from bytes before after end → from + length (bytes ++ more) ≤ length before
    → next ≡ end + length more → later ≡ put_at end more after → Wrote from (bytes ++ more) before later next
wrote_more from bytes more before after later end next w room e put =
    record {
      whole = put ∙ ap (λ n. put_at n more after) w.behind ∙ ap (put_at (from + length bytes) more) w.whole ∙ put_at_put_at from bytes more before w.room;
      behind = e ∙ ap (λ n. n + length more) w.behind ∙ add_assoc from (length bytes) (length more) ∙ ap (λ n. from + n) (sym (length-append bytes more));
      room = room;
    }

-- there is room for them
pub wrote_room : (from : ℕ) (bytes more before after : List ℕ) (end : ℕ) → Wrote from bytes before after end → from + length (bytes ++ more) ≤ length before → end + length more ≤ length after
wrote_room from bytes more before after end w room = omega (arith, w.behind, length_wrote from bytes before after end w, length-append bytes more)

-- so a put behind them is not refused
pub wrote_break : {A : Type 0} (from : ℕ) (bytes more before after : List ℕ) (end : ℕ) (fault : OutputFault) → Wrote from bytes before after end → from + length (bytes ++ more) ≤ length before
    → Err fault ≡ put_answer_of end more after → A
wrote_break from bytes more before after end fault w room e = never_refused end more after fault (wrote_room from bytes more before after end w room) (sym e)

-- a put behind them that is granted writes them
pub wrote_put : (from : ℕ) (bytes more before after later : List ℕ) (end next : ℕ) → Wrote from bytes before after end
    → Ok next ≡ put_answer_of end more after → later ≡ after_put end more after → Wrote from (bytes ++ more) before later next
wrote_put from bytes more before after later end next w e put =
    let fits : end + length more ≤ length after = granted_fits end next more after e in
    let answer : put_answer_of end more after ≡ Ok (end + length more) = answer_fits end more after fits in
    let same : next ≡ end + length more = cc in
    wrote_more from bytes more before after later end next w
    (omega (arith, w.behind, length_wrote from bytes before after end w, length-append bytes more)) same (put ∙ output_fits end more after fits)

-- the answer and the output at the end
pub wrote_answer : (from : ℕ) (bytes more before after : List ℕ) (end : ℕ) (r : Result ℕ OutputFault) → Wrote from bytes before after end → from + length (bytes ++ more) ≤ length before
    → r ≡ put_answer_of end more after → r ≡ Ok (from + length (bytes ++ more))
wrote_answer from bytes more before after end r w room e =
    let sum : end + length more ≡ from + length (bytes ++ more) = omega (arith, w.behind, length-append bytes more) in
    e ∙ answer_fits end more after (wrote_room from bytes more before after end w room) ∙ ap Ok sum

pub wrote_output : (from : ℕ) (bytes more before after later : List ℕ) (end : ℕ) → Wrote from bytes before after end → from + length (bytes ++ more) ≤ length before
    → later ≡ after_put end more after → later ≡ put_at from (bytes ++ more) before
wrote_output from bytes more before after later end w room put =
    (wrote_more from bytes more before after later end (end + length more) w room refl (put ∙ output_fits end more after (wrote_room from bytes more before after end w room))).whole
