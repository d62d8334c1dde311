-- The answers to the lines of a text, put one after another.
use Rattle.std.proofs.Common.{◌≡◌, ℕ, zero, suc, ◌+◌, ◌<◌, ◌≤◌, Bool, true, false, cond, eqb, List, [], ◌∷◌, ◌++◌, length, get_or, min, take, Ok, Err, Result, sym, refl, ap, ap₂, ◌∙◌, subst, append_assoc, append-nil, arith, length-append}
use Rattle.std.proofs.lemmas.List.{take-append-le}
use Rattle.std.proofs.lemmas.Bool.{cond-false, cond-true, le-leb, lt-leb}
use Rattle.output.specs.declared.faults.OutputFault.{OutputFault}
use Rattle.output.specs.declared.faults.OutputFault.TheVariants.{Full}
use Rattle.output.specs.Puts.{after_put, put_answer_of, put_at}
use Rattle.output.proofs.Sequels.{refused_long, same_fault}
use Rattle.output.proofs.Writing.{Wrote, length_wrote, wrote_none, wrote_put}
use Rattle.query.specs.Names.{and_then}
use Rattle.query.specs.Queries.{known_after, known_by_line, known_upto, pass_up, reply_by_line, reply_of}
use Rattle.std.specs.List.{IsFirstMatchOrLen}
use Rattle.query.specs.declared.faults.QueryFault.{QueryFault}
use Rattle.query.specs.declared.reply.Reply.{Reply}
use Rattle.text.specs.declared.faults.FieldFault.{FieldFault}
use Rattle.text.specs.Lines.{feed_from}
use Rattle.job.specs.declared.faults.JobFault.{JobFault}
use Rattle.job.specs.declared.faults.JobFault.TheVariants.{Output}
use Rattle.job.specs.Jobs.{EndsBehind, Put, done}
use Rattle.output.specs.declared.output.Output as lent
use Rattle.output.specs.Outputs.{Puts}
use Rattle.output.proofs.Told.{puts_told, puts_untold}
use Rattle.job.specs.Replies.{answer_line, answers_by, answers_of, answers_part, rest_after}

pub length_none : (xs : List ℕ) → length xs ≡ 0 → xs ≡ []
length_none [] e = refl
length_none (x ∷ xs) e = absurd (omega arith)

-- ---- the first line of a text, with its line feed, and what is behind it

-- the part of a text up to its first line feed, at place i, or all of it, is answered as the text is
record FirstLine (line at : ℕ) (left part rest : List ℕ) : Type 0 where
  pub behind : rest ≡ rest_after left
  pub feed : feed_from line at part ≡ feed_from line at left
  pub within : (end : ℕ) → Ok end ≡ feed_from line at left → end ≤ at + length part

first_line : (line at : ℕ) (left part rest : List ℕ) (i : ℕ) → left ≡ part ++ rest → length part ≡ min (i + 1) (length left)
    → ((k d : ℕ) → k < i → eqb (get_or left k d) 10 ≡ false) → (i < length left → (d : ℕ) → eqb (get_or left i d) 10 ≡ true) → FirstLine line at left part rest
first_line line at [] [] rest i split long before here = record { behind = sym split; feed = refl; within = λ end e. let z : ◌≡◌ {A = ℕ} 0 1 = cc in absurd (omega arith) }
first_line line at [] (c ∷ cs) rest i split long before here = absurd (omega (arith, ap length split))
first_line line at (b ∷ bs) [] rest i split long before here = absurd (omega arith)
first_line line at (b ∷ bs) (c ∷ cs) rest zero split long before here =
    let same : b ≡ c = cc in
    let more : bs ≡ cs ++ rest = cc in
    let none : cs ≡ [] = length_none cs (omega arith) in
    let test : eqb b 10 ≡ true = here (omega arith) 0 in
    let found : feed_from line at (b ∷ bs) ≡ Ok at = cond-true _ _ _ test in
    record {
      behind = sym (more ∙ ap (λ xs. xs ++ rest) none) ∙ sym (cond-true _ _ _ test);
      feed = ap (λ x. feed_from line at (x ∷ cs)) (sym same) ∙ cond-true _ _ _ test ∙ sym found;
      within = λ end e. let is : end ≡ at = cc in omega arith;
    }
first_line line at (b ∷ bs) (c ∷ cs) rest (suc i) split long before here =
    let same : b ≡ c = cc in
    let more : bs ≡ cs ++ rest = cc in
    let test : eqb b 10 ≡ false = before 0 0 (omega arith) in
    let further : FirstLine line (at + 1) bs cs rest =
    first_line line (at + 1) bs cs rest i more (omega arith) (λ k d lt. before (suc k) d (omega arith)) (λ lt d. here (omega arith) d) in
    record {
      behind = further.behind ∙ sym (cond-false _ _ _ test);
      feed = ap (λ x. feed_from line at (x ∷ cs)) (sym same) ∙ cond-false _ _ _ test ∙ further.feed ∙ sym (cond-false _ _ _ test);
      within = λ end e. let le : end ≤ at + 1 + length cs = further.within end (e ∙ cond-false _ _ _ test) in omega arith;
    }

module _ (names : List (List ℕ)) (rows : List ℕ) (known line : ℕ) (left part rest : List ℕ) (split : left ≡ part ++ rest) (first : FirstLine line 0 left part rest) where
  front : (end : ℕ) → Ok end ≡ feed_from line 0 left → take end part ≡ take end left
  front end e = sym (take-append-le end part rest (omega (arith, first.within end e))) ∙ ap (take end) (sym split)

  reply_same : reply_of names rows known line part ≡ reply_of names rows known line left
  reply_same = ap (λ r. and_then (pass_up r) (λ end. reply_by_line names rows known line (take end part))) first.feed ∙ of (feed_from line 0 left) front
    where
      of : (r : Result ℕ FieldFault) → ((end : ℕ) → Ok end ≡ r → take end part ≡ take end left)
          → and_then (pass_up r) (λ end. reply_by_line names rows known line (take end part)) ≡ and_then (pass_up r) (λ end. reply_by_line names rows known line (take end left))
      of (Ok end) h = ap (reply_by_line names rows known line) (h end refl)
      of (Err e) h = refl

  known_same : known_after names known line part ≡ known_after names known line left
  known_same = ap (known_upto names known line part) first.feed ∙ of (feed_from line 0 left) front
    where
      of : (r : Result ℕ FieldFault) → ((end : ℕ) → Ok end ≡ r → take end part ≡ take end left) → known_upto names known line part r ≡ known_upto names known line left r
      of (Ok end) h = ap (known_by_line names known line) (h end refl)
      of (Err e) h = refl

-- the next line that cutting a text behind its line feeds gives
pub record NextLine (names : List (List ℕ)) (rows : List ℕ) (known line : ℕ) (left part rest : List ℕ) : Type 0 where
  pub behind : rest ≡ rest_after left
  pub reply : reply_of names rows known line part ≡ reply_of names rows known line left
  pub known_then : known_after names known line part ≡ known_after names known line left
  pub shorter : length rest < length left

pub next_line : (names : List (List ℕ)) (rows : List ℕ) (known line : ℕ) (left part rest : List ℕ) (i : ℕ) → left ≡ part ++ rest → 0 < length left → length part ≡ min (i + 1) (length left)
    → IsFirstMatchOrLen (λ b. eqb b 10) left i → NextLine names rows known line left part rest
next_line names rows known line left part rest i split some long at =
    let first = first_line line 0 left part rest i split long (λ k d lt. at.0 k d (omega arith) lt) (λ lt d. at.1 lt d) in
    record {
      behind = first.behind;
      reply = reply_same names rows known line left part rest split first;
      known_then = known_same names rows known line left part rest split first;
      shorter = omega (arith, ap length split, length-append part rest);
    }

rest_short : (bs : List ℕ) → length (rest_after bs) ≤ length bs
rest_short [] = omega arith
rest_short (b ∷ bs) = at (eqb b 10) (rest_short bs)
  where
    at : (t : Bool) → length (rest_after bs) ≤ length bs → length (cond t bs (rest_after bs)) ≤ suc (length bs)
    at true h = omega arith
    at false h = omega arith

rest_shorter : (b : ℕ) (bs : List ℕ) → length (rest_after (b ∷ bs)) ≤ length bs
rest_shorter b bs = at (eqb b 10) (rest_short bs)
  where
    at : (t : Bool) → length (rest_after bs) ≤ length bs → length (cond t bs (rest_after bs)) ≤ length bs
    at true h = omega arith
    at false h = h

-- ---- line by line

module _ (names : List (List ℕ)) (rows : List ℕ) where
  -- any number of lines that is not too small will do
  fuel : (n k known line : ℕ) (text : List ℕ) → length text ≤ n → length text ≤ k → answers_by names rows n known line text ≡ answers_by names rows k known line text
  fuel zero zero known line text hn hk = refl
  fuel zero (suc k) known line [] hn hk = refl
  fuel zero (suc k) known line (b ∷ bs) hn hk = absurd (omega arith)
  fuel (suc n) zero known line [] hn hk = refl
  fuel (suc n) zero known line (b ∷ bs) hn hk = absurd (omega arith)
  fuel (suc n) (suc k) known line [] hn hk = refl
  fuel (suc n) (suc k) known line (b ∷ bs) hn hk =
      ap (λ xs. answer_line (reply_of names rows known line (b ∷ bs)) ++ xs)
      (fuel n k (known_after names known line (b ∷ bs)) (line + 1) (rest_after (b ∷ bs)) (omega (arith, rest_shorter b bs)) (omega (arith, rest_shorter b bs)))

  -- the answer to the first line, and those to the rest
  pub answers_first : (known line : ℕ) (text : List ℕ) → 0 < length text
      → answers_by names rows (length text) known line text
      ≡ answer_line (reply_of names rows known line text) ++ answers_by names rows (length (rest_after text)) (known_after names known line text) (line + 1) (rest_after text)
  answers_first known line [] h = absurd (omega arith)
  answers_first known line (b ∷ bs) h =
      ap (λ xs. answer_line (reply_of names rows known line (b ∷ bs)) ++ xs)
      (fuel (length bs) (length (rest_after (b ∷ bs))) (known_after names known line (b ∷ bs)) (line + 1) (rest_after (b ∷ bs)) (rest_shorter b bs) (omega arith))

  -- the answers so far stand in the output, and those to the rest of the text are still to come
  pub record Answering (at : ℕ) (whole before after : List ℕ) (end known line : ℕ) (left : List ℕ) : Type 0 where
    pub front : List ℕ
    pub written : Wrote at front before after end
    pub comes : whole ≡ front ++ answers_by names rows (length left) known line left

  pub answering_start_at : (at known line : ℕ) (out left text : List ℕ) → left ≡ text → known ≡ 0 → at ≤ length out → Answering at (answers_of names rows line text) out out at known line left
  answering_start_at at known line out left text all none room =
      record { front = []; written = wrote_none at out room; comes = ap (λ xs. answers_of names rows line xs) (sym all) ∙ ap (λ k. answers_by names rows (length left) k line left) (sym none) }

  module _
      (at : ℕ) (whole before after : List ℕ) (end known line : ℕ) (left : List ℕ) (a : Answering at whole before after end known line left) (some : 0 < length left)
      (reply : Result Reply QueryFault) (is : reply ≡ reply_of names rows known line left) where
    split : whole ≡ (a.front ++ answer_line reply) ++ answers_by names rows (length (rest_after left)) (known_after names known line left) (line + 1) (rest_after left)
    split =
        a.comes ∙ ap (λ xs. a.front ++ xs) (answers_first known line left some)
        ∙ ap (λ r. a.front ++ (answer_line r ++ answers_by names rows (length (rest_after left)) (known_after names known line left) (line + 1) (rest_after left))) (sym is)
        ∙ sym (append_assoc a.front (answer_line reply) _)

    -- an answer that fits
    pub answering_more : (a_out b_out : lent.Output) (r : Result Unit OutputFault) → a_out.at ≡ end → a_out.bytes.now ≡ after → r ≡ Ok tt → Puts (answer_line reply) a_out r b_out
        → (learnt : ℕ) (rest : List ℕ) → learnt ≡ known_after names known line left → rest ≡ rest_after left → Answering at whole before b_out.bytes.now b_out.at learnt (line + 1) rest
    answering_more a_out b_out r ea eo granted puts learnt rest learns goes =
        let put = puts_told (answer_line reply) a_out b_out r granted puts in
        record {
          front = a.front ++ answer_line reply;
          written = wrote_put at a.front (answer_line reply) before after b_out.bytes.now end b_out.at a.written
              (put.0 ∙ ap₂ (λ n o. put_answer_of n (answer_line reply) o) ea eo) (put.1 ∙ ap₂ (λ n o. after_put n (answer_line reply) o) ea eo);
          comes = split
              ∙ ap (λ k. (a.front ++ answer_line reply) ++ answers_by names rows (length (rest_after left)) k (line + 1) (rest_after left)) (sym learns)
              ∙ ap (λ xs. (a.front ++ answer_line reply) ++ answers_by names rows (length xs) learnt (line + 1) xs) (sym goes);
        }

    -- one that does not
    pub answering_full : (a_out b_out : lent.Output) (r : Result Unit JobFault) (f : OutputFault) → a_out.at ≡ end → a_out.bytes.now ≡ after → Puts (answer_line reply) a_out (Err f) b_out → r ≡ Err (Output f)
        → (r ≡ done (answers_part at whole (length before))) × Put at (answers_part at whole (length before)) before b_out.bytes.now × EndsBehind at (answers_part at whole (length before)) b_out.at
    answering_full a_out b_out r f ea eo puts same =
        let answer : Err f ≡ put_answer_of end (answer_line reply) after = puts_untold (answer_line reply) a_out b_out f puts ∙ ap₂ (λ n o. put_answer_of n (answer_line reply) o) ea eo in
        let long : length after < end + length (answer_line reply) = refused_long end (answer_line reply) after f answer in
        let rest = answers_by names rows (length (rest_after left)) (known_after names known line left) (line + 1) (rest_after left) in
        let over : length before < at + length whole =
        omega (arith, a.written.behind, length_wrote _ _ _ _ _ a.written, ap length split, length-append (a.front ++ answer_line reply) rest, length-append a.front (answer_line reply)) in
        let part : answers_part at whole (length before) ≡ Err (Output Full) = cond-false _ _ _ (lt-leb _ _ over) in
        let told : r ≡ Err (Output Full) = same ∙ ap (λ x. Err (Output x)) (same_fault f Full) in (
          told ∙ sym (ap done part),
          subst (λ p. Put at p before b_out.bytes.now) (sym part) tt,
          subst (λ p. EndsBehind at p b_out.at) (sym part) tt,
        )

  -- all lines are answered
  pub answering_all : (at : ℕ) (whole before after : List ℕ) (end known line : ℕ) (left : List ℕ) → Answering at whole before after end known line left → left ≡ []
      → (Ok tt ≡ done (answers_part at whole (length before))) × Put at (answers_part at whole (length before)) before after × EndsBehind at (answers_part at whole (length before)) end
  answering_all at whole before after end known line left a none =
      let same : whole ≡ a.front = a.comes ∙ ap (λ xs. a.front ++ answers_by names rows (length xs) known line xs) none ∙ append-nil a.front in
      let fits : at + length whole ≤ length before = omega (arith, a.written.room, ap length same) in
      let part : answers_part at whole (length before) ≡ Ok whole = cond-true _ _ _ (le-leb _ _ fits) in (
        sym (ap done part),
        subst (λ p. Put at p before after) (sym part) (a.written.whole ∙ ap (λ bs. put_at at bs before) (sym same)),
        subst (λ p. EndsBehind at p end) (sym part) (a.written.behind ∙ ap (λ bs. at + length bs) (sym same)),
      )
