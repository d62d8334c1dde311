use Rattle.std.proofs.Common.{◌≡◌, ◌+◌, ◌≤◌, eqb, length, Err, refl, ap, ◌∙◌, sym, subst, inl, add-zero, arith, of_calls, rules}
use Rattle.std.proofs.lemmas.Fn.{always_returns_same}
use Rattle.std.proofs.lemmas.Result.{err_from_is_err_and}
use Rattle.std.specs.Iterator.Adapters.{enumerate_count, enumerate_source}
use Rattle.std.specs.Slice.Iter.{split_inclusive_rest}
use Rattle.query.specs.Queries.{known_after, reply_of}
use Rattle.view.specs.Shown.{signal_names}
use Rattle.job.specs.Replies.{answers_of}
use Rattle.job.proofs.Replying.{Answering, answering_all, answering_full, answering_more, answering_start_at, length_none, next_line}
use Rattle.job.proofs.answers.write_answers.Goals as goal

pub loop-index-init : goal.loop-index-init
loop-index-init c =
    let names = signal_names c.args.view.now in
    let rows = c.args.view.now.words.now in
    let lines = c.into_iter-index-iterator.result in
    let same : lines ≡ c.enumerate-index-items.result = c.into_iter-index-iterator.ensures.into_iter_gives in
    let none : enumerate_count lines ≡ 0 = ap enumerate_count same ∙ c.enumerate-index-items.ensures.count in
    let left = split_inclusive_rest (enumerate_source lines) in
    let all : left ≡ c.args.queries.now = ap (λ e. split_inclusive_rest (enumerate_source e)) same ∙ ap split_inclusive_rest c.enumerate-index-items.ensures.source ∙ c.split_inclusive-lines.ensures.rest in
    let few : enumerate_count lines + length left ≤ length c.args.queries.now = omega (arith, ap length all, none) in
    let first : c.args.line ≡ c.args.line + enumerate_count lines = sym (ap (λ n. c.args.line + n) none ∙ add-zero c.args.line) in (
      (search of_calls, tt, inl (omega (arith, few, c.requires.near))),
      tt,
      few,
      subst (λ n. Answering names rows c.args.out.now.at (answers_of names rows c.args.line c.args.queries.now) c.args.out.now.bytes.now c.args.out.now.bytes.now c.args.out.now.at c.new-known.result.word n left) first
          (answering_start_at names rows c.args.out.now.at c.new-known.result.word c.args.line c.args.out.now.bytes.now left c.args.queries.now all c.new-known.ensures.empty c.requires.room),
      refl,
    )

pub overflow_add-line : goal.overflow_add-line
overflow_add-line c =
    let step = c.in-Some.ensures.steps in
    omega (arith, c.loop-index.invariant.2, c.requires.near, step.1, step.0.2)

pub loop-index-preserved : goal.loop-index-preserved
loop-index-preserved c =
    let names = signal_names c.args.view.now in
    let rows = c.args.view.now.words.now in
    let whole = answers_of names rows c.args.line c.args.queries.now in
    let left = split_inclusive_rest (enumerate_source c.loop-index.index-iterator) in
    let number = c.args.line + enumerate_count c.loop-index.index-iterator in
    let step = c.in-Some.ensures.steps in
    let cut = step.0 in
    let next = next_line names rows c.loop-index.known.word number left c.in-Some.query.now (split_inclusive_rest (enumerate_source c.next.new.self)) cut.1.0 cut.0 cut.2 cut.1.1
    (cut.1.2 (λ b. eqb b 10) (always_returns_same _ (λ a r. r ≡ eqb a.0.now 10) _ (λ a r f k. search rules))).1 in
    let line : c.args.line + c.in-Some.index ≡ number = ap (λ n. c.args.line + n) step.1 in
    let told = c.ask-answer.ensures.answer ∙ ap (λ n. reply_of names rows c.loop-index.known.word n c.in-Some.query.now) line ∙ next.reply in
    let number_next : number + 1 ≡ c.args.line + enumerate_count c.next.new.self = omega (arith, step.2) in (
      c.in-Some.ensures.goes.keeps,
      tt,
      omega (arith, next.shorter, c.loop-index.invariant.2, step.2),
      subst (λ n. Answering names rows c.args.out.now.at whole c.args.out.now.bytes.now c.put_answer.new.out.bytes.now c.put_answer.new.out.at c.ask-answer.new.known.word n (split_inclusive_rest (enumerate_source c.next.new.self))) number_next
          (answering_more names rows c.args.out.now.at whole c.args.out.now.bytes.now c.loop-index.out.bytes.now c.loop-index.out.at c.loop-index.known.word number left c.loop-index.invariant.3 cut.2 c.ask-answer.result told
          c.loop-index.out c.put_answer.new.out _ refl refl c.in_ok-put_answer.was c.put_answer.ensures.puts c.ask-answer.new.known.word (split_inclusive_rest (enumerate_source c.next.new.self))
          (c.ask-answer.ensures.known ∙ ap (λ n. known_after names c.loop-index.known.word n c.in-Some.query.now) line ∙ next.known_then) next.behind),
      c.put_answer.ensures.puts.lent ∙ c.loop-index.invariant.4,
    )

pub returns-in_err-put_answer : goal.returns-in_err-put_answer
returns-in_err-put_answer c =
    let names = signal_names c.args.view.now in
    let rows = c.args.view.now.words.now in
    let whole = answers_of names rows c.args.line c.args.queries.now in
    let left = split_inclusive_rest (enumerate_source c.loop-index.index-iterator) in
    let number = c.args.line + enumerate_count c.loop-index.index-iterator in
    let step = c.in-Some.ensures.steps in
    let cut = step.0 in
    let next = next_line names rows c.loop-index.known.word number left c.in-Some.query.now (split_inclusive_rest (enumerate_source c.next.new.self)) cut.1.0 cut.0 cut.2 cut.1.1
    (cut.1.2 (λ b. eqb b 10) (always_returns_same _ (λ a r. r ≡ eqb a.0.now 10) _ (λ a r f k. search rules))).1 in
    let line : c.args.line + c.in-Some.index ≡ number = ap (λ n. c.args.line + n) step.1 in
    let told = c.ask-answer.ensures.answer ∙ ap (λ n. reply_of names rows c.loop-index.known.word n c.in-Some.query.now) line ∙ next.reply in
    let p = err_from_is_err_and c.from_residual.result c.from_residual.ensures.1 in
    let q = answering_full names rows c.args.out.now.at whole c.args.out.now.bytes.now c.loop-index.out.bytes.now c.loop-index.out.at c.loop-index.known.word number left c.loop-index.invariant.3 cut.2 c.ask-answer.result told
    c.loop-index.out c.put_answer.new.out c.from_residual.result c.in_err-put_answer.field-0.0 refl refl c.in_err-put_answer.ensures.puts (p.1 ∙ ap Err p.2) in
    record { part = record { answer = q.0; output = q.1; at = q.2; lent = c.put_answer.ensures.puts.lent ∙ c.loop-index.invariant.4 } }

pub returns : goal.returns
returns c =
    let names = signal_names c.args.view.now in
    let rows = c.args.view.now.words.now in
    let left = split_inclusive_rest (enumerate_source c.loop-index.index-iterator) in
    let q = answering_all names rows c.args.out.now.at (answers_of names rows c.args.line c.args.queries.now) c.args.out.now.bytes.now c.loop-index.out.bytes.now c.loop-index.out.at c.loop-index.known.word
    (c.args.line + enumerate_count c.loop-index.index-iterator) left c.loop-index.invariant.3 (length_none left c.in-None.ensures.steps.0.0) in
    record { part = record { answer = q.0; output = q.1; at = q.2; lent = c.loop-index.invariant.4 } }
