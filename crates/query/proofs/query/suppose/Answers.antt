use Rattle.std.proofs.Common.{◌≡◌, suc, ◌+◌, ◌-◌, length, Ok, sym, ap, ◌∙◌, arith}
use Rattle.std.proofs.lemmas.Result.{err_from_is_err_and}
use Rattle.query.specs.declared.known.Known.{Known}
use Rattle.query.specs.Lefts.{left, read_as}
use Rattle.query.specs.Queries.{suppose_reply}
use Rattle.query.specs.Rows.{holds_in_rows}
use Rattle.query.proofs.Contained.{held}
use Rattle.query.proofs.Supposes.{suppose_more, suppose_refused, asked_refused, asked_told}
use Rattle.query.proofs.query.suppose.Goals as goal
use Rattle.view.specs.Shown.{signal_names}

pub returns-in_err-word-clause-answer : goal.returns-in_err-word-clause-answer
returns-in_err-word-clause-answer c =
    let names = signal_names c.args.names.now.view in
    let rows = c.args.names.now.view.words.now in
    let size = length c.args.fields.line.now in
    let begun = ap (λ (k : Known). suppose_reply names rows k.word c.args.names.now.line size c.args.count (left c.args.fields)) c.new-supposing.ensures.known in
    let more : c.args.count - c.loop.counter ≡ suc (c.args.count - (c.loop.counter + 1)) = omega arith in
    let refused = suppose_refused names rows c.args.names.now.line size c.loop.supposing.known.now.word (read_as c.in-Some.field) (left c.next.new.self) _ c.in-Some.ensures.steps.1 _ _ more _ c.in_err-word.ensures.word in
    let p = err_from_is_err_and c.from_residual.result c.from_residual.ensures.1 in
    rw (p.1, p.2) (sym refused ∙ c.loop.invariant.0 ∙ begun)

pub loop-preserved : goal.loop-preserved
loop-preserved c =
    let names = signal_names c.args.names.now.view in
    let rows = c.args.names.now.view.words.now in
    let size = length c.args.fields.line.now in
    let more : c.args.count - c.loop.counter ≡ suc (c.args.count - (c.loop.counter + 1)) = omega arith in
    let told = suppose_more names rows c.args.names.now.line size c.loop.supposing.known.now.word (read_as c.in-Some.field) (left c.next.new.self) _ c.in-Some.ensures.steps.1 _ _ more _ c.in_ok-word.ensures.word in
    let word = ap (λ w. suppose_reply names rows w c.args.names.now.line size (c.args.count - (c.loop.counter + 1)) (left c.next.new.self)) c.add.ensures.known in
    (word ∙ sym told ∙ c.loop.invariant.0, c.in-Some.ensures.steps.0 ∙ c.loop.invariant.1, c.add.ensures.old ∙ c.loop.invariant.2, c.add.ensures.lender ∙ c.loop.invariant.3)

pub returns-in_err-asked-clause-answer : goal.returns-in_err-asked-clause-answer
returns-in_err-asked-clause-answer c =
    let names = signal_names c.args.names.now.view in
    let rows = c.args.names.now.view.words.now in
    let size = length c.args.fields.line.now in
    let begun = ap (λ (k : Known). suppose_reply names rows k.word c.args.names.now.line size c.args.count (left c.args.fields)) c.new-supposing.ensures.known in
    let none : c.args.count - c.loop.counter ≡ 0 = omega arith in
    let refused = asked_refused names rows c.args.names.now.line size c.loop.supposing.known.now.word (left c.loop.fields) _ none _ c.in_err-asked.ensures.word in
    let p = err_from_is_err_and c.from_residual-in_err-asked.result c.from_residual-in_err-asked.ensures.1 in
    rw (p.1, p.2) (sym refused ∙ c.loop.invariant.0 ∙ begun)

pub returns-clause-answer : goal.returns-clause-answer
returns-clause-answer c =
    let names = signal_names c.args.names.now.view in
    let rows = c.args.names.now.view.words.now in
    let size = length c.args.fields.line.now in
    let begun = ap (λ (k : Known). suppose_reply names rows k.word c.args.names.now.line size c.args.count (left c.args.fields)) c.new-supposing.ensures.known in
    let none : c.args.count - c.loop.counter ≡ 0 = omega arith in
    let holds : c.rows_hold.result ≡ holds_in_rows rows c.loop.supposing.known.now.word c.in_ok-asked.asked =
    held c.words.result.now c.word-2.result c.in_ok-asked.asked c.rows_hold.result c.rows_hold.ensures.told ∙ ap (λ rs. holds_in_rows rs c.word-2.result c.in_ok-asked.asked) c.words.ensures.words ∙ ap (λ w. holds_in_rows rows w c.in_ok-asked.asked) c.word-2.ensures.word in
    let told = asked_told names rows c.args.names.now.line size c.loop.supposing.known.now.word (left c.loop.fields) _ none c.in_ok-asked.asked c.in_ok-asked.ensures.word c.rows_hold.result holds in
    ap Ok c.from.ensures ∙ sym told ∙ c.loop.invariant.0 ∙ begun
