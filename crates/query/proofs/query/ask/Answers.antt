use Rattle.std.proofs.Common.{◌≡◌, ◌∙◌}
use Rattle.std.proofs.lemmas.Result.{err_from_is_err_and}
use Rattle.query.specs.Queries.{reply_of}
use Rattle.query.proofs.Told.{replies}
use Rattle.query.proofs.Verbs.{line_reply, line_known, unended_reply, unended_known}
use Rattle.query.proofs.query.ask.Goals as goal
use Rattle.view.specs.Shown.{signal_names}
use Rattle.view.proofs.Laws.{fit_lawful}

pub returns-in_err-end-clause-meaning : goal.returns-in_err-end-clause-meaning
returns-in_err-end-clause-meaning c =
    let names = signal_names c.args.view.now in
    let rows = c.args.view.now.words.now in
    let is = c.in_err-end.ensures.value in
    let p = err_from_is_err_and c.from_residual.result c.from_residual.ensures.1 in
    let answer : c.from_residual.result ≡ reply_of names rows c.args.known.now.word c.args.line c.args.text.now =
    rw (p.1, p.2) (unended_reply names rows c.args.known.now.word c.args.line c.args.text.now _ is) in
    let known = unended_known names rows c.args.known.now.word c.args.line c.args.text.now _ is in
    let named = (fit_lawful c.args.view.now.text.now rows c.args.view.now.places.now c.args.view.now.fit).signal_named in
    replies names rows c.args.known.now.word c.args.line c.args.text.now named _ _ answer known

pub returns-clause-meaning : goal.returns-clause-meaning
returns-clause-meaning c =
    let names = signal_names c.args.view.now in
    let rows = c.args.view.now.words.now in
    let is = c.in_ok-end.ensures.value in
    let answer = c.ask_line.ensures.answer ∙ line_reply names rows c.args.known.now.word c.args.line c.args.text.now c.in_ok-end.end is in
    let known = c.ask_line.ensures.known ∙ line_known names rows c.args.known.now.word c.args.line c.args.text.now c.in_ok-end.end is in
    let named = (fit_lawful c.args.view.now.text.now rows c.args.view.now.places.now c.args.view.now.fit).signal_named in
    replies names rows c.args.known.now.word c.args.line c.args.text.now named _ _ answer known
