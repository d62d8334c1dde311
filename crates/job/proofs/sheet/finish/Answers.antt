use Rattle.std.proofs.Common.{◌≡◌, ◌+◌, length, Err, ap, ◌∙◌, zero-add, rules}
use Rattle.std.proofs.lemmas.Result.{err_from_is_err_and}
use Rattle.page.specs.Pages.{foot}
use Rattle.view.specs.Shown.{signal_names}
use Rattle.job.specs.Lists.{lines_of}
use Rattle.job.proofs.Bodies.{end_refused, end_granted}
use Rattle.job.proofs.sheet.finish.Goals as goal

pub returns-in_err-done : goal.returns-in_err-done
returns-in_err-done g c =
    let names = (signal_names c.args.view.now) in
    let lines = lines_of g.E.Entry.shown names 0 c.args.entries.now in
    let given = lines_of g.E.Entry.shown names c.args.page.lines c.args.entries.now in
    let alike : given ≡ lines = ap (λ n. lines_of g.E.Entry.shown names n c.args.entries.now) c.requires.begun in
    let p = err_from_is_err_and c.from_residual.result c.from_residual.ensures.1 in
    record {
      answer = end_refused c.args.page.at lines given (foot (length c.args.entries.now)) c.args.out.now c.from_residual.result c.in_err-done.field-0.0 alike
          (p.1 ∙ ap Err p.2) c.in_err-done.ensures.answer;
      output = search rules;
      inside = search rules;
    }

pub returns : goal.returns
returns g c =
    let names = (signal_names c.args.view.now) in
    let lines = lines_of g.E.Entry.shown names 0 c.args.entries.now in
    let given = lines_of g.E.Entry.shown names c.args.page.lines c.args.entries.now in
    let alike : given ≡ lines = ap (λ n. lines_of g.E.Entry.shown names n c.args.entries.now) c.requires.begun in
    let next = c.put_lines-done.new.page in
    let put = c.in_ok-done.ensures in
    let told : foot next.lines ≡ foot (length c.args.entries.now) =
    ap foot (put.lines ∙ ap (λ n. n + length c.args.entries.now) c.requires.begun ∙ zero-add (length c.args.entries.now)) in
    let whole = end_granted c.args.page.at lines given (foot (length c.args.entries.now)) (foot next.lines) c.args.out.now c.put_lines-done.new.out c.foot-end.new.out next.at
    c.in_ok-end.field-0 alike told put.answer put.at put.output c.in_ok-end.ensures.answer c.foot-end.ensures.output in
    record { answer = whole.0; output = whole.1; inside = whole.2 }
