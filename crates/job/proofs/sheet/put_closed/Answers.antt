use Rattle.std.proofs.Common.{length, Err, ap, ◌∙◌, rules}
use Rattle.std.proofs.lemmas.Result.{err_from_is_err_and}
use Rattle.page.specs.Pages.{closed_head, foot, shown_set}
use Rattle.view.specs.Shown.{signal_count, signal_names}
use Rattle.job.specs.Lists.{lines_of}
use Rattle.job.proofs.Bodies.{head_full, head_room, inside_from, long_after, made_from, page_answer, page_output}
use Rattle.job.proofs.sheet.put_closed.Goals as goal

pub returns-in_err-page : goal.returns-in_err-page
returns-in_err-page g c =
    let head = closed_head g.O.Operator.letter (signal_count c.args.view.now) in
    let lines = lines_of shown_set (signal_names c.args.view.now) 0 c.args.sets.now in
    let begun = c.in_err-page.ensures.answer in
    let p = err_from_is_err_and c.from_residual.result c.from_residual.ensures.1 in
    record {
      answer = head_full c.args.at head lines (foot (length c.args.sets.now)) c.args.out.now c.from_residual.result c.in_err-page.field-0.0 (p.1 ∙ ap Err p.2) begun.1 begun.0;
      output = search rules;
      inside = search rules;
    }

pub finish-requires : goal.finish-requires
finish-requires g c =
    let head = closed_head g.O.Operator.letter (signal_count c.args.view.now) in
    let lines = lines_of shown_set (signal_names c.args.view.now) 0 c.args.sets.now in
    let begun = c.in_ok-page.ensures.answer in
    record {
      begun = begun.2;
      widths = c.requires.widths;
      few = c.requires.few;
      room = head_room c.args.at head lines (foot (length c.args.sets.now)) c.args.out.now c.begin_closed.new.out c.in_ok-page.page.at begun.0 begun.1 c.begin_closed.ensures.output;
    }

pub returns : goal.returns
returns g c =
    let head = closed_head g.O.Operator.letter (signal_count c.args.view.now) in
    let lines = lines_of shown_set (signal_names c.args.view.now) 0 c.args.sets.now in
    let begun = c.in_ok-page.ensures.answer in
    record {
      answer = page_answer c.args.at head lines (foot (length c.args.sets.now)) c.args.out.now c.begin_closed.new.out c.in_ok-page.page.at begun.0 begun.1 c.begin_closed.ensures.output
          c.finish.result c.finish.ensures.answer;
      output = made_from (λ later. page_output c.args.at head lines (foot (length c.args.sets.now)) c.args.out.now c.begin_closed.new.out c.in_ok-page.page.at begun.0 begun.1 c.begin_closed.ensures.output later)
          c.finish.result c.finish.new.out c.finish.ensures.output;
      inside = inside_from c.finish.result _ _ (long_after c.args.at head lines (foot (length c.args.sets.now)) c.args.out.now c.begin_closed.new.out c.in_ok-page.page.at begun.0 begun.1 c.begin_closed.ensures.output) c.finish.ensures.inside;
    }
