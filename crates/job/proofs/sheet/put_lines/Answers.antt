use Rattle.std.proofs.Common.{◌≡◌, Err, ap, ◌∙◌, arith, rules}
use Rattle.std.proofs.lemmas.Result.{err_from_is_err_and}
use Rattle.view.specs.Shown.{signal_names}
use Rattle.job.proofs.Lines.{listing_start, listing_more, listing_full, listing_all}
use Rattle.job.proofs.sheet.put_lines.Goals as goal

pub loop-entry-init : goal.loop-entry-init
loop-entry-init g c =
    listing_start g.E.Entry.shown (signal_names c.args.view.now) c.args.page.now.at c.args.page.now.lines c.args.entries.now c.args.out.now c.requires.room

pub loop-entry-preserved : goal.loop-entry-preserved
loop-entry-preserved g c =
    listing_more g.E.Entry.shown (signal_names c.args.view.now) c.args.page.now.at c.args.page.now.lines c.args.entries.now c.args.out.now c.loop-entry.out c.loop-entry.entry-index c.loop-entry.page
    c.lines-place.result c.entry-item.result c.requires.widths c.requires.few c.loop-entry-test.true c.entry-item.is c.lines-place.ensures.value c.loop-entry.invariant c.line.new.out
    c.line.new.self.at c.line.new.self.lines c.in_ok-line.ensures.answer c.line.ensures.output c.line.ensures.at c.line.ensures.lines
    (c.line.ensures.reserved c.loop-entry.invariant.free)

pub returns-in_err-line : goal.returns-in_err-line
returns-in_err-line g c =
    let p = err_from_is_err_and c.from_residual.result c.from_residual.ensures.1 in
    let same : c.from_residual.result ≡ Err c.in_err-line.field-0.0 = p.1 ∙ ap Err p.2 in
    record {
      answer = same
          ∙ listing_full g.E.Entry.shown (signal_names c.args.view.now) c.args.page.now.at c.args.page.now.lines c.args.entries.now c.args.out.now c.loop-entry.out c.loop-entry.entry-index c.loop-entry.page
          c.lines-place.result c.entry-item.result c.requires.widths c.requires.few c.loop-entry-test.true c.entry-item.is c.lines-place.ensures.value c.loop-entry.invariant c.in_err-line.field-0.0
          c.in_err-line.ensures.answer;
      at = search rules;
      lines = search rules;
      output = search rules;
      reserved = c.line.ensures.reserved c.loop-entry.invariant.free;
    }

pub returns : goal.returns
returns g c =
    let all = listing_all g.E.Entry.shown (signal_names c.args.view.now) c.args.page.now.at c.args.page.now.lines c.args.entries.now c.args.out.now c.loop-entry.out c.loop-entry.entry-index c.loop-entry.page.at
    c.loop-entry.page.lines (omega arith) c.loop-entry.invariant in
    record { answer = all.answer; at = all.behind; lines = all.number; output = all.output; reserved = c.loop-entry.invariant.free }
