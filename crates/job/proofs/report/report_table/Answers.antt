use Rattle.std.proofs.Common.{length, Err, refl, ap, ◌∙◌}
use Rattle.std.proofs.lemmas.Result.{err_from_is_err_and}
use Rattle.table.specs.Reading.{read_of}
use Rattle.job.specs.Reports.{fitted}
use Rattle.job.proofs.Reporting.{granted, view_fits, reading_refused, report_granted, report_refused}
use Rattle.job.proofs.report.report_table.Goals as goal

pub returns-in_err-reading : goal.returns-in_err-reading
returns-in_err-reading c =
    let p = err_from_is_err_and c.from_residual.result c.from_residual.ensures.1 in
    let q = reading_refused (fitted c.args.text.now (length c.args.out.now)) (λ e. refl) c.args.out.now (read_of c.args.text.now (length c.args.words.now) (length c.args.places.now)) c.in_err-reading.field-0.0 c.from_residual.result
    c.in_err-reading.ensures.answer (p.1 ∙ ap Err p.2) in
    record { answer = q.0; output = q.1; words = c.read.ensures.words; places = c.read.ensures.places }

pub view_read-view-requires : goal.view_read-view-requires
view_read-view-requires c =
    let g = granted c.args.text.now c.args.words.now c.args.places.now c.in_ok-reading.reading c.read.new.words c.read.new.places c.in_ok-reading.ensures.answer c.read.ensures.words c.read.ensures.places in
    let fits = view_fits c.args.text.now c.args.words.now c.args.places.now c.in_ok-reading.reading c.read.new.words c.read.new.places g (search) (search) in
    record { rows = fits.0; names = fits.1; fit = fits.2 }

pub returns-in_err-put_report : goal.returns-in_err-put_report
returns-in_err-put_report c =
    let g = granted c.args.text.now c.args.words.now c.args.places.now c.in_ok-reading.reading c.read.new.words c.read.new.places c.in_ok-reading.ensures.answer c.read.ensures.words c.read.ensures.places in
    let shown = c.view_read-view.ensures in
    let p = err_from_is_err_and c.from_residual-in_err-put_report.result c.from_residual-in_err-put_report.ensures.1 in
    let q = report_refused c.args.text.now c.args.words.now c.args.places.now c.in_ok-reading.reading c.read.new.words c.read.new.places g c.view_read-view.result shown.text shown.words shown.places
    c.args.out.now c.put_report.new.out c.in_err-put_report.field-0.0 c.from_residual-in_err-put_report.result c.in_err-put_report.ensures.answer (p.1 ∙ ap Err p.2) in
    record { answer = q.0; output = q.1; words = c.read.ensures.words; places = c.read.ensures.places }

pub returns : goal.returns
returns c =
    let g = granted c.args.text.now c.args.words.now c.args.places.now c.in_ok-reading.reading c.read.new.words c.read.new.places c.in_ok-reading.ensures.answer c.read.ensures.words c.read.ensures.places in
    let shown = c.view_read-view.ensures in
    let q = report_granted c.args.text.now c.args.words.now c.args.places.now c.in_ok-reading.reading c.read.new.words c.read.new.places g c.view_read-view.result shown.text shown.words shown.places
    c.args.out.now c.put_report.new.out c.in_ok-put_report.field-0 c.in_ok-put_report.ensures.answer c.in_ok-put_report.ensures.output in
    record { answer = q.0; output = q.1; words = c.read.ensures.words; places = c.read.ensures.places }
