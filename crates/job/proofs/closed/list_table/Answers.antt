use Rattle.std.proofs.Common.{◌≡◌, length, Err, refl, ap, ◌∙◌, subst, sym}
use Rattle.std.proofs.lemmas.Result.{err_from_is_err_and}
use Rattle.survey.specs.Fills.{Filled}
use Rattle.table.specs.Reading.{read_of}
use Rattle.view.specs.Shown.{signal_count}
use Rattle.view.specs.declared.table_view.TableView.{TableView}
use Rattle.job.specs.Closed.{SetsAfter, listed}
use Rattle.job.specs.Jobs.{Put, Rooms, behind, closed_page, common_in}
use Rattle.job.proofs.Parts.{listed_read, sets_read}
use Rattle.job.proofs.Reporting.{granted, view_fits, reading_refused, refused_reading}
use Rattle.job.proofs.closed.list_table.Goals as goal

pub returns-in_err-reading : goal.returns-in_err-reading
returns-in_err-reading c =
    let read = read_of c.args.text.now (length c.args.words.now) (length c.args.places.now) in
    let p = err_from_is_err_and c.from_residual.result c.from_residual.ensures.1 in
    let q = reading_refused (listed c.args.text.now (length c.args.sets.now) (length c.args.out.now)) (λ e. refl) c.args.out.now read c.in_err-reading.field-0.0 c.from_residual.result
    c.in_err-reading.ensures.answer (p.1 ∙ ap Err p.2) in
    let same = refused_reading read c.in_err-reading.field-0.0 c.in_err-reading.ensures.answer in
    record { answer = q.0; output = q.1; words = c.read.ensures.words; places = c.read.ensures.places; sets = subst (λ r. SetsAfter r c.args.sets.now c.args.sets.now) (sym same) refl }

pub view_read-view-requires : goal.view_read-view-requires
view_read-view-requires c =
    let g = granted c.args.text.now c.args.words.now c.args.places.now c.in_ok-reading.reading c.read.new.words c.read.new.places c.in_ok-reading.ensures.answer c.read.ensures.words c.read.ensures.places in
    let fits = view_fits c.args.text.now c.args.words.now c.args.places.now c.in_ok-reading.reading c.read.new.words c.read.new.places g (search) (search) in
    record { rows = fits.0; names = fits.1; fit = fits.2 }

pub returns : goal.returns
returns c =
    let g = granted c.args.text.now c.args.words.now c.args.places.now c.in_ok-reading.reading c.read.new.words c.read.new.places c.in_ok-reading.ensures.answer c.read.ensures.words c.read.ensures.places in
    let shown = c.view_read-view.ensures in
    let rooms : Rooms = record { sets = length c.args.sets.now; rules = 0; size = length c.args.out.now } in
    let read = read_of c.args.text.now (length c.args.words.now) (length c.args.places.now) in
    let view = c.view_read-view.result in
    let over : c.new.result.view ≡ view = c.new.ensures.view in
    let same = listed_read rooms c.args.text.now view c.in_ok-reading.reading.bytes g.contents read g.is shown.text (shown.words ∙ g.rows) (shown.places ∙ g.names) g.bytes in
    let told : closed_page c.new.result.view (length c.args.sets.now) 0 (length c.args.out.now) ≡ listed c.args.text.now (length c.args.sets.now) (length c.args.out.now) read =
    ap (λ v. closed_page v (length c.args.sets.now) 0 (length c.args.out.now)) over ∙ same in
    record {
      answer = c.write_closed.ensures.answer ∙ ap (behind 0) told;
      output = subst (λ p. Put 0 p c.args.out.now c.write_closed.new.out) told c.write_closed.ensures.output;
      words = c.read.ensures.words;
      places = c.read.ensures.places;
      sets = sets_read rooms c.args.text.now view c.in_ok-reading.reading.bytes g.contents read g.is shown.text (shown.words ∙ g.rows) (shown.places ∙ g.names) g.bytes c.args.sets.now c.write_closed.new.sets
          (subst (λ (v : TableView). Filled (signal_count v) (common_in v) c.args.sets.now c.write_closed.new.sets) over c.write_closed.ensures.sets);
    }
