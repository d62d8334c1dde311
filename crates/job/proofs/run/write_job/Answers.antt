use Rattle.std.proofs.Common.{length, Err, refl, ap, ◌∙◌, subst, sym, arith, length-drop}
use Rattle.std.proofs.lemmas.List.{take_rest}
use Rattle.std.proofs.lemmas.Result.{err_from_is_err_and}
use Rattle.table.specs.Reading.{read_of}
use Rattle.job.specs.Closed.{SetsAfter}
use Rattle.job.specs.Jobs.{Put, Rooms, RulesAfter, behind, parts_on, read_parts}
use Rattle.job.proofs.Parts.{accepted_inside, parts_read, rules_read, sets_read}
use Rattle.job.proofs.Reporting.{granted, view_fits, reading_refused, refused_reading}
use Rattle.job.proofs.run.write_job.Goals as goal

pub returns-in_err-reading : goal.returns-in_err-reading
returns-in_err-reading c =
    let rooms : Rooms = record { sets = length c.args.sets.now; rules = length c.args.rules.now; size = length c.args.out.now } in
    let read = read_of c.args.text.now (length c.args.words.now) (length c.args.places.now) in
    let p = err_from_is_err_and c.from_residual.result c.from_residual.ensures.1 in
    let q = reading_refused (read_parts rooms c.args.text.now) (λ e. refl) c.args.out.now read c.in_err-reading.field-0.0 c.from_residual.result
    c.in_err-reading.ensures.answer (p.1 ∙ ap Err p.2) in
    let same = refused_reading read c.in_err-reading.field-0.0 c.in_err-reading.ensures.answer in
    record {
      answer = q.0;
      output = q.1;
      words = c.read.ensures.words;
      places = c.read.ensures.places;
      sets = subst (λ r. SetsAfter r c.args.sets.now c.args.sets.now) (sym same) refl;
      rules = subst (λ r. RulesAfter rooms c.args.text.now r c.args.rules.now c.args.rules.now) (sym same) refl;
    }

pub view_read-view-requires : goal.view_read-view-requires
view_read-view-requires c =
    let g = granted c.args.text.now c.args.words.now c.args.places.now c.in_ok-reading.reading c.read.new.words c.read.new.places c.in_ok-reading.ensures.answer c.read.ensures.words c.read.ensures.places in
    let fits = view_fits c.args.text.now c.args.words.now c.args.places.now c.in_ok-reading.reading c.read.new.words c.read.new.places g (search) (search) in
    record { rows = fits.0; names = fits.1; fit = fits.2 }

pub slice_bounds-write_parts-start : goal.slice_bounds-write_parts-start
slice_bounds-write_parts-start c = (accepted_inside c.args.text.now (length c.args.words.now) (length c.args.places.now) _ c.in_ok-reading.ensures.grammar).0

pub write_parts-requires : goal.write_parts-requires
write_parts-requires c =
    let a = accepted_inside c.args.text.now (length c.args.words.now) (length c.args.places.now) _ c.in_ok-reading.ensures.grammar in
    record { near = omega (arith, a.1, length-drop c.in_ok-reading.reading.bytes c.args.text.now) }

pub returns : goal.returns
returns c =
    let rooms : Rooms = record { sets = length c.args.sets.now; rules = length c.args.rules.now; size = length c.args.out.now } in
    let read = read_of c.args.text.now (length c.args.words.now) (length c.args.places.now) in
    let g = granted c.args.text.now c.args.words.now c.args.places.now c.in_ok-reading.reading c.read.new.words c.read.new.places c.in_ok-reading.ensures.answer c.read.ensures.words c.read.ensures.places in
    let shown = c.view_read-view.ensures in
    let view = c.view_read-view.result in
    let same = ap (parts_on rooms view) (take_rest c.args.text.now c.in_ok-reading.reading.bytes) ∙ parts_read rooms c.args.text.now view c.in_ok-reading.reading.bytes g.contents read g.is shown.text (shown.words ∙ g.rows) (shown.places ∙ g.names) g.bytes in
    record {
      answer = c.write_parts.ensures.answer ∙ ap (behind 0) same;
      output = subst (λ p. Put 0 p c.args.out.now c.write_parts.new.out) same c.write_parts.ensures.output;
      words = c.read.ensures.words;
      places = c.read.ensures.places;
      sets = sets_read rooms c.args.text.now view c.in_ok-reading.reading.bytes g.contents read g.is shown.text (shown.words ∙ g.rows) (shown.places ∙ g.names) g.bytes c.args.sets.now c.write_parts.new.sets c.write_parts.ensures.sets;
      rules = rules_read rooms c.args.text.now view c.in_ok-reading.reading.bytes g.contents read g.is shown.text (shown.words ∙ g.rows) (shown.places ∙ g.names) g.bytes c.args.rules.now c.write_parts.new.rules c.write_parts.ensures.rules;
    }
