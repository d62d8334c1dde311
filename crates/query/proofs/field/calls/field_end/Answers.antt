use Rattle.std.proofs.Common.{length, sym, ap, ◌∙◌}
use Rattle.query.proofs.Commas.{at_comma, end_is}
use Rattle.query.proofs.field.calls.field_end.Goals as goal

pub returns-in-Some-clause-value : goal.returns-in-Some-clause-value
returns-in-Some-clause-value c = sym (end_is c.args.at c.args.line.now c.rest_from.result.now c.find.result c.requires.inside c.rest_from.ensures.rest c.find.ensures.place ∙ ap (at_comma (length c.args.line.now) c.args.at) c.in-Some.is)

pub returns-in-None-clause-value : goal.returns-in-None-clause-value
returns-in-None-clause-value c = sym (end_is c.args.at c.args.line.now c.rest_from.result.now c.find.result c.requires.inside c.rest_from.ensures.rest c.find.ensures.place ∙ ap (at_comma (length c.args.line.now) c.args.at) c.in-None.is)
