use Rattle.query.proofs.Splits.{line_first}
use Rattle.query.proofs.field.Fields.split.Goals as goal

pub returns-clause-fields : goal.returns-clause-fields
returns-clause-fields c = line_first c.args.line.now c.field_end-at.result c.field_end-at.ensures.value
