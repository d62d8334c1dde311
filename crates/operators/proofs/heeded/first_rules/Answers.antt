use Rattle.std.proofs.Common.{arith}
use Rattle.operators.specs.Heeded.{max_rules}
use Rattle.operators.proofs.Told.{take_least}
use Rattle.operators.proofs.heeded.first_rules.Goals as goal

pub returns : goal.returns
returns c = record { first = take_least max_rules c.min.result c.args.rules.now (omega (arith, c.min.ensures)) }
