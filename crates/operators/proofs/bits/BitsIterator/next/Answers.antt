use Rattle.std.proofs.Common.{arith}
use Rattle.operators.proofs.WordBits.{takes_lowest, lowest_less}
use Rattle.operators.proofs.bits.BitsIterator.next.Goals as goal

pub returns-clause-steps : goal.returns-clause-steps
returns-clause-steps c = takes_lowest c.args.self.now.0 (omega arith) (omega arith)

pub returns-clause-goes : goal.returns-clause-goes
returns-clause-goes c =
    record { on = λ f. (tt, f, lowest_less c.args.self.now.0 (omega arith) (omega arith)); keeps = tt; rests = λ _. tt }
