use Rattle.std.proofs.Common.{refl, ap, length, arith}
use Rattle.query.proofs.Splits.{behind_more}
use Rattle.query.proofs.field.calls.FieldsIterator.next.Goals as goal

pub returns-clause-steps : goal.returns-clause-steps
returns-clause-steps c = (refl, behind_more c.args.self.now.line.now c.args.self.now.at c.field_end-self.result (omega (arith, c.args.self.now.within)) c.field_end-self.ensures.value)

pub returns-clause-goes : goal.returns-clause-goes
returns-clause-goes c =
    let more = behind_more c.args.self.now.line.now c.args.self.now.at c.field_end-self.result (omega (arith, c.args.self.now.within)) c.field_end-self.ensures.value in
    record { on = λ _. (tt, tt, omega (arith, ap length more)); keeps = tt; rests = λ _. tt }
