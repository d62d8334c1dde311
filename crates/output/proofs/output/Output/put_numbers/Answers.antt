use Rattle.std.proofs.Common.{◌∷◌, decimal}
use Rattle.output.proofs.Growing.{step_grows, step_refused, step_room}
use Rattle.output.proofs.output.Output.put_numbers.Goals as goal

pub put_field-requires : goal.put_field-requires
put_field-requires c = record { room = step_room (λ n. 44 ∷ decimal n) c.args.numbers.now c.loop-number.number-index 0 c.args.self.now c.loop-number.self c.requires.room c.loop-number.invariant c.loop-number-test.true }

pub loop-number-preserved : goal.loop-number-preserved
loop-number-preserved c = (step_grows (λ n. 44 ∷ decimal n) c.args.numbers.now c.loop-number.number-index 0 c.args.self.now c.loop-number.self c.requires.room c.loop-number.invariant _ _ c.loop-number-test.true c.put_field.ensures.puts).1

pub returns-in_err-put_field : goal.returns-in_err-put_field
returns-in_err-put_field c =
    step_refused (λ n. 44 ∷ decimal n) c.args.numbers.now c.loop-number.number-index 0 c.args.self.now c.loop-number.self c.requires.room c.loop-number.invariant c.put_field.new.self _ c.loop-number-test.true
    c.in_err-put_field.ensures.puts
