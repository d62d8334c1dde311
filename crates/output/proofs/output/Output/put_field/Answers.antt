use Rattle.std.proofs.Common.{[], ◌∷◌, decimal, arith}
use Rattle.output.proofs.Growing.{grows_last, grows_none, grows_put}
use Rattle.output.proofs.output.Output.put_field.Goals as goal

pub returns : goal.returns
returns c =
    let none = grows_none c.args.self.now (omega (arith, c.requires.room)) in
    let comma = grows_put [] (44 ∷ []) c.args.self.now c.args.self.now c.put.new.self _ (omega (arith, c.requires.room)) none c.put.ensures.puts in
    record { puts = grows_last (44 ∷ []) (decimal c.args.number) c.args.self.now c.put.new.self c.put_number.new.self _ c.requires.room comma.1 c.put_number.ensures.puts }
