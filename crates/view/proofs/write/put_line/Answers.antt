use Rattle.std.proofs.Common.{ℕ, List, [], ◌∷◌, length, arith}
use Rattle.output.specs.declared.output.Output.{Output}
use Rattle.output.proofs.Growing.{grows_last, grows_none, grows_put}
use Rattle.output.proofs.Writing.{front_room}
use Rattle.view.proofs.write.put_line.Goals as goal

pub returns : goal.returns
returns c =
    let a : Output = c.args.out.now in
    let bytes : List ℕ = c.args.bytes.now in
    let w = grows_put [] bytes a a c.put.new.self _ (front_room a.at (length a.bytes.now) bytes (10 ∷ []) c.requires.room) (grows_none a (omega (arith, c.requires.room))) c.put.ensures.puts in
    record { puts = grows_last bytes (10 ∷ []) a c.put.new.self c.put-2.new.self _ c.requires.room w.1 c.put-2.ensures.puts }
