use Rattle.operators.specs.Columns.{Taken}
use Rattle.operators.proofs.columns.block.Block.take_rows.Given as goal

-- some rows are taken
abbrev pub invariant-loop : goal.invariant-loop
invariant-loop l = Taken l.self.rows.now l.extent l.start l.left.0 l.word
