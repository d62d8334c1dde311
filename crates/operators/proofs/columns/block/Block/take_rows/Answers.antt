use Rattle.operators.proofs.ByColumns.{taken_more}
use Rattle.operators.proofs.columns.block.Block.take_rows.Goals as goal

pub loop-preserved : goal.loop-preserved
loop-preserved c =
    taken_more c.args.self.now.rows.now c.args.extent c.args.start c.loop.left.0 c.loop.word c.in-Some.s c.next.new.self.0 c.loop.invariant
    c.in-Some.ensures.steps
