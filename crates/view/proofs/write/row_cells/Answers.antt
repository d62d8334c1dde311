use Rattle.std.proofs.Common.{rules}
use Rattle.view.proofs.Cells.{cells_more}
use Rattle.view.proofs.write.row_cells.Goals as goal

pub loop-signal-preserved : goal.loop-signal-preserved
loop-signal-preserved c = search (rules, cells_more c.args.signals c.args.word c.loop-signal.signal c.loop-signal.byte-items)
