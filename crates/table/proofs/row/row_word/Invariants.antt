use Rattle.std.proofs.Common.{length}
use Rattle.table.proofs.CellSteps.{CellsRead}
use Rattle.table.proofs.row.row_word.Given as goal

abbrev pub invariant-loop-left : goal.invariant-loop-left
invariant-loop-left l = CellsRead l.line l.cells l.word l.left

abbrev pub decreases-loop-left : goal.decreases-loop-left
decreases-loop-left l = length l.left
