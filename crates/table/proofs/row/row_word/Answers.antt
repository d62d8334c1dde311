use Rattle.std.proofs.Common.{sym, ◌∙◌, arith, rules}
use Rattle.table.proofs.CellSteps.{cells_none, cells_more, cell_none}
use Rattle.table.proofs.row.row_word.Goals as goal

pub loop-left-init : goal.loop-left-init
loop-left-init c = cells_none c.args.line c.args.cells.now

pub loop-left-preserved : goal.loop-left-preserved
loop-left-preserved c =
    cells_more c.args.line c.loop-left.word c.in-Some.digit c.args.cells.now c.loop-left.left.now
    (search rules) c.loop-left.invariant c.in-Some.ensures

pub returns : goal.returns
returns c = sym (cell_none _ _ _ c.loop-left.left.now (omega arith)) ∙ c.loop-left.invariant.rest
