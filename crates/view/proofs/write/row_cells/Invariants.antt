use Rattle.std.proofs.Common.{◌≡◌, take}
use Rattle.table.specs.Tables.{cells_at}
use Rattle.view.proofs.write.row_cells.Given as goal

-- the cells so far stand in the row
abbrev pub invariant-loop-signal : goal.invariant-loop-signal
invariant-loop-signal l = take l.signal l.byte-items ≡ cells_at l.signals l.word 0 l.signal
