use Rattle.operators.specs.Columns.{Turned}
use Rattle.operators.proofs.columns.columns_of.Given as goal

-- the columns so far
abbrev pub invariant-loop-k : goal.invariant-loop-k
invariant-loop-k l = Turned l.k l.rows l.column-items
