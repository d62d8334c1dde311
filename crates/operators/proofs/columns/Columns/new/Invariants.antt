use Rattle.std.proofs.Common.{◌≡◌, ◌*◌, length, drop}
use Rattle.operators.proofs.ByColumns.{Made}
use Rattle.operators.proofs.columns.Columns.new.Given as goal

-- the blocks so far are turned
abbrev pub invariant-loop-b : goal.invariant-loop-b
invariant-loop-b l =
    (l.b-iterator.iter.size ≡ 64) × (l.b-iterator.iter.rest.now ≡ drop (l.b-iterator.count * 64) l.rows) × (length l.blocks ≡ 8)
    × Made l.width l.rows l.blocks l.b-iterator.count
