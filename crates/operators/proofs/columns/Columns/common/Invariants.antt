use Rattle.std.proofs.Common.{◌≡◌, ◌*◌, drop}
use Rattle.operators.proofs.ByColumns.{Narrowing}
use Rattle.operators.proofs.columns.Columns.common.Given as goal

-- the blocks so far are gone through
abbrev pub invariant-loop-b : goal.invariant-loop-b
invariant-loop-b l =
    (l.b-iterator.iter.size ≡ 64) × (l.b-iterator.iter.rest.now ≡ drop (l.b-iterator.count * 64) l.self.rows.now)
    × Narrowing l.self.width l.self.rows.now l.wanted l.b-iterator.iter.rest.now (drop l.b-iterator.count l.self.blocks) l.word
