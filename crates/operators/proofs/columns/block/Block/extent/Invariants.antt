use Rattle.std.proofs.Common.{◌≡◌, ℕ, length}
use lib.Bits.{bit_xor}
use Rattle.operators.specs.Columns.{bit_at}
use Rattle.operators.proofs.ByColumns.{Through}
use Rattle.operators.proofs.columns.block.Block.extent.Given as goal

-- the rows that have the wanted bits which are not left
abbrev pub invariant-loop-k : goal.invariant-loop-k
invariant-loop-k l =
    (goal.iterator-loop-k).can_next l.k-iterator × (goal.iterator-loop-k).is_finite l.k-iterator
    × ((k : ℕ) → bit_at l.k-iterator.0 k ≡ 1 → bit_at l.wanted k ≡ 1)
    × Through (length l.self.rows.now) l.self.columns.now (bit_xor l.wanted l.k-iterator.0) l.extent
