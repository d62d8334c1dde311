use Rattle.std.proofs.Common.{get_or}
use Rattle.operators.specs.Columns.{Covered}
use Rattle.operators.proofs.WordBits.{Sifting}
use Rattle.operators.proofs.columns.block.Block.sifted.Given as goal

-- the bits that are not left are tested
abbrev pub invariant-loop-k : goal.invariant-loop-k
invariant-loop-k l =
    (goal.iterator-loop-k).can_next l.k-iterator × (goal.iterator-loop-k).is_finite l.k-iterator
    × Sifting (λ k. Covered l.extent (get_or l.self.columns.now k 0)) l.start l.k-iterator.0 l.word
