use Rattle.std.proofs.Common.{length}
use Rattle.theory.specs.Words.{Sub}
use Rattle.operators.specs.Counting.{AllCounted, Follows}
use Rattle.operators.proofs.rule_closure.take_waiting.Given as goal

-- the rules so far are counted for the word, the others still for what was done before
abbrev pub invariant-loop-i : goal.invariant-loop-i
invariant-loop-i l =
    AllCounted l.width l.rules l.missing 0 l.i l.word l.grown
    × AllCounted l.width l.rules l.missing l.i (length l.rules) l.done l.word
    × Sub l.word l.grown × Follows l.width l.rules l.word l.grown
