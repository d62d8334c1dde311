use Rattle.theory.specs.Words.{Sub}
use Rattle.operators.specs.Counting.{AllCounted, Follows}
use Rattle.operators.proofs.rule_closure.count_missing.Given as goal

-- the rules so far are counted
abbrev pub invariant-loop-i : goal.invariant-loop-i
invariant-loop-i l =
    AllCounted l.width l.rules l.missing 0 l.i l.start l.word × Sub l.start l.word
    × Follows l.width l.rules l.start l.word
