use Rattle.std.proofs.Common.{◌≡◌, ◌-◌, ◌^◌, length}
use Rattle.theory.specs.Words.{Sub}
use Rattle.operators.specs.Counting.{AllCounted, Follows}
use Rattle.operators.specs.Heeded.{max_rules}
use Rattle.operators.proofs.rule_closure.linear_closure.Given as goal

-- the counts are those of what is done, and the word lies between the start and its closure
abbrev pub invariant-loop-done : goal.invariant-loop-done
invariant-loop-done l =
    (length l.missing ≡ max_rules) × AllCounted l.width l.rules l.missing 0 (length l.rules) l.done l.word
    × Sub l.done l.word × Sub l.start l.word × Follows l.width l.rules l.start l.word

abbrev pub decreases-loop-done : goal.decreases-loop-done
decreases-loop-done l = 2 ^ l.width - l.done
