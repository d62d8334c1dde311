use Rattle.std.proofs.Common.{◌-◌, ◌^◌}
use Rattle.theory.specs.Rules.{close_s}
use Rattle.theory.specs.Words.{Sub}
use Rattle.operators.specs.Heeded.{of_width}
use Rattle.operators.specs.Trials.{Alike}
use Rattle.operators.proofs.proper_rule_closure.saturated.Given as goal

-- the word lies between the start and its closure, and brings no signal above the bit
abbrev pub invariant-loop-next : goal.invariant-loop-next
invariant-loop-next l =
    Sub l.start l.word × Sub l.word (close_s l.width (of_width l.width l.rules) l.start) × Alike l.bit l.word l.start

abbrev pub decreases-loop-next : goal.decreases-loop-next
decreases-loop-next l = 2 ^ l.width - l.word
