use Rattle.std.proofs.Common.{◌≡◌, take}
use Rattle.operators.specs.Heeded.{of_width}
use Rattle.operators.specs.Trials.{Alike}
use Rattle.theory.specs.Rules.{pass, proper}
use Rattle.operators.proofs.proper_rule_closure.one_pass.Given as goal

-- a pass over the rules so far, which brings no signal above the bit
abbrev pub invariant-loop-rule : goal.invariant-loop-rule
invariant-loop-rule l = (l.word ≡ pass proper (of_width l.width (take l.rule-index l.rules)) l.start) × Alike l.bit l.word l.start
