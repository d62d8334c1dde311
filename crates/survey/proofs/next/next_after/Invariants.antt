use Rattle.std.proofs.Common.{◌≡◌, ◌-◌, ◌≤◌}
use Rattle.theory.proofs.Next.{NotYet}
use Rattle.survey.proofs.next.next_after.Given as goal

-- no signal tried so far passes
abbrev pub invariant-loop-bit : goal.invariant-loop-bit
invariant-loop-bit g l =
    (l.bit ≤ l.last.width) × (l.trials ≤ l.bit)
    × (l.last.width ≡ g.O.Operator.span l.operator → NotYet (g.O.Operator.means l.operator) l.last.word l.bit)

abbrev pub decreases-loop-bit : goal.decreases-loop-bit
decreases-loop-bit g l = l.last.width - l.bit
