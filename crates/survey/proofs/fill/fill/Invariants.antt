use Rattle.std.proofs.Common.{◌≡◌, ◌-◌, ◌^◌}
use Rattle.tray.specs.Tray.{Kept, entries}
use Rattle.survey.proofs.Filling.{Filling, done_to}
use Rattle.survey.proofs.fill.fill.Given as goal

-- the survey is that of the operator, and the tray holds what was listed
abbrev pub invariant-loop-set : goal.invariant-loop-set
invariant-loop-set g l =
    (l.survey.operator ≡ l.initial.survey.operator) × (l.survey.width ≡ l.initial.survey.width)
    × Filling l.initial.survey.width (g.O.Operator.means l.initial.survey.operator) l.survey.state (entries l.tray)
    × Kept l.initial.tray l.tray

abbrev pub decreases-loop-set : goal.decreases-loop-set
decreases-loop-set g l = 2 ^ l.survey.width - done_to l.survey.width l.survey.state
