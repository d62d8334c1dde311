use Rattle.std.proofs.Common.{◌≡◌, take, vec_items}
use Rattle.survey.proofs.Tracks.{Ran}
use Rattle.survey.proofs.run.run.Given as goal

-- the calls made so far obey the law
abbrev pub invariant-loop-call : goal.invariant-loop-call
invariant-loop-call g l =
    (l.survey.operator ≡ l.initial.survey.operator) × (l.survey.width ≡ l.initial.survey.width)
    × Ran (g.O.Operator.span l.initial.survey.operator) (g.O.Operator.means l.initial.survey.operator)
    (take l.call-index l.calls) (vec_items l.answers) l.survey.state
