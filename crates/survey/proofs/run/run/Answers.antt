use Rattle.std.proofs.Common.{sym, ap, ◌∙◌}
use Rattle.survey.proofs.Tracks.{ran_next}
use Rattle.survey.proofs.run.run.Goals as goal

pub loop-call-preserved : goal.loop-call-preserved
loop-call-preserved g c = (
  c.answer.ensures.takes.operator ∙ c.loop-call.invariant.0,
  c.answer.ensures.takes.width ∙ c.loop-call.invariant.1,
  ran_next g.O.Operator.span g.O.Operator.means c.args.calls.now c.open-survey.result.operator
      c.loop-call.survey.operator c.loop-call.survey.width c.loop-call.call-index _ _
      c.call-item.result c.answer.result c.loop-call.survey.state c.answer.new.self.state c.loop-call.invariant.0
      (c.loop-call.invariant.1 ∙ c.open-survey.ensures.width ∙ ap g.O.Operator.span (sym c.open-survey.ensures.operator))
      c.loop-call-test.true c.call-item.is c.in_ok-push.ensures.items c.answer.ensures.takes.does c.loop-call.invariant.2,
)
