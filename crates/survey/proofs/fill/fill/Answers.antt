use Rattle.std.proofs.Common.{◌≡◌, ◌^◌, ◌<◌, ◌≤◌, ◌∷◌, [], length, Err, sym, ap, ◌∙◌, subst, arith, length-append, MatchResult}
use Rattle.fault.specs.Layers.{in_trays}
use Rattle.std.specs.List.{AllByRecursion}
use Rattle.std.proofs.lemmas.Result.{err_from_is_err_and}
use Rattle.theory.specs.Closures.{closed_below}
use Rattle.tray.specs.Fault.{fault_of}
use Rattle.tray.specs.Tray.{capacity, entries}
use Rattle.tray.proofs.Puts.{kept_later}
use Rattle.survey.specs.Fills.{words_of}
use Rattle.survey.proofs.Filling.{Filling, filling_opened, filling_back, filling_more, filled_all, filled_some, stepped_opened, ended_opened, entries_few, kept_room}
use Rattle.survey.proofs.fill.fill.Goals as goal

pub loop-set-preserved : goal.loop-set-preserved
loop-set-preserved g c =
    let span = g.O.Operator.span c.args.operator in
    let means = g.O.Operator.means c.args.operator in
    let f = filling_opened g.O.Operator.span g.O.Operator.means c.args.operator c.open-survey.result.operator c.open-survey.result.width c.open-survey.ensures.operator c.open-survey.ensures.width c.loop-set.survey.state (entries c.loop-set.tray) c.loop-set.invariant.2 in
    let s = stepped_opened g.O.Operator.span g.O.Operator.means c.args.operator c.open-survey.result.operator c.open-survey.result.width c.open-survey.ensures.operator c.open-survey.ensures.width
    c.loop-set.survey.operator c.loop-set.survey.width c.loop-set.survey.state c.in-Ok.set _ _ c.step.new.self.state c.loop-set.invariant.0 c.loop-set.invariant.1 c.in-Ok.ensures.takes.does in
    let put = c.in_ok-put.ensures.answer in
    let more = subst (λ xs. Filling span means c.step.new.self.state xs) (sym put.1)
    (filling_more span means c.loop-set.survey.state (entries c.loop-set.tray) c.in-Ok.set c.step.new.self.state f s) in (
      c.step.ensures.takes.operator ∙ c.loop-set.invariant.0,
      c.step.ensures.takes.width ∙ c.loop-set.invariant.1,
      filling_back g.O.Operator.span g.O.Operator.means c.args.operator c.open-survey.result.operator c.open-survey.result.width c.open-survey.ensures.operator c.open-survey.ensures.width c.step.new.self.state (entries c.put.new.self) more,
      kept_later c.clear.new.self c.loop-set.tray c.put.new.self c.loop-set.invariant.3 c.put.ensures.kept
          (omega (arith, ap length put.1, length-append (entries c.loop-set.tray) (c.in-Ok.set ∷ []))),
    )

-- no place for a set that was listed
pub returns-in_err-put-clause-sets : goal.returns-in_err-put-clause-sets
returns-in_err-put-clause-sets g c =
    let span = g.O.Operator.span c.args.operator in
    let means = g.O.Operator.means c.args.operator in
    let f = filling_opened g.O.Operator.span g.O.Operator.means c.args.operator c.open-survey.result.operator c.open-survey.result.width c.open-survey.ensures.operator c.open-survey.ensures.width c.loop-set.survey.state (entries c.loop-set.tray) c.loop-set.invariant.2 in
    let s = stepped_opened g.O.Operator.span g.O.Operator.means c.args.operator c.open-survey.result.operator c.open-survey.result.width c.open-survey.ensures.operator c.open-survey.ensures.width
    c.loop-set.survey.operator c.loop-set.survey.width c.loop-set.survey.state c.in-Ok.set _ _ c.step.new.self.state c.loop-set.invariant.0 c.loop-set.invariant.1 c.in-Ok.ensures.takes.does in
    let room = kept_room c.args.tray.now c.clear.new.self c.loop-set.tray c.clear.ensures.memory c.loop-set.invariant.3 in
    let put = c.in_err-put.ensures.answer in
    let q = filled_some span (capacity c.args.tray.now) means c.loop-set.survey.state (entries c.loop-set.tray) c.in-Ok.set c.step.new.self.state f s (put.0 ∙ room) in
    ap (λ t. words_of (entries t)) put.1 ∙ q.0

pub returns-in_err-put-clause-widths : goal.returns-in_err-put-clause-widths
returns-in_err-put-clause-widths g c =
    let f = filling_opened g.O.Operator.span g.O.Operator.means c.args.operator c.open-survey.result.operator c.open-survey.result.width c.open-survey.ensures.operator c.open-survey.ensures.width c.loop-set.survey.state (entries c.loop-set.tray) c.loop-set.invariant.2 in
    subst (λ t. AllByRecursion (λ x. x.width ≡ g.O.Operator.span c.args.operator) (entries t)) (sym c.in_err-put.ensures.answer.1) f.widths

pub returns-in_err-put-clause-answer : goal.returns-in_err-put-clause-answer
returns-in_err-put-clause-answer g c =
    let span = g.O.Operator.span c.args.operator in
    let means = g.O.Operator.means c.args.operator in
    let f = filling_opened g.O.Operator.span g.O.Operator.means c.args.operator c.open-survey.result.operator c.open-survey.result.width c.open-survey.ensures.operator c.open-survey.ensures.width c.loop-set.survey.state (entries c.loop-set.tray) c.loop-set.invariant.2 in
    let s = stepped_opened g.O.Operator.span g.O.Operator.means c.args.operator c.open-survey.result.operator c.open-survey.result.width c.open-survey.ensures.operator c.open-survey.ensures.width
    c.loop-set.survey.operator c.loop-set.survey.width c.loop-set.survey.state c.in-Ok.set _ _ c.step.new.self.state c.loop-set.invariant.0 c.loop-set.invariant.1 c.in-Ok.ensures.takes.does in
    let room = kept_room c.args.tray.now c.clear.new.self c.loop-set.tray c.clear.ensures.memory c.loop-set.invariant.3 in
    let put = c.in_err-put.ensures.answer in
    let q = filled_some span (capacity c.args.tray.now) means c.loop-set.survey.state (entries c.loop-set.tray) c.in-Ok.set c.step.new.self.state f s (put.0 ∙ room) in
    let p = err_from_is_err_and c.from_residual.result c.from_residual.ensures.1 in
    let same : c.from_residual.result ≡ Err c.in_err-put.field-0.0 = p.1 ∙ ap Err p.2 in
    subst (λ r. MatchResult r (λ _. length (closed_below means (2 ^ span)) ≤ capacity c.args.tray.now)
    (λ fault. (capacity c.args.tray.now < length (closed_below means (2 ^ span))) × (fault_of fault ≡ in_trays 21))) (sym same) (q.1, put.2)

-- all sets are listed
pub returns-clause-sets : goal.returns-clause-sets
returns-clause-sets g c =
    let span = g.O.Operator.span c.args.operator in
    let means = g.O.Operator.means c.args.operator in
    let f = filling_opened g.O.Operator.span g.O.Operator.means c.args.operator c.open-survey.result.operator c.open-survey.result.width c.open-survey.ensures.operator c.open-survey.ensures.width c.loop-set.survey.state (entries c.loop-set.tray) c.loop-set.invariant.2 in
    let room = kept_room c.args.tray.now c.clear.new.self c.loop-set.tray c.clear.ensures.memory c.loop-set.invariant.3 in
    let ended = ended_opened g.O.Operator.span g.O.Operator.means c.args.operator c.open-survey.result.operator c.open-survey.result.width c.open-survey.ensures.operator c.open-survey.ensures.width
    c.loop-set.survey.operator c.loop-set.survey.width c.loop-set.survey.state c.in_default.field-0 c.step.new.self.state c.loop-set.invariant.0 c.loop-set.invariant.1 c.in_default.ensures.takes.does in
    let q = filled_all span (capacity c.args.tray.now) means c.loop-set.survey.state (entries c.loop-set.tray) f ended
    (subst (λ n. length (entries c.loop-set.tray) ≤ n) room (entries_few c.loop-set.tray)) in
    q.0

pub returns-clause-widths : goal.returns-clause-widths
returns-clause-widths g c =
    let f = filling_opened g.O.Operator.span g.O.Operator.means c.args.operator c.open-survey.result.operator c.open-survey.result.width c.open-survey.ensures.operator c.open-survey.ensures.width c.loop-set.survey.state (entries c.loop-set.tray) c.loop-set.invariant.2 in
    f.widths

pub returns-clause-answer : goal.returns-clause-answer
returns-clause-answer g c =
    let span = g.O.Operator.span c.args.operator in
    let means = g.O.Operator.means c.args.operator in
    let f = filling_opened g.O.Operator.span g.O.Operator.means c.args.operator c.open-survey.result.operator c.open-survey.result.width c.open-survey.ensures.operator c.open-survey.ensures.width c.loop-set.survey.state (entries c.loop-set.tray) c.loop-set.invariant.2 in
    let room = kept_room c.args.tray.now c.clear.new.self c.loop-set.tray c.clear.ensures.memory c.loop-set.invariant.3 in
    let ended = ended_opened g.O.Operator.span g.O.Operator.means c.args.operator c.open-survey.result.operator c.open-survey.result.width c.open-survey.ensures.operator c.open-survey.ensures.width
    c.loop-set.survey.operator c.loop-set.survey.width c.loop-set.survey.state c.in_default.field-0 c.step.new.self.state c.loop-set.invariant.0 c.loop-set.invariant.1 c.in_default.ensures.takes.does in
    let q = filled_all span (capacity c.args.tray.now) means c.loop-set.survey.state (entries c.loop-set.tray) f ended
    (subst (λ n. length (entries c.loop-set.tray) ≤ n) room (entries_few c.loop-set.tray)) in
    q.1
