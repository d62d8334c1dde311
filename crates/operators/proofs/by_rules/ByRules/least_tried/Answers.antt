use Rattle.operators.proofs.Told.{close_told}
use Rattle.operators.proofs.by_rules.ByRules.least_tried.Goals as goal

pub with_word-requires : goal.with_word-requires
with_word-requires g c =
    (close_told g.F.Firing.trigger c.args.self.now.rules.now c.in_ok-word.ensures.0 c.args.set.below).below
