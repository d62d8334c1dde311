use Rattle.std.proofs.Common.{ap, ◌∙◌}
use Rattle.theory.specs.Rules.{close}
use Rattle.operators.specs.Heeded.{heeded}
use Rattle.operators.proofs.Told.{close_told, least_found}
use Rattle.operators.proofs.by_rules.ByRules.least_from.Goals as goal

pub with_word-requires : goal.with_word-requires
with_word-requires g c =
    let found = least_found g.F.Firing.trigger c.args.self.now.rules.now c.args.set _ c.least.result c.word.ensures.value c.least.ensures in
    (close_told g.F.Firing.trigger c.args.self.now.rules.now (c.unwrap_or-word.ensures ∙ found) c.args.set.below).below

pub returns-clause-closed : goal.returns-clause-closed
returns-clause-closed g c e =
    let found = least_found g.F.Firing.trigger c.args.self.now.rules.now c.args.set _ c.least.result c.word.ensures.value c.least.ensures in
    c.with_word.ensures.word ∙ c.unwrap_or-word.ensures ∙ found
    ∙ ap (λ m. close g.F.Firing.trigger m (heeded m c.args.self.now.rules.now) c.args.set.word) e

pub returns-clause-least : goal.returns-clause-least
returns-clause-least g c e =
    let found = least_found g.F.Firing.trigger c.args.self.now.rules.now c.args.set _ c.least.result c.word.ensures.value c.least.ensures in
    close_told g.F.Firing.trigger c.args.self.now.rules.now (c.with_word.ensures.word ∙ c.unwrap_or-word.ensures ∙ found) c.args.set.below
