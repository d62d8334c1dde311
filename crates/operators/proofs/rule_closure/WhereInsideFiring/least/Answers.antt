use Rattle.std.proofs.Common.{length, ap, ◌∙◌, arith}
use Rattle.std.proofs.lemmas.List.{length-take}
use Rattle.operators.specs.Heeded.{max_rules}
use Rattle.operators.proofs.rule_closure.WhereInsideFiring.least.Goals as goal

pub linear_closure-word-requires : goal.linear_closure-word-requires
linear_closure-word-requires c =
    let few = ap length c.first_rules.ensures.first ∙ length-take max_rules c.args.rules.now in
    record { few = omega arith }
