use Rattle.std.proofs.Common.{rules}
use borrow.Author.Tests.{tests}
use Rattle.std.proofs.lemmas.Iterator.{cases_from_all, YieldsList-from_slice}
use Rattle.operators.proofs.Told.{all_hold, Passes}
use Rattle.operators.proofs.holds.rows_hold.Goals as goal

pub returns : goal.returns
returns c =
    let premise = c.args.premise in
    let conclusion = c.args.conclusion in
    record {
      told = all_hold c.args.rows.now premise conclusion c.all.result
          (cases_from_all _ _ _ (Passes premise conclusion) (λ r. Passes premise conclusion r → ⊥) c.all.ensures.ran (YieldsList-from_slice c.args.rows.now c.iter.ensures.rest)
          (λ x q k. search (rules, tests)) (λ x q k. search (rules, tests)));
    }
