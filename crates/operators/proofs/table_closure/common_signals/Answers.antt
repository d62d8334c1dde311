use Rattle.std.proofs.Common.{◌≡◌, ◌∙◌, fold, rules, ap}
use Rattle.std.proofs.iter.runs.Made.{chains}
use Rattle.operators.proofs.Rows.{common_folded, left_by}
use Rattle.operators.proofs.table_closure.common_signals.Goals as goal

pub returns : goal.returns
returns c =
    let folded : c.fold.result ≡ fold (left_by c.args.wanted) c.all_signals.result c.args.rows.now = search (rules, chains) in
    record {
      common = folded ∙ ap (λ word. fold (left_by c.args.wanted) word c.args.rows.now) c.all_signals.ensures.full
          ∙ common_folded c.args.width c.args.wanted c.args.rows.now;
    }
