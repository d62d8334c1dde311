use Rattle.std.proofs.Common.{◌≡◌, fold, rules}
use mathlib.Core.List.{reverse}
use Rattle.std.proofs.iter.runs.Made.{chains}
use Rattle.operators.proofs.ByColumns.{gathered, gathers}
use Rattle.operators.proofs.columns.column_of.Goals as goal

pub returns : goal.returns
returns c =
    let folded : c.fold.result ≡ fold (gathered c.args.k) 0 (reverse c.args.rows.now) = search (rules, chains) in
    record { column = rw folded (gathers c.args.k c.args.rows.now c.requires.few).column }
