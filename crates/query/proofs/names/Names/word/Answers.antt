use Rattle.query.specs.Lefts.{read_as}
use Rattle.query.proofs.Joins.{word_found, word_missing}
use Rattle.query.proofs.names.Names.word.Goals as goal
use Rattle.view.specs.Shown.{signal_names}

pub returns-in-Some : goal.returns-in-Some
returns-in-Some c =
    record {
      word = word_found (signal_names c.args.self.now.view) c.args.self.now.line (read_as c.args.field) c.count.result c.in-Some.signal c.count.ensures.count c.count.ensures.few c.in-Some.ensures.found;
    }

pub returns-in-None : goal.returns-in-None
returns-in-None c = record { word = word_missing (signal_names c.args.self.now.view) c.args.self.now.line (read_as c.args.field) c.in-None.ensures.found }
