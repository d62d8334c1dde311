use Rattle.std.proofs.Common.{◌-◌, length, drop}
use Rattle.view.specs.Views.{holds_name_at}
use Rattle.view.proofs.Laws.{every_front, every_back, fit_parts}
use Rattle.view.proofs.table_view.TableView.signal_name.Goals as goal

pub name_among-requires : goal.name_among-requires
name_among-requires c =
    let view = c.args.self.now in
    let places = view.places.now in
    let named = holds_name_at view.text.now in
    every_front named (length places - c.rows.result) (drop c.rows.result places)
    (every_back named c.rows.result places (fit_parts view.text.now view.words.now places view.fit).names)
