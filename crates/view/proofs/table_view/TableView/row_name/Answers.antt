use Rattle.view.specs.Views.{holds_name_at}
use Rattle.view.proofs.Laws.{every_front, fit_parts}
use Rattle.view.proofs.table_view.TableView.row_name.Goals as goal

pub name_among-requires : goal.name_among-requires
name_among-requires c = every_front (holds_name_at c.args.self.now.text.now) c.rows.result c.args.self.now.places.now
    (fit_parts _ c.args.self.now.words.now _ c.args.self.now.fit).names
