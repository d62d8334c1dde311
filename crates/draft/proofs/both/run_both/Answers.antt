use Rattle.operators.specs.TableClosure.{signals_of}
use Rattle.std.proofs.Common.{vec_items, subst}
use Rattle.survey.specs.Tracks.{Law, fresh}
use Rattle.theory.specs.Rows.{common}
use Rattle.view.specs.declared.table_view.TableView.{TableView}
use Rattle.draft.proofs.both.run_both.Goals as goal

pub returns : goal.returns
returns c =
    record {
      listing = subst (λ (v : TableView). Law (signals_of v.words.now v.places.now) (common (signals_of v.words.now v.places.now) v.words.now) (fresh 0)
          c.args.survey_calls.now (vec_items c.in_ok-listed.listed)) c.new.ensures.view c.in_ok-listed.ensures.law;
      base = c.in_ok-drafted.ensures.law;
      view = c.in_ok-drafted.ensures.view;
      size = c.in_ok-drafted.ensures.size;
    }
