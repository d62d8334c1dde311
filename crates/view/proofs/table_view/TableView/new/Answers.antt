use Rattle.std.proofs.Common.{◌≡◌, true, sym}
use Rattle.std.proofs.lemmas.Bool.{cond-true}
use Rattle.view.specs.Views.{fit}
use Rattle.view.proofs.Laws.{fit_lawful}
use Rattle.view.proofs.table_view.TableView.new.Goals as goal

pub returns : goal.returns
returns c =
    let e : fit c.args.text.now c.args.words.now c.args.places.now ≡ true = sym c.if-not-fits.ensures.answer in
    record { text = sym (cond-true _ _ _ e); words = sym (cond-true _ _ _ e); places = sym (cond-true _ _ _ e); lawful = fit_lawful c.args.text.now c.args.words.now c.args.places.now e }
