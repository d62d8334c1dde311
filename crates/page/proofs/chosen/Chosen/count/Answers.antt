use Rattle.std.proofs.Common.{◌∙◌, ap, sym}
use Rattle.std.specs.Prelude.{count_ones}
use Rattle.view.specs.Shown.{signal_names}
use Rattle.page.proofs.NameLists.{length_names}
use Rattle.page.proofs.Ones.{ones_chosen}
use Rattle.page.proofs.chosen.Chosen.count.Goals as goal

pub returns : goal.returns
returns c =
    let set = c.args.self.now.set in
    let view = c.args.self.now.view in
    record { value = ap count_ones c.word.ensures.value ∙ ones_chosen set.width set.word (signal_names view) (c.args.self.now.whole ∙ sym (length_names view)) set.below }
