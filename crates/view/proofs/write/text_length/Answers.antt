use Rattle.view.proofs.Lengths.{text_sum}
use Rattle.view.proofs.write.text_length.Goals as goal

pub returns : goal.returns
returns c = record {
  count = text_sum c.args.view.now.text.now c.args.view.now.words.now c.args.view.now.places.now _ _ _ _ _
      c.rows-rows.ensures.count c.signals-signals.ensures.count c.digits.ensures.count c.digits-2.ensures.count c.names_length.ensures.count;
}
