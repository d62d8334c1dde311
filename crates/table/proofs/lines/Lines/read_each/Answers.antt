use Rattle.std.proofs.Common.{◌≡◌, ◌+◌, length, Ok, arith, rules}
use Rattle.table.specs.Reading.{line_at}
use Rattle.table.proofs.LineSteps.{going_more}
use Rattle.table.proofs.lines.Lines.read_each.Goals as goal

pub loop-value-preserved : goal.loop-value-preserved
loop-value-preserved g c =
    let item = g.I.LineItem.item c.args.item.now in
    let start = c.args.self.now in
    let taken : line_at item (start.line + c.loop-value.value-index) c.loop-value.self.at start.text.now ≡ Ok (record { value = c.in_ok-value.field-0; next = c.read.new.self.at }) = search rules in
    record {
      going = going_more item start.text.now (length c.args.memory.now) start.line start.at c.loop-value.value-index c.loop-value.self.at c.loop-value.memory
          (search rules) (search rules) c.loop-value.invariant.going _ taken;
      line = omega (arith, c.in_ok-value.ensures.line);
      text = search rules;
    }
