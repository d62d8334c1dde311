use Rattle.std.proofs.Common.{◌≡◌, ◌+◌, length}
use Rattle.table.proofs.LineSteps.{Going}
use Rattle.table.proofs.lines.Lines.read_each.Given as goal

abbrev pub invariant-loop-value : goal.invariant-loop-value
invariant-loop-value g l = record {
  going : Going (g.I.LineItem.item l.item) l.fn.self.text.now (length l.fn.memory) l.fn.self.line l.fn.self.at l.value-index l.self.at l.memory;
  line : l.self.line ≡ l.fn.self.line + l.value-index;
  text : l.self.text.now ≡ l.fn.self.text.now;
}
