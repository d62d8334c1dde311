use Rattle.std.proofs.Common.{◌≡◌, ◌^◌, ◌≤◌, min, length, take, sym, ap, ◌∙◌, arith, rules}
use Rattle.operators.specs.Heeded.{implication}
use Rattle.std.proofs.lemmas.List.{take_all, length-map}
use Rattle.theory.specs.Bases.{base_below}
use Rattle.tray.specs.Tray.{capacity, entries, max_entries}
use Rattle.draft.proofs.Filling.{filled_memory}
use Rattle.draft.proofs.fill.fill_memory.Goals as goal

pub returns : goal.returns
returns g c =
    let f = c.in_ok-fill.ensures in
    let m = g.O.Operator.span c.args.operator.now in
    let means = g.O.Operator.means c.args.operator.now in
    let room : capacity c.new-rules.result ≡ min (length c.args.memory.now) max_entries = ap (λ xs. min (length xs) max_entries) c.new-rules.ensures.memory in
    let all = base_below m means (2 ^ m) in
    let base = f.rules ∙ ap (λ n. take n all) room in
    let fits : length all ≤ min (length c.args.memory.now) max_entries = omega (arith, f.answer, room) in
    let count : c.count.result ≡ length all =
    c.count.ensures.value ∙ sym (length-map (entries c.fill.new.rules) implication) ∙ ap length (base ∙ take_all _ all fits) in
    record {
      rules = filled_memory m means c.new-rules.result c.fill.new.rules c.args.memory.now _ (search rules) c.new-rules.ensures.memory f.kept base f.widths;
      answer = (count, omega (arith, count, fits));
    }
