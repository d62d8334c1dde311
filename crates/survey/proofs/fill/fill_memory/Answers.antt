use Rattle.std.proofs.Common.{◌≡◌, ◌^◌, ◌≤◌, min, length, take, sym, ap, ◌∙◌, arith, rules}
use Rattle.std.proofs.lemmas.List.{take_all, length-map}
use Rattle.theory.specs.Closures.{closed_below}
use Rattle.tray.specs.Tray.{capacity, entries, max_entries}
use Rattle.survey.proofs.Filling.{filled_memory}
use Rattle.survey.proofs.fill.fill_memory.Goals as goal

pub returns : goal.returns
returns g c =
    let f = c.in_ok-fill.ensures in
    let room : capacity c.new-tray.result ≡ min (length c.args.memory.now) max_entries = ap (λ xs. min (length xs) max_entries) c.new-tray.ensures.memory in
    let all = closed_below (g.O.Operator.means c.args.operator) (2 ^ g.O.Operator.span c.args.operator) in
    let words = f.sets ∙ ap (λ n. take n all) room in
    let fits : length all ≤ min (length c.args.memory.now) max_entries = omega (arith, f.answer, room) in
    let count : c.count.result ≡ length all =
    c.count.ensures.value ∙ sym (length-map (entries c.fill.new.tray) (λ s. s.word)) ∙ ap length (words ∙ take_all _ all fits) in
    record {
      sets = filled_memory (g.O.Operator.span c.args.operator) (g.O.Operator.means c.args.operator) c.new-tray.result c.fill.new.tray c.args.memory.now _ (search rules)
          c.new-tray.ensures.memory f.kept words f.widths;
      answer = (count, omega (arith, count, fits));
    }
