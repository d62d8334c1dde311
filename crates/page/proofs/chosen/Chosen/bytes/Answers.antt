use Rattle.std.proofs.Common.{length, ap, arith, length-append}
use Rattle.page.specs.Names.{left}
use Rattle.page.specs.Pages.{name_fields}
use Rattle.page.proofs.NameLists.{names_short}
use Rattle.page.proofs.chosen.Chosen.bytes.Goals as goal

pub overflow_add-bytes-in-loop-name-2 : goal.overflow_add-bytes-in-loop-name-2
overflow_add-bytes-in-loop-name-2 c =
    let self = c.args.self.now in
    let next = ap (λ names. length (name_fields names)) c.in-Some.ensures.steps in
    omega (arith, c.loop-name.invariant.2, next, length-append c.in-Some.name.now (name_fields (left c.next.new.self)), names_short self.view self.set.width self.set.word, self.whole, self.set.narrow)

pub returns-clause-short : goal.returns-clause-short
returns-clause-short c =
    let self = c.args.self.now in
    omega (arith, c.loop-name.invariant.2, names_short self.view self.set.width self.set.word, self.whole, self.set.narrow)
