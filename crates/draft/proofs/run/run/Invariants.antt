use Rattle.std.proofs.Common.{◌≡◌, length, take, vec_items}
use Rattle.tray.specs.Tray.{capacity, entries}
use Rattle.draft.proofs.Laws.{RanOver}
use Rattle.draft.proofs.run.run.Given as goal

-- the calls made so far obey the law
abbrev pub invariant-loop-call : goal.invariant-loop-call
invariant-loop-call l =
    (l.draft.closure ≡ l.initial.draft.closure) × (length l.draft.rules.memory.now ≡ length l.initial.draft.rules.memory.now)
    × RanOver l.initial.draft.closure.view.words.now l.initial.draft.closure.view.places.now (capacity l.initial.draft.rules)
    (take l.call-index l.calls) (vec_items l.answers) (entries l.draft.rules) l.draft.mark
