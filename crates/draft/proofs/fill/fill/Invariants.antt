use Rattle.std.proofs.Common.{◌-◌, ◌^◌}
use Rattle.tray.specs.Tray.{Kept, capacity, entries}
use Rattle.draft.specs.Advances.{sought_from}
use Rattle.draft.proofs.Filling.{Filling}
use Rattle.draft.proofs.fill.fill.Given as goal

-- the tray holds the rules up to the mark
abbrev pub invariant-loop-mark : goal.invariant-loop-mark
invariant-loop-mark g l =
    Filling (g.O.Operator.span l.operator) (g.O.Operator.means l.operator) (capacity l.initial.rules) (entries l.rules) l.mark
    × Kept l.initial.rules l.rules

abbrev pub decreases-loop-mark : goal.decreases-loop-mark
decreases-loop-mark g l = 2 ^ g.O.Operator.span l.operator - sought_from l.mark
