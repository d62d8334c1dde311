use Rattle.std.proofs.Common.{◌≡◌}
use Rattle.query.specs.Lefts.{left}
use Rattle.query.specs.Names.{with_names}
use Rattle.query.proofs.names.Names.joined.Given as goal
use Rattle.view.specs.Shown.{signal_names}

-- what is left gives the answer
abbrev pub invariant-loop-field : goal.invariant-loop-field
invariant-loop-field l =
    (goal.iterator-loop-field).can_next l.field-iterator × (goal.iterator-loop-field).is_finite l.field-iterator
    × (with_names (signal_names l.self.view) l.self.line l.word (left l.field-iterator) ≡ with_names (signal_names l.self.view) l.self.line l.set (left l.fields))
