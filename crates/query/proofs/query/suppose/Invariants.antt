use Rattle.std.proofs.Common.{◌≡◌, ◌-◌, length}
use Rattle.query.specs.Lefts.{left}
use Rattle.query.specs.Queries.{suppose_reply}
use Rattle.query.proofs.query.suppose.Given as goal
use Rattle.view.specs.Shown.{signal_names}

-- what is left gives the answer, and the guard still holds the known set and its old word
abbrev pub invariant-loop : goal.invariant-loop
invariant-loop l =
    (suppose_reply (signal_names l.names.view) l.names.view.words.now l.supposing.known.now.word l.names.line (length l.initial.fields.line.now) (l.count - l.counter) (left l.fields)
    ≡ suppose_reply (signal_names l.names.view) l.names.view.words.now l.initial.supposing.known.now.word l.names.line (length l.initial.fields.line.now) l.count (left l.initial.fields))
    × (l.fields.line ≡ l.initial.fields.line)
    × (l.supposing.old ≡ l.initial.supposing.old)
    × (l.supposing.known.ghost_name ≡ l.initial.supposing.known.ghost_name)
