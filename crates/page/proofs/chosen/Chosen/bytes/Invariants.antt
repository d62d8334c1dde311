use Rattle.std.proofs.Common.{◌≡◌, ◌+◌, length}
use Rattle.page.specs.Names.{left, names_of}
use Rattle.page.specs.Pages.{name_fields}
use Rattle.page.proofs.chosen.Chosen.bytes.Given as goal

-- the bytes so far, and those of the names that are left
abbrev pub invariant-loop-name : goal.invariant-loop-name
invariant-loop-name l =
    (goal.iterator-loop-name).can_next l.name-iterator
    × (goal.iterator-loop-name).is_finite l.name-iterator
    × (l.bytes + length (name_fields (left l.name-iterator)) ≡ l.initial.bytes + length (name_fields (names_of l.self)))
