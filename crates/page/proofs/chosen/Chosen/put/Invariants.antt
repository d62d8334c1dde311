use Rattle.page.specs.Names.{left, names_of}
use Rattle.page.specs.Pages.{counted_names, name_fields}
use Rattle.page.proofs.Pieces.{Writing}
use Rattle.page.proofs.chosen.Chosen.put.Given as goal

-- all but the names that are left stand in the output
abbrev pub invariant-loop-name : goal.invariant-loop-name
invariant-loop-name l =
    (goal.iterator-loop-name).can_next l.name-iterator
    × (goal.iterator-loop-name).is_finite l.name-iterator
    × Writing (counted_names (names_of l.self)) (name_fields (left l.name-iterator)) l.fn.out l.out
