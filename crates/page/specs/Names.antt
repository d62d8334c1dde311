-- The names of the signals of a set.
use Rattle.std.specs.Prelude.{ℕ, List, drop}
use Rattle.page.specs.Pages.{chosen, chosen_from}
use Rattle.page.specs.declared.chosen.Chosen.{Chosen}
use Rattle.page.specs.declared.chosen.names.Names.{Names}
use Rattle.view.specs.Shown.{signal_names}

-- all of them
abbrev pub names_of : Chosen → List (List ℕ)
names_of c = chosen c.set.width c.set.word (signal_names c.view)

-- those that an iterator has not given yet
abbrev pub left : Names → List (List ℕ)
left names = chosen_from names.of.set.width names.of.set.word names.signals.start (drop names.signals.start (signal_names names.of.view))
