-- Entailment between sets by a list of rules, and implications that hold in a table.
use Rattle.std.specs.Prelude.{◌≡◌, ℕ, List}
use Rattle.sets.specs.declared.rule.Rule.{Rule}
use Rattle.sets.specs.declared.set.Set.{Set}
use Rattle.table.specs.declared.place.Place.{Place}
use Rattle.theory.specs.Rows.{Holds}
use Rattle.theory.specs.Rules.{Entails}
use Rattle.operators.specs.Heeded.{heeded}
use Rattle.operators.specs.TableClosure.{signals_of}

-- the two sets have one width, and the rules that count entail the conclusion from the premise
pub record EntailedBy (rules : List Rule) (premise conclusion : Set) : Type 0 where
  pub same : premise.width ≡ conclusion.width
  pub entailed : Entails premise.width (heeded premise.width rules) premise.word conclusion.word

-- the two sets have the width of the table, and each row that contains the premise contains the conclusion
pub record HoldsIn (words : List ℕ) (places : List Place) (premise conclusion : Set) : Type 0 where
  pub premise_width : premise.width ≡ signals_of words places
  pub conclusion_width : conclusion.width ≡ signals_of words places
  pub holds : Holds words premise.word conclusion.word
