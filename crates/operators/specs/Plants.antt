-- Small plants, worked by hand, on which the definitions give what they should.
use Rattle.std.specs.Prelude.{◌≡◌, ℕ, List, [], ◌∷◌}
use Rattle.theory.specs.Bases.{BaseUpto}
use Rattle.theory.specs.Closures.{Closed, LeastClosed, Listing}
use Rattle.theory.specs.Rows.{common}
use Rattle.theory.specs.Rules.{Implication, close_r, close_s}

-- rows with none of three signals, with the first two, and with all
abbrev pub plant : List ℕ
plant = 0 ∷ 6 ∷ 7 ∷ []

-- each signal of that plant with what follows from it
abbrev pub plant_rules : List Implication
plant_rules = record { premise = 1; conclusion = 7 } ∷ record { premise = 2; conclusion = 6 } ∷ record { premise = 4; conclusion = 6 } ∷ []

-- what holds of that plant, of one with crossed rows, of one without rows, and of one without signals
pub record Plants : Type 0 where
  pub closed_words : Listing (Closed (common 3 plant)) 0 8 (0 ∷ 6 ∷ 7 ∷ [])
  pub least_from_three : LeastClosed 3 (common 3 plant) 3 6
  pub least_from_six : LeastClosed 3 (common 3 plant) 6 6
  pub by_rules : close_r 3 plant_rules 1 ≡ 7
  pub properly_none : close_s 3 plant_rules 1 ≡ 1
  pub properly_some : close_s 3 plant_rules 3 ≡ 7
  pub crossed_rows : Listing (Closed (common 3 (5 ∷ 3 ∷ []))) 0 8 (1 ∷ 3 ∷ 5 ∷ 7 ∷ [])
  pub no_rows : Listing (Closed (common 2 [])) 0 4 (3 ∷ [])
  pub no_signals : Listing (Closed (common 0 (0 ∷ []))) 0 1 (0 ∷ [])

-- the bases of the same plants, by the rules of their pseudo-closed sets
pub record PlantBases : Type 0 where
  pub base : BaseUpto 3 (common 3 plant) 8 plant_rules
  pub crossed_base : BaseUpto 3 (common 3 (5 ∷ 3 ∷ [])) 8 (record { premise = 0; conclusion = 1 } ∷ [])
  pub no_rows_base : BaseUpto 2 (common 2 []) 4 (record { premise = 0; conclusion = 3 } ∷ [])
  pub no_signals_base : BaseUpto 0 (common 0 (0 ∷ [])) 1 []
