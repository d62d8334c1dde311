-- Small tables and lists of implications, computed.
use Rattle.std.proofs.Common.{◌≡◌, ℕ, List, [], ◌∷◌, map, refl, arith}
use Rattle.theory.specs.Closures.{Closed, Listing}
use Rattle.theory.specs.Rows.{common}
use Rattle.theory.specs.Rules.{Implication, close_r, close_s}
use Rattle.theory.specs.Bases.{BaseUpto}
use Rattle.theory.proofs.Ganter.{base_below_base}
use Rattle.theory.proofs.Listing.{closed_below_listing}
use Rattle.theory.proofs.Rows.{common_closure}

-- ---- rows

-- three signals; the rows have none, the first two, and all
abbrev plant : List ℕ
plant = 0 ∷ 6 ∷ 7 ∷ []

plant_closures : map (common 3 plant) (0 ∷ 1 ∷ 2 ∷ 3 ∷ 4 ∷ 5 ∷ 6 ∷ 7 ∷ []) ≡ 0 ∷ 7 ∷ 6 ∷ 7 ∷ 6 ∷ 7 ∷ 6 ∷ 7 ∷ []
plant_closures = refl

plant_listing : Listing (Closed (common 3 plant)) 0 8 (0 ∷ 6 ∷ 7 ∷ [])
plant_listing = closed_below_listing (common 3 plant) 8

-- three signals; two rows that share the last signal
crossed_listing : Listing (Closed (common 3 (5 ∷ 3 ∷ []))) 0 8 (1 ∷ 3 ∷ 5 ∷ 7 ∷ [])
crossed_listing = closed_below_listing (common 3 (5 ∷ 3 ∷ [])) 8

-- two signals and no row: the full set alone is closed
no_rows : Listing (Closed (common 2 [])) 0 4 (3 ∷ [])
no_rows = closed_below_listing (common 2 []) 4

-- no signal and one row
no_signals_listing : Listing (Closed (common 0 (0 ∷ []))) 0 1 (0 ∷ [])
no_signals_listing = closed_below_listing (common 0 (0 ∷ [])) 1

-- ---- implications

-- the base of the table above
abbrev base : List Implication
base =
    record { premise = 1; conclusion = 7 } ∷ record { premise = 2; conclusion = 6 } ∷ record { premise = 4; conclusion = 6 } ∷ []

-- the third signal gives the others
base_r : close_r 3 base 1 ≡ 7
base_r = refl

-- but not where it must be a proper part
base_s : close_s 3 base 1 ≡ 1
base_s = refl

base_s_two : close_s 3 base 3 ≡ 7
base_s_two = refl

base_listing : Listing (Closed (close_r 3 base)) 0 8 (0 ∷ 6 ∷ 7 ∷ [])
base_listing = closed_below_listing (close_r 3 base) 8

base_listing_s : Listing (Closed (close_s 3 base)) 0 8 (0 ∷ 1 ∷ 2 ∷ 4 ∷ 6 ∷ 7 ∷ [])
base_listing_s = closed_below_listing (close_s 3 base) 8

-- ---- bases

-- the base of the table above is the list above
plant_base : BaseUpto 3 (common 3 plant) 8 base
plant_base = base_below_base 3 (common 3 plant) (common_closure 3 plant (omega arith)) 8 (omega arith)

-- the two rows that share the last signal: the empty set alone is pseudo-closed
crossed_rows_base : BaseUpto 3 (common 3 (5 ∷ 3 ∷ [])) 8 (record { premise = 0; conclusion = 1 } ∷ [])
crossed_rows_base = base_below_base 3 (common 3 (5 ∷ 3 ∷ [])) (common_closure 3 (5 ∷ 3 ∷ []) (omega arith)) 8 (omega arith)
