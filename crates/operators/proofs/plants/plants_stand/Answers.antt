use Rattle.std.proofs.Common.{◌≡◌, ℕ, ◌≤◌, ◌⊎◌, [], ◌∷◌, refl, inl, inr, arith}
use mathlib.Core.List.Memᴰ
use mathlib.Core.List.{Memᴰ}
use Rattle.theory.specs.Rows.{common}
use Rattle.theory.specs.Closures.{LeastClosed}
use Rattle.theory.proofs.Ganter.{base_below_base}
use Rattle.theory.proofs.Rows.{common_closure}
use Rattle.theory.proofs.Listing.{closed_below_listing}
use Rattle.operators.specs.Plants.{plant}
use Rattle.operators.proofs.plants.plants_stand.Goals as goal

-- of the closed words 0, 6 and 7 those from 1 to 6 on have 6 as the least
six : (y : ℕ) → 1 ≤ y → Memᴰ y (0 ∷ 6 ∷ 7 ∷ []) → 6 ≤ y
six y l p = first (Memᴰ.cases_cons p)
  where
    third : (y ≡ 7) ⊎ Memᴰ y [] → 6 ≤ y
    third (inl e) = omega arith
    third (inr q) = absurd (Memᴰ.not-nil q)

    second : (y ≡ 6) ⊎ Memᴰ y (7 ∷ []) → 6 ≤ y
    second (inl e) = omega arith
    second (inr q) = third (Memᴰ.cases_cons q)

    first : (y ≡ 0) ⊎ Memᴰ y (6 ∷ 7 ∷ []) → 6 ≤ y
    first (inl e) = absurd (omega arith)
    first (inr q) = second (Memᴰ.cases_cons q)

least : (from : ℕ) → 1 ≤ from → from ≤ 6 → LeastClosed 3 (common 3 plant) from 6
least from l u =
    record {
      below = omega arith;
      above = u;
      closed = refl;
      least = λ y h k e. six y (omega arith) ((closed_below_listing (common 3 plant) 8).all y (omega arith) h e);
    }

pub returns : goal.returns
returns c =
    record {
      plants =
          record {
            closed_words = closed_below_listing (common 3 plant) 8;
            least_from_three = least 3 (omega arith) (omega arith);
            least_from_six = least 6 (omega arith) (omega arith);
            by_rules = refl;
            properly_none = refl;
            properly_some = refl;
            crossed_rows = closed_below_listing (common 3 (5 ∷ 3 ∷ [])) 8;
            no_rows = closed_below_listing (common 2 []) 4;
            no_signals = closed_below_listing (common 0 (0 ∷ [])) 1;
          };
      bases =
          record {
            base = base_below_base 3 (common 3 plant) (common_closure 3 plant (omega arith)) 8 (omega arith);
            crossed_base = base_below_base 3 (common 3 (5 ∷ 3 ∷ [])) (common_closure 3 (5 ∷ 3 ∷ []) (omega arith)) 8 (omega arith);
            no_rows_base = base_below_base 2 (common 2 []) (common_closure 2 [] (omega arith)) 4 (omega arith);
            no_signals_base = base_below_base 0 (common 0 (0 ∷ [])) (common_closure 0 (0 ∷ []) (omega arith)) 1 (omega arith);
          };
    }
