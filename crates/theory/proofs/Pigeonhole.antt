-- Where each word of a rising list has a partner in another list, and no two have the same, the other list is at least as long.
use Rattle.std.proofs.Common.{◌≡◌, ℕ, suc, ◌<◌, ◌≤◌, ◌⊎◌, List, [], ◌∷◌, length, refl, ap, subst, inl, inr, arith}
use mathlib.Core.List.Memᴰ
use mathlib.Core.List.{Memᴰ}
use Rattle.theory.specs.Closures.{Rising}

-- what is left of a list without one member
record Without {Y : Type 0} (y : Y) (ys : List Y) : Type 0 where
  rest : List Y
  shorter : length ys ≡ suc (length rest)
  others : (z : Y) → Memᴰ z ys → (z ≡ y) ⊎ Memᴰ z rest

without : {Y : Type 0} {y : Y} (ys : List Y) → Memᴰ y ys → Without y ys
without [] p = absurd (Memᴰ.not-nil p)
without {Y} {y} (x ∷ ys) p = at (without ys) (Memᴰ.cases_cons p)
  where
    at : (Memᴰ y ys → Without y ys) → (y ≡ x) ⊎ Memᴰ y ys → Without y (x ∷ ys)
    at _ (inl e) = record { rest = ys; shorter = refl; others = λ z q. first z (Memᴰ.cases_cons q) }
      where
        first : (z : Y) → (z ≡ x) ⊎ Memᴰ z ys → (z ≡ y) ⊎ Memᴰ z ys
        first z (inl d) = inl (cc)
        first z (inr q) = inr q
    at below (inr k) =
        let w = below k in
        record { rest = x ∷ w.rest; shorter = ap suc w.shorter; others = λ z q. later w z (Memᴰ.cases_cons q) }
      where
        beyond : (w : Without y ys) (z : Y) → (z ≡ y) ⊎ Memᴰ z w.rest → (z ≡ y) ⊎ Memᴰ z (x ∷ w.rest)
        beyond w z (inl e) = inl e
        beyond w z (inr q) = inr (Memᴰ.tail q)

        later : (w : Without y ys) (z : Y) → (z ≡ x) ⊎ Memᴰ z ys → (z ≡ y) ⊎ Memᴰ z (x ∷ w.rest)
        later w z (inl d) = inr (Memᴰ.head d)
        later w z (inr q) = beyond w z (w.others z q)

pub pigeonhole :
    {Y : Type 0} (R : ℕ → Y → Type 0) (xs : List ℕ) (ys : List Y) → Rising xs
    → ((x : ℕ) → Memᴰ x xs → (y : Y) × Memᴰ y ys × R x y)
    → ((x z : ℕ) (y : Y) → Memᴰ x xs → Memᴰ z xs → x < z → R x y → R z y → ⊥) → length xs ≤ length ys
pigeonhole R [] ys rising partner one = omega arith
pigeonhole {Y} R (x ∷ xs) ys rising partner one =
    let first = partner x (Memᴰ.head refl) in
    let w = without ys first.1 in
    omega (
      arith,
      w.shorter,
      pigeonhole R xs w.rest rising.1 (λ z q. at first.0 first.2 w z q (partner z (Memᴰ.tail q)))
          (λ a b v qa qb. one a b v (Memᴰ.tail qa) (Memᴰ.tail qb)),
    )
  where
    -- another word's partner is not that of the first
    at :
        (y : Y) → R x y → (w : Without y ys) (z : ℕ) → Memᴰ z xs → (v : Y) × Memᴰ v ys × R z v
        → (v : Y) × Memᴰ v w.rest × R z v
    at y r w z q (v, k, s) = each (w.others v k)
      where
        each : (v ≡ y) ⊎ Memᴰ v w.rest → (v : Y) × Memᴰ v w.rest × R z v
        each (inl e) = absurd (one x z y (Memᴰ.head refl) (Memᴰ.tail q) (rising.0 z q) r (subst (R z) e s))
        each (inr k) = (v, k, s)
