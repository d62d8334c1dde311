-- Members of a list and their places.
use Rattle.std.proofs.Common.{◌≡◌, ℕ, zero, suc, ◌<◌, ◌⊎◌, List, [], ◌∷◌, ◌++◌, length, get_or, sym, refl, inl, inr, arith}
use mathlib.Core.List.Memᴰ
use mathlib.Core.List.{Memᴰ}

pub mem_get_d : {X : Type 0} (xs : List X) (i : ℕ) (d : X) → i < length xs → Memᴰ (get_or xs i d) xs
mem_get_d [] i d h = absurd (omega arith)
mem_get_d (x ∷ xs) zero d h = Memᴰ.head refl
mem_get_d (x ∷ xs) (suc i) d h = Memᴰ.tail (mem_get_d xs i d (omega arith))

-- an element that is read
pub mem_read : {X : Type 0} (xs : List X) (i : ℕ) (x : X) → i < length xs → x ≡ get_or xs i x → Memᴰ x xs
mem_read xs i x h e = rw e (mem_get_d xs i x h)

pub mem_place : {X : Type 0} {x : X} (xs : List X) (d : X) → Memᴰ x xs → (i : ℕ) × (i < length xs) × (get_or xs i d ≡ x)
mem_place [] d p = absurd (Memᴰ.not-nil p)
mem_place {X} {x} (y ∷ ys) d p = at (mem_place ys d) (Memᴰ.cases_cons p)
  where
    at :
        (Memᴰ x ys → (i : ℕ) × (i < length ys) × (get_or ys i d ≡ x)) → (x ≡ y) ⊎ Memᴰ x ys
        → (i : ℕ) × (i < suc (length ys)) × (get_or (y ∷ ys) i d ≡ x)
    at below (inl e) = (0, omega arith, sym e)
    at below (inr q) = let t = below q in (suc t.0, omega (arith, t.1), t.2)

pub mem_push : {X : Type 0} {x y : X} (xs : List X) → Memᴰ x (xs ++ y ∷ []) → Memᴰ x xs ⊎ (x ≡ y)
mem_push {X} {x} {y} xs p = at (Memᴰ.append_cases xs p)
  where
    at : Memᴰ x xs ⊎ Memᴰ x (y ∷ []) → Memᴰ x xs ⊎ (x ≡ y)
    at (inl q) = inl q
    at (inr q) = inr (Memᴰ.eq_of_singleton q)

pub pushed : {X : Type 0} (xs : List X) (y : X) → Memᴰ y (xs ++ y ∷ [])
pushed xs y = Memᴰ.append_right xs (Memᴰ.head refl)
