-- Lists of all words with a property, grown at the end.
use Rattle.std.proofs.Common.{◌≡◌, ℕ, zero, suc, ◌+◌, ◌-◌, ◌<◌, ◌≤◌, eqb, ◌⊎◌, List, [], ◌∷◌, ◌++◌, length, get_or, sym, refl, ap, ◌∙◌, subst, inl, inr, ⊎_elim, append_assoc, append-nil, zero-add, arith}
use mathlib.Core.List.Memᴰ
use mathlib.Core.List.{Memᴰ}
use native.Mathlib.Decide.{ℕ_discrete, dec_lt}
use Rattle.std.proofs.lemmas.Bool.{eq-eqb, ne_eqb, cond-true, cond-false}
use Rattle.theory.specs.Closures.{Closed, LeastClosed, Rising, Listing, closed_below}
use Rattle.theory.proofs.Members.{mem_get_d, mem_push, pushed}

-- ---- rising lists

pub rising_push : (xs : List ℕ) (y : ℕ) → Rising xs → ((x : ℕ) → Memᴰ x xs → x < y) → Rising (xs ++ y ∷ [])
rising_push [] y r h = (λ x p. absurd (Memᴰ.not-nil p), tt)
rising_push (z ∷ xs) y r h =
    (λ x p. at x (mem_push xs p), rising_push xs y r.1 (λ x p. h x (Memᴰ.tail p)))
  where
    at : (x : ℕ) → Memᴰ x xs ⊎ (x ≡ y) → z < x
    at x (inl q) = r.0 x q
    at x (inr e) = rw e (h z (Memᴰ.head refl))

pub rising_get_d : (xs : List ℕ) (i j : ℕ) → Rising xs → i < j → j < length xs → get_or xs i 0 < get_or xs j 0
rising_get_d [] i j r h l = absurd (omega arith)
rising_get_d (x ∷ xs) i zero r h l = absurd (omega arith)
rising_get_d (x ∷ xs) zero (suc j) r h l = r.0 (get_or xs j 0) (mem_get_d xs j 0 (omega arith))
rising_get_d (x ∷ xs) (suc i) (suc j) r h l = rising_get_d xs i j r.1 (omega arith) (omega arith)

-- a rising list of words from `from` and below `upto` is no longer than there are such words
pub rising_length :
    (from upto : ℕ) (xs : List ℕ) → Rising xs → ((x : ℕ) → Memᴰ x xs → from ≤ x) → ((x : ℕ) → Memᴰ x xs → x < upto)
    → length xs ≤ upto - from
rising_length from upto [] r low high = omega arith
rising_length from upto (x ∷ xs) r low high =
    let a = low x (Memᴰ.head refl) in
    let b = high x (Memᴰ.head refl) in
    omega (arith, rising_length (suc x) upto xs r.1 r.0 (λ y p. high y (Memᴰ.tail p)))

-- two rising lists with the same members are equal
pub rising_same :
    (xs ys : List ℕ) → Rising xs → Rising ys → ((z : ℕ) → Memᴰ z xs → Memᴰ z ys) → ((z : ℕ) → Memᴰ z ys → Memᴰ z xs) → xs ≡ ys
rising_same [] [] r s f g = refl
rising_same [] (y ∷ ys) r s f g = absurd (Memᴰ.not-nil (g y (Memᴰ.head refl)))
rising_same (x ∷ xs) [] r s f g = absurd (Memᴰ.not-nil (f x (Memᴰ.head refl)))
rising_same (x ∷ xs) (y ∷ ys) r s f g = join (rising_same xs ys r.1 s.1 left right)
  where
    heads : (x ≡ y) ⊎ Memᴰ x ys → (y ≡ x) ⊎ Memᴰ y xs → x ≡ y
    heads (inl e) _ = e
    heads (inr p) (inl e) = sym e
    heads (inr p) (inr q) = absurd (omega (arith, s.0 x p, r.0 y q))

    same : x ≡ y
    same = heads (Memᴰ.cases_cons (f x (Memᴰ.head refl))) (Memᴰ.cases_cons (g y (Memᴰ.head refl)))

    left : (z : ℕ) → Memᴰ z xs → Memᴰ z ys
    left z p = at (Memᴰ.cases_cons (f z (Memᴰ.tail p)))
      where
        at : (z ≡ y) ⊎ Memᴰ z ys → Memᴰ z ys
        at (inl e) = absurd (omega (arith, r.0 z p, same))
        at (inr q) = q

    right : (z : ℕ) → Memᴰ z ys → Memᴰ z xs
    right z p = at (Memᴰ.cases_cons (g z (Memᴰ.tail p)))
      where
        at : (z ≡ x) ⊎ Memᴰ z xs → Memᴰ z xs
        at (inl e) = absurd (omega (arith, s.0 z p, same))
        at (inr q) = q

    join : xs ≡ ys → x ∷ xs ≡ y ∷ ys
    join e = let d = same in cc

-- ---- listings of any property

module _ (Q : ℕ → Type 0) (from : ℕ) where
  pub listing_none : Listing Q from from []
  listing_none =
      record {
        rising = tt;
        above = λ x p. absurd (Memᴰ.not-nil p);
        below = λ x p. absurd (Memᴰ.not-nil p);
        sound = λ x p. absurd (Memᴰ.not-nil p);
        all = λ x l h _. absurd (omega arith);
      }

  -- past words without the property
  pub listing_skip :
      {upto : ℕ} {xs : List ℕ} (next : ℕ) → Listing Q from upto xs → upto ≤ next
      → ((x : ℕ) → upto ≤ x → x < next → Q x → ⊥) → Listing Q from next xs
  listing_skip {upto} {xs} next old h none =
      record {
        rising = old.rising;
        above = old.above;
        below = λ x p. omega (arith, old.below x p);
        sound = old.sound;
        all = λ x l k q. at x l k q (dec_lt x upto);
      }
    where
      at : (x : ℕ) → from ≤ x → x < next → Q x → Dec (x < upto) → Memᴰ x xs
      at x l k q (yes b) = old.all x l b q
      at x l k q (no n) = absurd (none x (omega arith) k q)

  -- one word with the property
  pub listing_push :
      {upto : ℕ} {xs : List ℕ} → from ≤ upto → Listing Q from upto xs → Q upto → Listing Q from (suc upto) (xs ++ upto ∷ [])
  listing_push {upto} {xs} h old q =
      record {
        rising = rising_push xs upto old.rising old.below;
        above = λ x p. ⊎_elim (old.above x) (λ (e : x ≡ upto). omega arith) (mem_push xs p);
        below = λ x p. ⊎_elim (λ (p : Memᴰ x xs). omega (arith, old.below x p)) (λ (e : x ≡ upto). omega arith) (mem_push xs p);
        sound = λ x p. ⊎_elim (old.sound x) (λ (e : x ≡ upto). subst Q (sym e) q) (mem_push xs p);
        all = λ x l k s. at x l k s (ℕ_discrete x upto);
      }
    where
      at : (x : ℕ) → from ≤ x → x < suc upto → Q x → Dec (x ≡ upto) → Memᴰ x (xs ++ upto ∷ [])
      at x l k s (yes e) = rw e (pushed xs upto)
      at x l k s (no n) = Memᴰ.append_left (upto ∷ []) (old.all x l (omega arith) s)

  pub listing_same : {upto : ℕ} {xs ys : List ℕ} → Listing Q from upto xs → Listing Q from upto ys → xs ≡ ys
  listing_same {upto} {xs} {ys} a b =
      rising_same xs ys a.rising b.rising
      (λ z p. b.all z (a.above z p) (a.below z p) (a.sound z p))
      (λ z p. a.all z (b.above z p) (b.below z p) (b.sound z p))

  pub listing_length : {upto : ℕ} {xs : List ℕ} → Listing Q from upto xs → length xs ≤ upto - from
  listing_length {upto} {xs} a = rising_length from upto xs a.rising a.above a.below

-- ---- listings of closed words

module _ (m : ℕ) (c : ℕ → ℕ) where
  pub closed_push :
      {from upto x : ℕ} {xs : List ℕ} → from ≤ upto → Listing (Closed c) from upto xs → LeastClosed m c upto x
      → Listing (Closed c) from (suc x) (xs ++ x ∷ [])
  closed_push {from} {upto} {x} {xs} h old f =
      listing_push (Closed c) from (omega (arith, f.above))
      (listing_skip (Closed c) from x old f.above (λ y l k e. omega (arith, f.least y (omega (arith, f.below)) l e)))
      f.closed

  pub closed_first : {from x : ℕ} → LeastClosed m c from x → Listing (Closed c) from (suc x) (x ∷ [])
  closed_first {from} {x} f = closed_push (omega arith) (listing_none (Closed c) from) f

-- the closed words below n are listed by a test of each
pub closed_below_listing : (c : ℕ → ℕ) (n : ℕ) → Listing (Closed c) 0 n (closed_below c n)
closed_below_listing c zero = listing_none (Closed c) 0
closed_below_listing c (suc n) = at (ℕ_discrete (c n) n) (closed_below_listing c n)
  where
    at : Dec (Closed c n) → Listing (Closed c) 0 n (closed_below c n) → Listing (Closed c) 0 (suc n) (closed_below c (suc n))
    at (yes e) f = rw (cond-true (eqb (c n) n) (closed_below c n ++ n ∷ []) (closed_below c n) (eq-eqb (c n) n e)) (listing_push (Closed c) 0 (omega arith) f e)
    at (no d) f =
        rw (cond-false (eqb (c n) n) (closed_below c n ++ n ∷ []) (closed_below c n) (ne_eqb (c n) n d))
        (listing_skip (Closed c) 0 (suc n) f (omega arith) (λ x l h e. let s : x ≡ n = omega arith in d (rw s at e)))

-- those below d come first among those below n
pub closed_below_front : (c : ℕ → ℕ) (d k : ℕ) → (rest : List ℕ) × (closed_below c (k + d) ≡ closed_below c d ++ rest)
closed_below_front c d zero = ([], ap (closed_below c) (zero-add d) ∙ sym (append-nil (closed_below c d)))
closed_below_front c d (suc k) = at (ℕ_discrete (c (k + d)) (k + d)) (closed_below_front c d k)
  where
    next : suc k + d ≡ suc (k + d)
    next = omega arith

    at : Dec (Closed c (k + d)) → (rest : List ℕ) × (closed_below c (k + d) ≡ closed_below c d ++ rest) → (rest : List ℕ) × (closed_below c (suc k + d) ≡ closed_below c d ++ rest)
    at (yes e) (rest, is) = (
      rest ++ (k + d) ∷ [],
      ap (closed_below c) next ∙ cond-true (eqb (c (k + d)) (k + d)) _ _ (eq-eqb (c (k + d)) (k + d) e)
          ∙ ap (λ xs. xs ++ (k + d) ∷ []) is ∙ append_assoc (closed_below c d) rest ((k + d) ∷ []),
    )
    at (no n) (rest, is) = (rest, ap (closed_below c) next ∙ cond-false (eqb (c (k + d)) (k + d)) _ _ (ne_eqb (c (k + d)) (k + d) n) ∙ is)

-- a listing from 0 on is what the test of each word gives
pub listing_closed_below : (c : ℕ → ℕ) (d : ℕ) (xs : List ℕ) → Listing (Closed c) 0 d xs → xs ≡ closed_below c d
listing_closed_below c d xs l = listing_same (Closed c) 0 l (closed_below_listing c d)
