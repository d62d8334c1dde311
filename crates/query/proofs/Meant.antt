-- The signals that names mean, and the set that they join.
use Rattle.std.proofs.Common.{◌≡◌, ℕ, zero, suc, ◌+◌, ◌-◌, ◌/◌, ◌%◌, ◌^◌, ◌<◌, true, false, ◌⊎◌, List, [], ◌∷◌, map, length, get_or, Some, None, Ok, Option, sym, refl, ap, ◌∙◌, subst, inl, inr, arith, pow_pos, pow-add}
use mathlib.Core.List.Memᴰ
use mathlib.Core.List.{Memᴰ}
use native.Mathlib.Decide.{ℕ_discrete}
use native.Mathlib.Nat.{div-eq_of_lt, div_self, mul-div_cancel_left, mul-mod_right, pow-succ'}
use lib.Bits.{bit_or, or_shr, or_zero_r}
use lib.Pow.{pow-lt}
use Rattle.std.specs.List.{AllByRecursion}
use Rattle.std.specs.Str.{bytes_eq}
use Rattle.std.proofs.lemmas.Slice.Eq.{bytes_eq-Decides}
use Rattle.std.proofs.lemmas.Bool.{cases_Bool, cases_order, cond-true, cond-false, true≢false}
use Rattle.query.specs.Fields.{Field}
use Rattle.query.specs.Meaning.{Means, Meant, Unmeant, Named, Joined}
use Rattle.query.specs.Names.{and_then, named_from, signal_named, with_names, found_word}
use Rattle.table.proofs.Codecs.{not_ok}
use Rattle.theory.specs.Words.{Has}
use Rattle.theory.proofs.Signals.{join_signals}

-- ---- the look-up finds the signal that is meant

same_is : (xs ys : List ℕ) → bytes_eq xs ys ≡ true → xs ≡ ys
same_is xs ys e = (bytes_eq-Decides xs ys).0 e

same_not : (xs ys : List ℕ) → (xs ≡ ys → ⊥) → bytes_eq xs ys ≡ false
same_not xs ys n = at (cases_Bool (bytes_eq xs ys))
  where
    at : (bytes_eq xs ys ≡ true) ⊎ (bytes_eq xs ys ≡ false) → bytes_eq xs ys ≡ false
    at (inl e) = absurd (n (same_is xs ys e))
    at (inr e) = e

found_means : (from : ℕ) (names : List (List ℕ)) (bytes : List ℕ) (j : ℕ) → Some j ≡ named_from from names bytes → (i : ℕ) × (j ≡ from + i) × Means names bytes i
found_means from [] bytes j e = let z : ◌≡◌ {A = ℕ} 0 1 = cc in absurd (omega arith)
found_means from (name ∷ names) bytes j e = at (cases_Bool (bytes_eq name bytes)) (found_means (from + 1) names bytes j)
  where
    at : (bytes_eq name bytes ≡ true) ⊎ (bytes_eq name bytes ≡ false) → (Some j ≡ named_from (from + 1) names bytes → (i : ℕ) × (j ≡ from + 1 + i) × Means names bytes i)
        → (i : ℕ) × (j ≡ from + i) × Means (name ∷ names) bytes i
    at (inl t) f =
        let here : Some j ≡ Some from = e ∙ cond-true _ _ _ t in
        let same : j ≡ from = cc in
        (0, omega arith, record { within = omega arith; here = same_is name bytes t; lowest = λ k lt _. absurd (omega arith) })
    at (inr t) f = up (f (e ∙ cond-false _ _ _ t))
      where
        up : (i : ℕ) × (j ≡ from + 1 + i) × Means names bytes i → (i : ℕ) × (j ≡ from + i) × Means (name ∷ names) bytes i
        up (i, is, m) =
            let w = m.within in
            (suc i, omega arith, record { within = omega arith; here = m.here; lowest = lowest })
          where
            lowest : (k : ℕ) → k < suc i → get_or (name ∷ names) k [] ≡ bytes → ⊥
            lowest zero lt same = true≢false (sym ((bytes_eq-Decides name bytes).1 same) ∙ t)
            lowest (suc k) lt same = m.lowest k (omega arith) same

means_found : (from : ℕ) (names : List (List ℕ)) (bytes : List ℕ) (i : ℕ) → Means names bytes i → named_from from names bytes ≡ Some (from + i)
means_found from [] bytes i m = absurd (omega (arith, m.within))
means_found from (name ∷ names) bytes zero m = cond-true _ _ _ ((bytes_eq-Decides name bytes).1 m.here) ∙ ap Some (omega arith)
means_found from (name ∷ names) bytes (suc i) m =
    let w = m.within in
    let rest : Means names bytes i = record { within = omega arith; here = m.here; lowest = λ k lt same. m.lowest (suc k) (omega arith) same } in
    cond-false _ _ _ (same_not name bytes (λ same. m.lowest 0 (omega arith) same)) ∙ means_found (from + 1) names bytes i rest ∙ ap Some (omega arith)

pub meant_found : (names : List (List ℕ)) (bytes : List ℕ) (i : ℕ) → Means names bytes i → signal_named names bytes ≡ Some i
meant_found names bytes i m = means_found 0 names bytes i m ∙ ap Some (omega arith)

unmeant_found : (from : ℕ) (names : List (List ℕ)) (bytes : List ℕ) → Unmeant names bytes → named_from from names bytes ≡ None
unmeant_found from [] bytes n = refl
unmeant_found from (name ∷ names) bytes n =
    cond-false _ _ _ (same_not name bytes (λ same. n 0 (omega arith) same)) ∙ unmeant_found (from + 1) names bytes (λ i h same. n (suc i) (omega arith) same)

-- where no signal is meant, the look-up finds none
pub unmeant_none : (names : List (List ℕ)) (bytes : List ℕ) → Unmeant names bytes → signal_named names bytes ≡ None
unmeant_none names bytes n = unmeant_found 0 names bytes n

pub found_meant : (names : List (List ℕ)) (bytes : List ℕ) (i : ℕ) → Some i ≡ signal_named names bytes → Means names bytes i
found_meant names bytes i e = at (found_means 0 names bytes i e)
  where
    at : (k : ℕ) × (i ≡ 0 + k) × Means names bytes k → Means names bytes i
    at (k, is, m) = let same : k ≡ i = omega arith in subst (Means names bytes) same m

-- a name means one signal
pub means_one : (names : List (List ℕ)) (bytes : List ℕ) (i j : ℕ) → Means names bytes i → Means names bytes j → i ≡ j
means_one names bytes i j p q =
    let a = meant_found names bytes i p in
    let b = meant_found names bytes j q in
    cc

-- ---- the set of one signal

other_bit : (k l : ℕ) → (k ≡ l → ⊥) → 2 ^ k / 2 ^ l % 2 ≡ 0
other_bit k l n = at (cases_order k l)
  where
    at : (k ≡ l) ⊎ ((k < l) ⊎ (l < k)) → 2 ^ k / 2 ^ l % 2 ≡ 0
    at (inl e) = absurd (n e)
    at (inr (inl lt)) = ap (λ x. x % 2) (div-eq_of_lt (pow-lt lt))
    at (inr (inr lt)) =
        let more : k ≡ l + suc (k - l - 1) = omega arith in
        ap (λ x. 2 ^ x / 2 ^ l % 2) more ∙ ap (λ x. x / 2 ^ l % 2) (pow-add 2 l (suc (k - l - 1))) ∙ ap (λ x. x % 2) (mul-div_cancel_left (2 ^ suc (k - l - 1)) (pow_pos l))
        ∙ ap (λ x. x % 2) (pow-succ' 2 (k - l - 1)) ∙ mul-mod_right 2 (2 ^ (k - l - 1))

module _ (m i j : ℕ) (hi : i < m) (hj : j < m) where
  bit_same : j ≡ i → Has m j (2 ^ (m - 1 - i))
  bit_same e = ap (λ x. 2 ^ (m - 1 - i) / 2 ^ (m - 1 - x) % 2) e ∙ ap (λ x. x % 2) (div_self (pow_pos (m - 1 - i)))

  bit_is : Has m j (2 ^ (m - 1 - i)) → j ≡ i
  bit_is has = at (ℕ_discrete j i)
    where
      at : Dec (j ≡ i) → j ≡ i
      at (yes e) = e
      at (no n) = let z = other_bit (m - 1 - i) (m - 1 - j) (λ e. n (omega arith)) in absurd (omega arith)

bit_above : (m i word : ℕ) → i < m → bit_or word (2 ^ (m - 1 - i)) / 2 ^ m ≡ word / 2 ^ m
bit_above m i word h =
    let lt : m - 1 - i < m = omega arith in
    or_shr word (2 ^ (m - 1 - i)) m ∙ ap (bit_or (word / 2 ^ m)) (div-eq_of_lt (pow-lt lt)) ∙ or_zero_r (word / 2 ^ m)

-- ---- the names of some fields

abbrev pub texts : List Field → List (List ℕ)
texts fields = map (λ (f : Field). f.bytes) fields

joined_none : (names : List (List ℕ)) (word : ℕ) → Joined names word [] word
joined_none names word = record { signals = λ i h. (inl, none i); others = refl }
  where
    none : (i : ℕ) → Has (length names) i word ⊎ Named names [] i → Has (length names) i word
    none i (inl p) = p
    none i (inr n) = absurd (Memᴰ.not-nil n.among)

joined_more : (names : List (List ℕ)) (word i : ℕ) (bytes : List ℕ) (some : List (List ℕ)) (later : ℕ) → Means names bytes i
    → Joined names (bit_or word (2 ^ (length names - 1 - i))) some later → Joined names word (bytes ∷ some) later
joined_more names word i bytes some later means rest = record { signals = λ j h. (there j h, back j h); others = rest.others ∙ bit_above (length names) i word means.within }
  where
    named_first : (j : ℕ) → j ≡ i → Named names (bytes ∷ some) j
    named_first j e = record { bytes = bytes; among = Memᴰ.head refl; means = subst (Means names bytes) (sym e) means }

    there : (j : ℕ) → j < length names → Has (length names) j later → Has (length names) j word ⊎ Named names (bytes ∷ some) j
    there j h p = at ((rest.signals j h).0 p)
      where
        two : Has (length names) j word ⊎ Has (length names) j (2 ^ (length names - 1 - i)) → Has (length names) j word ⊎ Named names (bytes ∷ some) j
        two (inl q) = inl q
        two (inr q) = inr (named_first j (bit_is (length names) i j means.within h q))

        at : Has (length names) j (bit_or word (2 ^ (length names - 1 - i))) ⊎ Named names some j → Has (length names) j word ⊎ Named names (bytes ∷ some) j
        at (inl q) = two ((join_signals (length names) j word (2 ^ (length names - 1 - i))).0 q)
        at (inr n) = inr (record { bytes = n.bytes; among = Memᴰ.tail n.among; means = n.means })

    back : (j : ℕ) → j < length names → Has (length names) j word ⊎ Named names (bytes ∷ some) j → Has (length names) j later
    back j h (inl q) = (rest.signals j h).1 (inl ((join_signals (length names) j word (2 ^ (length names - 1 - i))).1 (inl q)))
    back j h (inr n) = at (Memᴰ.cases_cons n.among)
      where
        at : (n.bytes ≡ bytes) ⊎ Memᴰ n.bytes some → Has (length names) j later
        at (inl e) =
            let same : j ≡ i = means_one names bytes j i (subst (λ bs. Means names bs j) e n.means) means in
            (rest.signals j h).1 (inl ((join_signals (length names) j word (2 ^ (length names - 1 - i))).1 (inr (bit_same (length names) i j means.within h same))))
        at (inr q) = (rest.signals j h).1 (inr (record { bytes = n.bytes; among = q; means = n.means }))

-- where each name means a signal, they join the set
pub names_join : (names : List (List ℕ)) (line word : ℕ) (fields : List Field) → AllByRecursion (Meant names) (texts fields) → (later : ℕ) × (with_names names line word fields ≡ Ok later) × Joined names word (texts fields) later
names_join names line word [] all = (word, refl, joined_none names word)
names_join names line word (f ∷ fields) ((i, means), all) = at (names_join names line (bit_or word (2 ^ (length names - 1 - i))) fields all)
  where
    at : (later : ℕ) × (with_names names line (bit_or word (2 ^ (length names - 1 - i))) fields ≡ Ok later) × Joined names (bit_or word (2 ^ (length names - 1 - i))) (texts fields) later
        → (later : ℕ) × (with_names names line word (f ∷ fields) ≡ Ok later) × Joined names word (f.bytes ∷ texts fields) later
    at (later, is, j) = (
      later,
      ap (λ o. and_then (found_word (length names) line f.byte o) (λ bit. with_names names line (bit_or word bit) fields)) (meant_found names f.bytes i means) ∙ is,
      joined_more names word i f.bytes (texts fields) later means j,
    )

-- where a set comes of it, each name means a signal
pub names_meant : (names : List (List ℕ)) (line word : ℕ) (fields : List Field) (later : ℕ) → with_names names line word fields ≡ Ok later → AllByRecursion (Meant names) (texts fields)
names_meant names line word [] later e = tt
names_meant names line word (f ∷ fields) later e = at (signal_named names f.bytes) refl (λ set is. names_meant names line set fields later is)
  where
    at : (o : Option ℕ) → o ≡ signal_named names f.bytes → ((set : ℕ) → with_names names line set fields ≡ Ok later → AllByRecursion (Meant names) (texts fields)) → AllByRecursion (Meant names) (texts (f ∷ fields))
    at None is rest = absurd (not_ok _ later (ap (λ o. and_then (found_word (length names) line f.byte o) (λ bit. with_names names line (bit_or word bit) fields)) is ∙ e))
    at (Some i) is rest = (
      (i, found_meant names f.bytes i is),
      rest (bit_or word (2 ^ (length names - 1 - i))) (ap (λ o. and_then (found_word (length names) line f.byte o) (λ bit. with_names names line (bit_or word bit) fields)) is ∙ e),
    )
