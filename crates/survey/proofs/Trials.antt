-- The trial of one signal: the word tried, and what a signal that passes or fails shows.
use Rattle.std.proofs.Common.{◌≡◌, ℕ, suc, ◌+◌, ◌-◌, ◌*◌, ◌/◌, ◌%◌, ◌^◌, ◌<◌, ◌≤◌, sym, ap, ◌∙◌, subst, mod-eq_of_lt, add-one, arith, pow_mono}
use native.Mathlib.Decide.{ℕ_discrete}
use Rattle.operators.specs.Trials.{Alike}
use Rattle.sets.specs.declared.set.Set.{Set}
use Rattle.sets.specs.Set.{Fit}
use Rattle.theory.specs.Words.{max_signals}
use Rattle.theory.specs.Closures.{Closure, LeastClosed}
use Rattle.theory.proofs.Next.{trial, Passes, NotYet, trial_lacks, trial_above, trial_lt, trial_from, shr_suc, lt_by_shr, not_yet_has, not_yet_fails, found, ended}

-- the word tried, as the code writes it
module _ (last : Set) (k w m : ℕ) (low : k < last.width) (lacks : last.word / 2 ^ k % 2 ≡ 0) (reads : w ≡ last.word) (spans : m ≡ last.width) where
  pub tried_word : (w / 2 ^ k + 1) * 2 ^ k % 2 ^ 64 ≡ trial last.word k
  tried_word =
      let e = trial_lacks last.word k lacks in
      let h = trial_lt last.width last.word k last.below low in
      let p : 2 ^ last.width ≤ 2 ^ max_signals = pow_mono last.narrow in
      let l : (last.word / 2 ^ k + 1) * 2 ^ k < 2 ^ 64 = omega (arith, e, h, p) in
      ap (λ x. (x / 2 ^ k + 1) * 2 ^ k % 2 ^ 64) reads ∙ mod-eq_of_lt l ∙ e

  pub tried_fits : Fit m ((w / 2 ^ k + 1) * 2 ^ k % 2 ^ 64)
  tried_fits = rw (spans, tried_word) record { narrow = last.narrow; below = trial_lt last.width last.word k last.below low }

-- a signal that the set has
pub goes_past : (c : ℕ → ℕ) (a k : ℕ) → NotYet c a k → (a / 2 ^ k % 2 ≡ 0 → ⊥) → NotYet c a (k + 1)
goes_past c a k yet has = subst (λ x. NotYet c a x) (sym (add-one k)) (not_yet_has c a k yet (omega arith))

-- the operator's answer to the word tried
module _ (span : ℕ) (c : ℕ → ℕ) (last : Set) (k : ℕ) (low : k < last.width) (lacks : last.word / 2 ^ k % 2 ≡ 0) (tried : Set) (width : tried.width ≡ last.width) (is : tried.word ≡ trial last.word k) where
  abbrev a : ℕ
  a = last.word

  pub goes_on : NotYet c last.word k → (Alike k (c tried.word) tried.word → ⊥) → NotYet c last.word (k + 1)
  goes_on yet differs =
      subst (λ x. NotYet c a x) (sym (add-one k))
      (not_yet_fails c a k yet (λ pass. differs (subst (λ x. Alike k (c x) x) (sym is) (pass ∙ sym (trial_above a k)))))

  -- the set found; at another width the set tried is given back
  module _
      (op : Closure span c) (yet : last.width ≡ span → NotYet c last.word k) (set : Set)
      (closed : tried.width ≡ span → (set.word ≡ c tried.word) × Alike k (c tried.word) tried.word) (other : (tried.width ≡ span → ⊥) → set ≡ tried)
    where
      pub found_next : last.width ≡ span → LeastClosed last.width c (suc last.word) set.word
      found_next e =
          let told = closed (width ∙ e) in
          let closure : Closure last.width c = subst (λ x. Closure x c) (sym e) op in
          let pass : Passes c a k = subst (λ x. Alike k (c x) x) is told.1 ∙ trial_above a k in
          subst (λ x. LeastClosed last.width c (suc a) x) (sym (told.0 ∙ ap c is))
          (found last.width c closure a last.below k low (yet e) lacks pass)

      pub found_after : last.word < set.word
      found_after = at (ℕ_discrete last.width span)
        where
          at : Dec (last.width ≡ span) → a < set.word
          at (yes e) = (found_next e).above
          at (no n) =
              let e : set.word ≡ trial a k = ap (λ x. x.word) (other (λ w. n (sym width ∙ w))) ∙ is in
              omega (arith, e, lt_by_shr a (trial a k) k (omega (arith, shr_suc a k, trial_from a k)))

-- every signal has been tried
pub none_left :
    (span : ℕ) (c : ℕ → ℕ) (last : Set) (k : ℕ) → Closure span c → k ≡ last.width → (last.width ≡ span → NotYet c last.word k) → last.width ≡ span
    → last.word ≡ 2 ^ last.width - 1
none_left span c last k op end yet e =
    ended last.width c (subst (λ x. Closure x c) (sym e) op) last.word last.below (subst (λ x. NotYet c last.word x) end (yet e))
