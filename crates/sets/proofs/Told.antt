-- What the tests of the code say of signals.
use Rattle.std.proofs.Common.{◌≡◌, ℕ, ◌/◌, ◌^◌, ◌<◌, eqb, ltb, Decides}
use native.Mathlib.Nat.{div-eq_of_lt}
use lib.Bits.{bit_and}
use Rattle.sets.specs.declared.set.Set.{Set}
use Rattle.sets.specs.Set.{Inside, Precedes}
use Rattle.std.proofs.lemmas.Bool.{ltb-true, lt-ltb, eqb-true, eq-eqb}
use Rattle.theory.specs.Words.{Sub}
use Rattle.theory.proofs.Signals.{lt_iff_before, sub_iff_signals, sub_signals}

-- a word below 2 ^ width has no bit past its width
pub shift_below : (width word : ℕ) → word < 2 ^ width → word / 2 ^ width ≡ 0
shift_below width word h = div-eq_of_lt h

pub decides_precedes : (a b : Set) → a.width ≡ b.width → Decides (ltb a.word b.word) (Precedes a b)
decides_precedes a b e =
    let h : b.word < 2 ^ a.width = rw e b.below in
    let reading = lt_iff_before a.width a.word b.word a.below h in
    (λ t. record { same = e; before = reading.0 (ltb-true _ _ t) }, λ p. lt-ltb _ _ (reading.1 p.before))

pub inside_sub : (a b : Set) → Inside a b → Sub a.word b.word
inside_sub a b p = (sub_iff_signals a.width a.word b.word a.below).1 (λ i h q. rw p.same (p.signals i h q))

pub sub_inside : (a b : Set) → a.width ≡ b.width → Sub a.word b.word → Inside a b
sub_inside a b e p =
    record { same = e; signals = λ i h q. rw (← e) (sub_signals a.width p i q) }

pub decides_within : (a b : Set) → a.width ≡ b.width → Decides (eqb (bit_and a.word b.word) a.word) (Inside a b)
decides_within a b e =
    (λ t. sub_inside a b e record { same = eqb-true _ _ t }, λ p. eq-eqb _ _ (inside_sub a b p).same)
