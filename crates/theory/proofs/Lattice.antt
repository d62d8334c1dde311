-- The words below 2 ^ m under `Sub` are a lattice: `bit_and` is the meet, `bit_or` the join.
use Rattle.std.proofs.Common.{◌≡◌, ℕ, zero, ◌-◌, ◌/◌, ◌%◌, ◌^◌, ◌<◌, ◌≤◌, min, max, sym, refl, ap, ◌∙◌, mod-eq_of_lt, arith}
use native.Mathlib.Decide.{ℕ_discrete}
use lib.Arith.{bin_ind}
use lib.Bits.{bit_and, bit_or, and_step, or_step, and_shr, or_shr, and_self, and_comm, or_comm, and_le_r, and_zero_r, and_mask}
use Rattle.theory.specs.Words.{Sub, Proper}

-- ---- the operations, by half and low bit

pub by_halves : (a b : ℕ) → a / 2 ≡ b / 2 → a % 2 ≡ b % 2 → a ≡ b
by_halves a b h l = omega arith

pub and_half : (a b : ℕ) → bit_and a b / 2 ≡ bit_and (a / 2) (b / 2)
and_half a b = and_shr a b 1

pub or_half : (a b : ℕ) → bit_or a b / 2 ≡ bit_or (a / 2) (b / 2)
or_half a b = or_shr a b 1

pub and_low : (a b : ℕ) → bit_and a b % 2 ≡ min (a % 2) (b % 2)
and_low a b = omega (arith, and_step a b)

pub or_low : (a b : ℕ) → bit_or a b % 2 ≡ max (a % 2) (b % 2)
or_low a b = omega (arith, or_step a b)

pub and_assoc : (a b c : ℕ) → bit_and (bit_and a b) c ≡ bit_and a (bit_and b c)
and_assoc =
    bin_ind (λ (n : ℕ). (b c : ℕ) → bit_and (bit_and n b) c ≡ bit_and n (bit_and b c)) (λ b c. refl)
    (λ n ih b c. by_halves (bit_and (bit_and n b) c) (bit_and n (bit_and b c))
    (and_half (bit_and n b) c ∙ ap (λ x. bit_and x (c / 2)) (and_half n b) ∙ ih (b / 2) (c / 2)
    ∙ sym (and_half n (bit_and b c) ∙ ap (bit_and (n / 2)) (and_half b c)))
    (omega (arith, and_low (bit_and n b) c, and_low n b, and_low n (bit_and b c), and_low b c)))

pub absorbs : (a b : ℕ) → bit_and a (bit_or a b) ≡ a
absorbs =
    bin_ind (λ (n : ℕ). (b : ℕ) → bit_and n (bit_or n b) ≡ n) (λ b. refl)
    (λ n ih b. by_halves (bit_and n (bit_or n b)) n
    (and_half n (bit_or n b) ∙ ap (bit_and (n / 2)) (or_half n b) ∙ ih (b / 2))
    (omega (arith, and_low n (bit_or n b), or_low n b)))

pub distributes : (a b c : ℕ) → bit_and (bit_or a b) c ≡ bit_or (bit_and a c) (bit_and b c)
distributes =
    bin_ind (λ (n : ℕ). (b c : ℕ) → bit_and (bit_or n b) c ≡ bit_or (bit_and n c) (bit_and b c)) (λ b c. refl)
    (λ n ih b c. by_halves (bit_and (bit_or n b) c) (bit_or (bit_and n c) (bit_and b c))
    (and_half (bit_or n b) c ∙ ap (λ x. bit_and x (c / 2)) (or_half n b) ∙ ih (b / 2) (c / 2)
    ∙ sym (or_half (bit_and n c) (bit_and b c) ∙ ap (λ x. bit_or x (bit_and b c / 2)) (and_half n c)
    ∙ ap (bit_or (bit_and (n / 2) (c / 2))) (and_half b c)))
    (omega (arith, and_low (bit_or n b) c, or_low n b, or_low (bit_and n c) (bit_and b c), and_low n c, and_low b c)))

-- ---- the order

pub sub_refl : (a : ℕ) → Sub a a
sub_refl a = record { same = and_self a }

pub sub_trans : {a b c : ℕ} → Sub a b → Sub b c → Sub a c
sub_trans {a} {b} {c} p q =
    record { same = ap (λ x. bit_and x c) (sym p.same) ∙ and_assoc a b c ∙ ap (bit_and a) q.same ∙ p.same }

pub sub_antisym : {a b : ℕ} → Sub a b → Sub b a → a ≡ b
sub_antisym {a} {b} p q = sym p.same ∙ and_comm a b ∙ q.same

pub sub_le : {a b : ℕ} → Sub a b → a ≤ b
sub_le {a} {b} p = let e = p.same in omega (arith, and_le_r a b)

pub proper_lt : {a b : ℕ} → Proper a b → a < b
proper_lt {a} {b} p = let d = p.differs in omega (arith, sub_le p.inside)

pub sub_lt : {a b : ℕ} (m : ℕ) → Sub a b → b < 2 ^ m → a < 2 ^ m
sub_lt {a} {b} m p h = omega (arith, sub_le p)

pub sub_dec : (a b : ℕ) → Dec (Sub a b)
sub_dec a b = at (ℕ_discrete (bit_and a b) a)
  where
    at : Dec (bit_and a b ≡ a) → Dec (Sub a b)
    at (yes e) = yes (record { same = e })
    at (no n) = no (λ p. n p.same)

-- the empty set lies inside every set, and every set inside the full one

pub zero_sub : (a : ℕ) → Sub zero a
zero_sub a = record { same = refl }

pub sub_zero : {a : ℕ} → Sub a zero → a ≡ zero
sub_zero {a} p = sym p.same ∙ and_zero_r a

pub sub_full : (m a : ℕ) → a < 2 ^ m → Sub a (2 ^ m - 1)
sub_full m a h = record { same = and_mask a m ∙ mod-eq_of_lt h }

-- ---- the meet

pub meet_left : (a b : ℕ) → Sub (bit_and a b) a
meet_left a b = record { same = and_comm (bit_and a b) a ∙ sym (and_assoc a a b) ∙ ap (λ x. bit_and x b) (and_self a) }

pub meet_right : (a b : ℕ) → Sub (bit_and a b) b
meet_right a b = record { same = and_assoc a b b ∙ ap (bit_and a) (and_self b) }

pub meet_greatest : {a b c : ℕ} → Sub c a → Sub c b → Sub c (bit_and a b)
meet_greatest {a} {b} {c} p q =
    record { same = sym (and_assoc c a b) ∙ ap (λ x. bit_and x b) p.same ∙ q.same }

-- ---- the join

pub join_left : (a b : ℕ) → Sub a (bit_or a b)
join_left a b = record { same = absorbs a b }

pub join_right : (a b : ℕ) → Sub b (bit_or a b)
join_right a b = record { same = ap (bit_and b) (or_comm a b) ∙ absorbs b a }

pub join_least : {a b c : ℕ} → Sub a c → Sub b c → Sub (bit_or a b) c
join_least {a} {b} {c} p q =
    record { same = distributes a b c ∙ ap (λ x. bit_or x (bit_and b c)) p.same ∙ ap (bit_or a) q.same }

pub join_absorbs : {a b : ℕ} → Sub a b → bit_or a b ≡ b
join_absorbs {a} {b} p = sub_antisym (join_least p (sub_refl b)) (join_right a b)
