-- The bits of a word of the signals.
use Rattle.std.proofs.Common.{◌≡◌, ℕ, ◌*◌, ◌%◌, ◌^◌, ◌≤◌, ap, ◌∙◌, lt_of_le_of_lt, mod-eq_of_lt, one-mul, lit<, pow_mono}

-- the first bit beyond the signals, as a shift gives it
pub bit_beyond : (signals : ℕ) → signals ≤ 60 → (1 * 2 ^ signals) % 2 ^ 64 ≡ 2 ^ signals
bit_beyond signals few = ap (λ n. n % 2 ^ 64) (one-mul (2 ^ signals)) ∙ mod-eq_of_lt (lt_of_le_of_lt (pow_mono few) (lit< tt))
