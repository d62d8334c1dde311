-- The decimal digits of a number, from the last to the first.
use Rattle.std.proofs.Common.{◌≡◌, ℕ, zero, suc, pow-suc, ◌+◌, ◌*◌, ◌/◌, ◌^◌, ◌<◌, ◌≤◌, length, decimal, ap, ◌∙◌, arith, lit<, length-append}
use Rattle.std.proofs.lemmas.Fmt.{decimal_digit, decimal_step, length-decimal-le}

pub decimal_short : (n : ℕ) → n < 2 ^ 64 → length (decimal n) ≤ 20
decimal_short n small = length-decimal-le 20 n (lit< tt) (omega arith) small

-- one digit fewer
pub length_step : (n : ℕ) → 10 ≤ n → n < 2 ^ 64 → length (decimal n) ≡ length (decimal (n / 10)) + 1
length_step n many small = ap length (decimal_step n many small) ∙ length-append (decimal (n / 10)) _

pub length_digit : (n : ℕ) → n < 10 → length (decimal n) ≡ 1
length_digit n few = ap length (decimal_digit n few)

-- the digits of a number between two powers of ten
pub length_between : (k n : ℕ) → 10 ^ k ≤ n → n < 10 * 10 ^ k → n < 2 ^ 64 → length (decimal n) ≡ k + 1
length_between zero n some few small = length_digit n (omega arith)
length_between (suc k) n some few small =
    let power : 10 ^ suc k ≡ 10 ^ k * 10 = pow-suc 10 k in
    length_step n (omega arith) small ∙ ap (λ m. m + 1) (length_between k (n / 10) (omega arith) (omega arith) (omega arith)) ∙ omega arith
