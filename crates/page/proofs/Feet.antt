-- The foot of a page fits into the bytes that are set aside for it.
use Rattle.std.proofs.Common.{ℕ, ◌≤◌, length, decimal, arith, lit<, length-append}
use Rattle.std.proofs.lemmas.Fmt.{length-decimal-le}
use Rattle.page.specs.Pages.{foot, max_lines, reserve}

pub foot_short : (lines : ℕ) → lines ≤ max_lines → length (foot lines) ≤ reserve
foot_short lines few =
    let digits : length (decimal lines) ≤ 4 = length-decimal-le 4 lines (lit< tt) (omega arith) (omega arith) in
    simp length-append (omega arith)
