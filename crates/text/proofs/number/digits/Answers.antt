use Rattle.std.proofs.Common.{◌≡◌, true, get_or, sym, ◌∙◌, inl, inr, rules}
use Rattle.std.specs.Char.{is_ascii_digit}
use Rattle.text.proofs.Decimals.{digit_more, digit_wrong, digit_end, power_more, digit_small}
use Rattle.text.proofs.number.digits.Goals as goal
use Rattle.text.proofs.number.digits.Goals.{then-i-ge-MAX_DIGITS-via-then-i-ge-MAX_DIGITS, then-i-ge-MAX_DIGITS-via-else-i-ge-MAX_DIGITS+then-not-is_ascii_digit}

pub returns-then-i-ge-MAX_DIGITS : goal.returns-then-i-ge-MAX_DIGITS
returns-then-i-ge-MAX_DIGITS c =
    sym (digit_wrong c.args.line c.loop-i.value c.loop-i.i c.args.field.now c.loop-i-test.true
    (elim c.then-i-ge-MAX_DIGITS.branch [
      | then-i-ge-MAX_DIGITS-via-then-i-ge-MAX_DIGITS w ↦ inl w.if-i-ge-MAX_DIGITS.true
      | then-i-ge-MAX_DIGITS-via-else-i-ge-MAX_DIGITS+then-not-is_ascii_digit w ↦ inr (sym w.is_ascii_digit.ensures.value ∙ w.if-not-is_ascii_digit.true)
    ]))
    ∙ c.loop-i.invariant.0

pub loop-i-preserved : goal.loop-i-preserved
loop-i-preserved c =
    let digit : is_ascii_digit (get_or c.args.field.now c.loop-i.i 0) ≡ true = sym c.is_ascii_digit.ensures.value ∙ c.if-not-is_ascii_digit.false in (
      sym (digit_more c.args.line c.loop-i.value c.loop-i.i c.args.field.now c.loop-i-test.true c.if-i-ge-MAX_DIGITS.false digit) ∙ c.loop-i.invariant.0,
      power_more c.loop-i.value _ c.loop-i.i c.loop-i.invariant.1 (digit_small _ digit),
    )

pub returns : goal.returns
returns c = search (rules, digit_end)
