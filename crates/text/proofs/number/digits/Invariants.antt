use Rattle.std.proofs.Common.{◌≡◌, ◌^◌, ◌<◌, drop}
use Rattle.text.specs.Numbers.{digits_from}
use Rattle.text.proofs.number.digits.Given as goal

-- what is left gives the answer, and the value so far has no more than i digits
abbrev pub invariant-loop-i : goal.invariant-loop-i
invariant-loop-i l = (digits_from l.line l.value l.i (drop l.i l.field) ≡ digits_from l.line 0 0 l.field) × (l.value < 10 ^ l.i)
