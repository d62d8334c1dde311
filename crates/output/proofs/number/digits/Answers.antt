use Rattle.std.proofs.Common.{rules, sym, arith}
use Rattle.output.proofs.Digits.{length_between, length_digit}
use Rattle.output.proofs.number.digits.Goals as goal

pub returns-in-Some-clause-count : goal.returns-in-Some-clause-count
returns-in-Some-clause-count c = sym (length_between c.in-Some.power c.args.n c.in-Some.ensures.power_le c.in-Some.ensures.next_power_gt (search rules))

pub returns-in-None-clause-count : goal.returns-in-None-clause-count
returns-in-None-clause-count c = sym (length_digit c.args.n (omega (arith, c.in-None.ensures.none)))
