use Rattle.std.proofs.Common.{take}
use Rattle.output.specs.Outputs.{Grows}
use Rattle.output.specs.Records.{number_fields}
use Rattle.output.proofs.output.Output.put_numbers.Given as goal

-- the fields of the numbers so far are put
abbrev pub invariant-loop-number : goal.invariant-loop-number
invariant-loop-number l = Grows (number_fields (take l.number-index l.numbers)) l.initial.self l.self
