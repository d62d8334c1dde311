use Rattle.std.proofs.Common.{take}
use Rattle.output.specs.Outputs.{Grows}
use Rattle.view.specs.Texts.{rows_text}
use Rattle.view.proofs.write.put_rows.Given as goal

-- the rows so far are written
abbrev pub invariant-loop-word : goal.invariant-loop-word
invariant-loop-word l = Grows (rows_text l.signals (take l.word-index l.word-items)) l.initial.out l.out
