use Rattle.std.proofs.Common.{take}
use Rattle.output.specs.Outputs.{Grows}
use Rattle.view.specs.Texts.{names_text}
use Rattle.view.proofs.write.put_names.Given as goal

-- the names so far are put
abbrev pub invariant-loop-place : goal.invariant-loop-place
invariant-loop-place l = Grows (names_text l.view.text.now (take l.place-index l.place-items)) l.initial.out l.out
