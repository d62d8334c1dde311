use Rattle.output.proofs.Rooms.{Counting}
use Rattle.output.proofs.record.has_room.Given as goal

abbrev pub invariant-loop-number : goal.invariant-loop-number
invariant-loop-number l = Counting l.word l.numbers l.left l.number-index l.room
