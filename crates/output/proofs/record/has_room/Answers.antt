use Rattle.std.proofs.Common.{rules}
use Rattle.output.proofs.Rooms.{room_start, room_short, room_more, room_none, room_all}
use Rattle.output.proofs.record.has_room.Goals as goal

pub returns-then-left-word : goal.returns-then-left-word
returns-then-left-word c = search (rules, room_short)

pub loop-number-init : goal.loop-number-init
loop-number-init c = search (rules, room_start)

pub loop-number-preserved : goal.loop-number-preserved
loop-number-preserved c = search (rules, room_more)

pub returns-then-room-bytes : goal.returns-then-room-bytes
returns-then-room-bytes c = search (rules, room_none)

pub returns : goal.returns
returns c = search (rules, room_all)
