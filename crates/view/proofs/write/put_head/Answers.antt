use Rattle.std.proofs.Common.{ℕ, [], ◌∷◌, decimal, length, arith}
use Rattle.output.specs.declared.output.Output.{Output}
use Rattle.output.specs.Outputs.{Grows}
use Rattle.output.proofs.Growing.{grows_none, grows_put, grows_refused}
use Rattle.view.proofs.Heads.{letter, to_rows, to_line, head_puts, room_letter, room_rows, room_line, room_signals}
use Rattle.view.proofs.write.put_head.Goals as goal
use Rattle.view.proofs.write.put_head.Goals.{In_ok-put_number}

upto_rows : (c : In_ok-put_number) → Grows (to_rows c.args.rows) c.args.out.now c.put_number.new.self
upto_rows c =
    let a : Output = c.args.out.now in
    let n : ℕ = length a.bytes.now in
    let w = grows_put [] letter a a c.put.new.self _ (room_letter c.args.rows c.args.signals a.at n c.requires.room) (grows_none a (omega (arith, c.requires.room))) c.put.ensures.puts in
    (grows_put letter (decimal c.args.rows) a c.put.new.self c.put_number.new.self _ (room_rows c.args.rows c.args.signals a.at n c.requires.room) w.1 c.put_number.ensures.puts).1

pub returns-in_err-put-2 : goal.returns-in_err-put-2
returns-in_err-put-2 c =
    grows_refused (to_rows c.args.rows) (10 ∷ []) c.args.out.now c.put_number.new.self c.put-2.new.self _ (room_line c.args.rows c.args.signals c.args.out.now.at (length c.args.out.now.bytes.now) c.requires.room)
    (upto_rows (goal.at.returns-in_err-put-2 c).In_ok-put_number) c.in_err-put-2.ensures.puts

pub returns : goal.returns
returns c =
    let a : Output = c.args.out.now in
    let n : ℕ = length a.bytes.now in
    let w = grows_put (to_rows c.args.rows) (10 ∷ []) a c.put_number.new.self c.put-2.new.self _ (room_line c.args.rows c.args.signals a.at n c.requires.room) (upto_rows (goal.at.returns c).In_ok-put_number) c.put-2.ensures.puts in
    let v = grows_put (to_line c.args.rows) (decimal c.args.signals) a c.put-2.new.self c.put_number-2.new.self _ (room_signals c.args.rows c.args.signals a.at n c.requires.room) w.1 c.put_number-2.ensures.puts in
    record { puts = head_puts c.args.rows c.args.signals a c.put_number-2.new.self c.put-3.new.self _ c.requires.room v.1 c.put-3.ensures.puts }
