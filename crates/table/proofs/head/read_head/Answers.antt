use Rattle.std.proofs.Common.{◌≡◌, arith, rules}
use Rattle.table.proofs.head.read_head.Goals as goal
use Rattle.table.proofs.head.read_head.Goals.{In_ok-rows, In_ok-signals}

-- the numbers of the lines that were read, and the text that stays
record Numbered (c : In_ok-rows) : Type 0 where
  second : c.read.new.self.line ≡ 2
  third : c.read-2.new.self.line ≡ 3
  fourth : c.read-3.new.self.line ≡ 4
  text : c.read-3.new.self.text.now ≡ c.args.lines.now.text.now

numbered : (c : In_ok-rows) → Numbered c
numbered c =
    let second : c.read.new.self.line ≡ 2 = omega (arith, c.in_ok-read.ensures.line) in
    let third : c.read-2.new.self.line ≡ 3 = omega (arith, c.in_ok-read-2.ensures.line) in
    record {
      second = second;
      third = third;
      fourth = omega (arith, c.in_ok-rows.ensures.line);
      text = search rules;
    }

pub returns-in_err-signals-clause-value : goal.returns-in_err-signals-clause-value
returns-in_err-signals-clause-value c =
    let n = numbered (goal.at.returns-in_err-signals-clause-value c).In_ok-rows in
    search rules

pub returns-then-row_room-rows-clause-value : goal.returns-then-row_room-rows-clause-value
returns-then-row_room-rows-clause-value c =
    let n = numbered (goal.at.returns-then-row_room-rows-clause-value c).In_ok-rows in
    search rules

pub returns-in_err-read-3-clause-value : goal.returns-in_err-read-3-clause-value
returns-in_err-read-3-clause-value c =
    let n = numbered (goal.at.returns-in_err-read-3-clause-value c).In_ok-rows in
    let fifth : c.read-4.new.self.line ≡ 5 = omega (arith, c.in_ok-signals.ensures.line) in
    let text : c.read-4.new.self.text.now ≡ c.args.lines.now.text.now = search rules in
    search rules

pub returns-clause-value : goal.returns-clause-value
returns-clause-value c =
    let n = numbered (goal.at.returns-clause-value c).In_ok-rows in
    let fifth : c.read-4.new.self.line ≡ 5 = omega (arith, c.in_ok-signals.ensures.line) in
    let text : c.read-4.new.self.text.now ≡ c.args.lines.now.text.now = search rules in
    search rules
