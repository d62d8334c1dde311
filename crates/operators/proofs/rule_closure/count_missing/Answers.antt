use Rattle.std.proofs.Common.{◌-◌, ◌≤◌, length, sym, ap, ◌∙◌, arith}
use lib.Bits.{bit_and, bit_or}
use lib.Count.{ones}
use Rattle.operators.proofs.Counting.{ones_part, missing_sum, turn_fires, turn_waits}
use Rattle.operators.proofs.Told.{word_of, width_of}
use Rattle.operators.proofs.rule_closure.count_missing.Goals as goal
use Rattle.operators.proofs.rule_closure.count_missing.Goals.{then-lacking-eq0, else-lacking-eq0}

pub overflow_sub-lacking : goal.overflow_sub-lacking
overflow_sub-lacking c = ones_part c.word-needed.result c.args.start

pub loop-i-preserved : goal.loop-i-preserved
loop-i-preserved c =
    let rules = c.args.rules.now in
    let item = c.index-rules-i.result in
    let v = ones c.word-needed.result - ones (bit_and c.word-needed.result c.args.start) in
    let spans = sym (width_of c.width.ensures.value c.premise-premise.ensures.value) ∙ c.if-width.false in
    let room : length rules ≤ length c.loop-i.missing = omega arith in
    let sum = missing_sum c.args.start (word_of c.word-needed.ensures.value c.premise-premise.ensures.value) in
    elim c.if-lacking-eq0.branch [
      | then-lacking-eq0 w ↦
          turn_fires c.args.width rules c.loop-i.i item c.loop-i-test.true c.index-rules-i.is c.loop-i.missing v c.args.start c.loop-i.word
          room sum c.loop-i.invariant.0 c.loop-i.invariant.1 c.loop-i.invariant.2 spans w.if-lacking-eq0.true
          (w.word-is ∙ ap (bit_or c.loop-i.word) (word_of w.word-word.ensures.value w.conclusion.ensures.value))
      | else-lacking-eq0 w ↦
          turn_waits c.args.width rules c.loop-i.i item c.loop-i-test.true c.index-rules-i.is c.loop-i.missing v c.args.start c.loop-i.word
          room sum c.loop-i.invariant.0 c.loop-i.invariant.1 c.loop-i.invariant.2 w.if-lacking-eq0.false w.word-is
    ]
