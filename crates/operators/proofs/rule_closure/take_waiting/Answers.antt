use Rattle.std.proofs.Common.{◌-◌, ◌≤◌, length, get_or, sym, ap, ◌∙◌, arith}
use lib.Bits.{bit_and, bit_or, bit_xor}
use lib.Count.{ones, ones-le}
use Rattle.operators.proofs.Counting.{ones_part, found_le, taken_sum, turn_fires, turn_waits, later_set, later_same, counted_same}
use Rattle.operators.proofs.Told.{word_of, width_of}
use Rattle.operators.proofs.rule_closure.take_waiting.Goals as goal
use Rattle.operators.proofs.rule_closure.take_waiting.Goals.{then-lacking-eq0, else-lacking-eq0}
use Rattle.operators.proofs.rule_closure.take_waiting.Goals.{then-found-eq0-via-then-found-eq0, then-found-eq0-via-else-found-eq0+then-width}

pub overflow_cast-found : goal.overflow_cast-found
overflow_cast-found c =
    let s = c.premise-premise.result in
    let waiting = bit_xor c.args.word c.args.done in
    let e = ap (λ n. ones (bit_and n waiting)) c.word.ensures.value in
    record { fits = omega (arith, s.narrow, ones_part s.word waiting, ones-le s.width s.word s.below) }

pub loop-i-preserved-then-found-eq0 : goal.loop-i-preserved-then-found-eq0
loop-i-preserved-then-found-eq0 c =
    let item = c.index-rules-i.result in
    let same =
    counted_same c.args.width c.args.rules.now c.loop-i.i item c.loop-i-test.true c.index-rules-i.is c.loop-i.missing
    (word_of c.word.ensures.value c.premise-premise.ensures.value) c.requires.inside c.loop-i.invariant.2 in
    let later = later_same c.args.width c.args.rules.now c.loop-i.i item c.loop-i-test.true c.index-rules-i.is c.loop-i.missing c.loop-i.invariant.1 in
    elim c.then-found-eq0.branch [
      | then-found-eq0-via-then-found-eq0 w ↦
          (same (λ _. w.if-found-eq0.true) c.loop-i.invariant.1 c.loop-i.invariant.0, later, c.loop-i.invariant.2, c.loop-i.invariant.3)
      | then-found-eq0-via-else-found-eq0+then-width w ↦ (
        same (λ e. absurd (w.if-width.true (width_of w.width.ensures.value c.premise-premise.ensures.value ∙ e))) c.loop-i.invariant.1 c.loop-i.invariant.0,
        later,
        c.loop-i.invariant.2,
        c.loop-i.invariant.3,
      )
    ]

pub overflow_sub-lacking : goal.overflow_sub-lacking
overflow_sub-lacking c =
    let item = c.index-rules-i.result in
    let spans = sym (width_of c.width.ensures.value c.premise-premise.ensures.value) ∙ c.if-width.false in
    found_le c.args.done c.args.word (get_or c.loop-i.missing c.loop-i.i 0)
    (word_of c.word.ensures.value c.premise-premise.ensures.value) c.requires.inside
    (c.loop-i.invariant.1 c.loop-i.i item (omega arith) c.loop-i-test.true c.index-rules-i.is spans).count

pub loop-i-preserved : goal.loop-i-preserved
loop-i-preserved c =
    let rules = c.args.rules.now in
    let item = c.index-rules-i.result in
    let counts = c.loop-i.missing in
    let v = get_or counts c.loop-i.i 0 - ones (bit_and c.word.result (bit_xor c.args.word c.args.done)) in
    let spans = sym (width_of c.width.ensures.value c.premise-premise.ensures.value) ∙ c.if-width.false in
    let room : length rules ≤ length counts = omega arith in
    let sum =
    taken_sum c.args.done c.args.word (get_or counts c.loop-i.i 0)
    (word_of c.word.ensures.value c.premise-premise.ensures.value) c.requires.inside
    (c.loop-i.invariant.1 c.loop-i.i item (omega arith) c.loop-i-test.true c.index-rules-i.is spans).count in
    let later = later_set c.args.width rules c.loop-i.i item c.loop-i-test.true c.index-rules-i.is counts v c.loop-i.invariant.1 in
    elim c.if-lacking-eq0.branch [
      | then-lacking-eq0 w ↦
          let t =
          turn_fires c.args.width rules c.loop-i.i item c.loop-i-test.true c.index-rules-i.is counts v c.args.word c.loop-i.grown
          room sum c.loop-i.invariant.0 c.loop-i.invariant.2 c.loop-i.invariant.3 spans w.if-lacking-eq0.true
          (w.grown-is ∙ ap (bit_or c.loop-i.grown) (word_of w.word-grown.ensures.value w.conclusion.ensures.value)) in
          (t.0, later, t.1, t.2)
      | else-lacking-eq0 w ↦
          let t =
          turn_waits c.args.width rules c.loop-i.i item c.loop-i-test.true c.index-rules-i.is counts v c.args.word c.loop-i.grown
          room sum c.loop-i.invariant.0 c.loop-i.invariant.2 c.loop-i.invariant.3 w.if-lacking-eq0.false w.grown-is in
          (t.0, later, t.1, t.2)
    ]
