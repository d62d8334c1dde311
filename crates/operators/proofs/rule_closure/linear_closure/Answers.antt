use Rattle.std.proofs.Common.{length, ◌∙◌, subst, arith}
use Rattle.theory.proofs.Lattice.{sub_trans, sub_le}
use Rattle.operators.specs.Counting.{AllCounted}
use Rattle.operators.proofs.Counting.{follows_lt, counted_close}
use Rattle.operators.proofs.Told.{set_below, set_close}
use Rattle.theory.specs.Rules.{inside}
use Rattle.operators.proofs.rule_closure.linear_closure.Goals as goal

pub loop-done-smaller : goal.loop-done-smaller
loop-done-smaller c =
    let n = c.loop-done-test.true in
    omega (
      arith,
      sub_le c.loop-done.invariant.2,
      follows_lt c.width-width.result c.args.rules.now c.word-start.result c.loop-done.word (set_below c.args.set c.width-width.ensures.value c.word-start.ensures.value) c.loop-done.invariant.4,
    )

pub loop-done-preserved : goal.loop-done-preserved
loop-done-preserved c =
    let t = c.take_waiting-grown.ensures in (
      c.take_waiting-grown.auto.missing ∙ c.loop-done.invariant.0,
      t.counted,
      t.contains,
      sub_trans c.loop-done.invariant.3 t.contains,
      λ z keeps s. t.follows z keeps (c.loop-done.invariant.4 z keeps s),
    )

pub returns : goal.returns
returns c =
    let closed =
    counted_close c.width-width.result c.args.rules.now c.word-start.result c.loop-done.word
    (set_below c.args.set c.width-width.ensures.value c.word-start.ensures.value) c.loop-done.invariant.4 c.loop-done.missing c.loop-done.invariant.3
    (subst (λ done. AllCounted c.width-width.result c.args.rules.now c.loop-done.missing 0 (length c.args.rules.now) done c.loop-done.word)
    c.loop-done-test.false c.loop-done.invariant.1) in
    record { closed = set_close inside c.args.rules.now closed c.width-width.ensures.value c.word-start.ensures.value }
