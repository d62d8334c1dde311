use Rattle.std.proofs.Common.{◌<◌, arith}
use Rattle.std.proofs.lemmas.Bool.{both_ways}
use Rattle.operators.proofs.WordBits.{bit_below, sifting_first, sifting_keep, sifting_drop}
use Rattle.operators.proofs.columns.block.Block.sifted.Goals as goal

pub loop-k-init : goal.loop-k-init
loop-k-init c =
    rw c.into_iter-k-iterator.ensures.into_iter_gives (
      tt,
      tt,
      sifting_first _ c.args.start c.args.wanted (omega arith) (omega arith) c.requires.covered,
    )

pub bounds-self-k : goal.bounds-self-k
bounds-self-k c =
    let block = c.args.self.now in
    let lt : c.in-Some.k < block.width =
    bit_below block.width c.args.start c.in-Some.k c.requires.below (c.loop-k.invariant.2.untested c.in-Some.k c.in-Some.ensures.steps.1).1 in
    omega (arith, lt, block.narrow)

pub loop-k-preserved-then-not-covers : goal.loop-k-preserved-then-not-covers
loop-k-preserved-then-not-covers c = (
  tt,
  tt,
  sifting_drop _ c.args.start c.loop-k.k-iterator.0 c.loop-k.word c.in-Some.k c.next.new.self.0 c.loop-k.invariant.2 c.in-Some.ensures.steps
      (λ all. both_ways c.covers.result c.if-not-covers.true (c.covers.ensures.told.1 all)),
)

pub loop-k-preserved : goal.loop-k-preserved
loop-k-preserved c = (
  tt,
  tt,
  sifting_keep _ c.args.start c.loop-k.k-iterator.0 c.loop-k.word c.in-Some.k c.next.new.self.0 c.loop-k.invariant.2 c.in-Some.ensures.steps
      (c.covers.ensures.told.0 c.if-not-covers.false),
)
