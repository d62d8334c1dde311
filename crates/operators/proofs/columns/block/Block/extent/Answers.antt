use Rattle.std.proofs.Common.{◌<◌, length, arith}
use Rattle.operators.proofs.WordBits.{bit_below, bits_first}
use Rattle.operators.proofs.ByColumns.{through_none, through_turn, some_turn, through_last, through_empty, through_extent}
use Rattle.operators.proofs.columns.block.Block.extent.Goals as goal

pub loop-k-init : goal.loop-k-init
loop-k-init c =
    let n = length c.args.self.now.rows.now in
    rw c.into_iter-k-iterator.ensures.into_iter_gives (
      tt,
      tt,
      λ k e. e,
      through_none n c.args.self.now.columns.now c.args.wanted _ (λ s h. bits_first n s c.args.self.now.few h),
    )

pub bounds-self-k : goal.bounds-self-k
bounds-self-k c =
    let block = c.args.self.now in
    let lt : c.in-Some.k < block.width =
    bit_below block.width c.args.wanted c.in-Some.k c.requires.below (c.loop-k.invariant.2 c.in-Some.k c.in-Some.ensures.steps.1) in
    omega (arith, lt, block.narrow)

pub loop-k-preserved : goal.loop-k-preserved
loop-k-preserved c =
    let n = length c.args.self.now.rows.now in
    let columns = c.args.self.now.columns.now in
    let takes = c.in-Some.ensures.steps in (
      tt,
      tt,
      some_turn n columns c.args.wanted c.loop-k.k-iterator.0 c.in-Some.k c.next.new.self.0 c.loop-k.extent c.loop-k.invariant.2 c.loop-k.invariant.3 takes,
      through_turn n columns c.args.wanted c.loop-k.k-iterator.0 c.in-Some.k c.next.new.self.0 c.loop-k.extent c.loop-k.invariant.2 c.loop-k.invariant.3 takes,
    )

pub returns-in-None : goal.returns-in-None
returns-in-None c =
    let block = c.args.self.now in
    record {
      extent = through_extent block.width block.rows.now block.columns.now c.args.wanted c.loop-k.extent block.turned c.requires.below
          (through_last (length block.rows.now) block.columns.now c.args.wanted c.loop-k.k-iterator.0 c.loop-k.extent c.in-None.ensures.steps.0 c.loop-k.invariant.3);
    }

pub returns-then-extent-eq0 : goal.returns-then-extent-eq0
returns-then-extent-eq0 c =
    let block = c.args.self.now in
    let n = length block.rows.now in
    let columns = block.columns.now in
    let takes = c.in-Some.ensures.steps in
    record {
      extent = through_extent block.width block.rows.now columns c.args.wanted _ block.turned c.requires.below
          (through_empty n columns c.args.wanted c.next.new.self.0 _
          (some_turn n columns c.args.wanted c.loop-k.k-iterator.0 c.in-Some.k c.next.new.self.0 c.loop-k.extent c.loop-k.invariant.2 c.loop-k.invariant.3 takes)
          c.if-extent-eq0.true
          (through_turn n columns c.args.wanted c.loop-k.k-iterator.0 c.in-Some.k c.next.new.self.0 c.loop-k.extent c.loop-k.invariant.2 c.loop-k.invariant.3 takes));
    }
