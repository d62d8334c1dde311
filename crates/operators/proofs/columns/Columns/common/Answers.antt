use Rattle.std.proofs.Common.{◌≡◌, ◌+◌, ◌*◌, ◌<◌, [], length, min, drop, slice_index_or, sym, refl, subst, ◌∙◌, ap, arith, rules}
use Rattle.std.proofs.lemmas.List.{drop_more, length-drop, drop-drop}
use Rattle.operators.specs.Columns.{Turned}
use Rattle.operators.proofs.ByColumns.{Narrowing, block_turned, chunk_others, narrowing_first, narrowing_more, narrowed_as, narrowed_wanted, narrowed_all}
use Rattle.operators.proofs.columns.Columns.common.Goals as goal

pub loop-b-init : goal.loop-b-init
loop-b-init c =
    let self = c.args.self.now in
    let e = c.enumerate-b-items.ensures in
    let gives = c.into_iter-b-iterator.ensures.into_iter_gives in
    let blocks : length self.blocks ≡ 8 = search rules in
    let first = narrowing_first self.width self.rows.now c.args.wanted self.blocks (omega (arith, blocks, self.few)) self.turned in
    rw gives (
      ap (λ i. i.size) e.source ∙ c.chunks.ensures.size,
      rw (ap (λ i. i.rest.now) e.source ∙ c.chunks.ensures.rest, e.count) refl,
      rw (ap (λ i. i.rest.now) e.source ∙ c.chunks.ensures.rest, e.count, c.all_signals-word.ensures.full) first,
    )

pub new-requires-clause-turned : goal.new-requires-clause-turned
new-requires-clause-turned c =
    let self = c.args.self.now in
    let it = c.loop-b.b-iterator in
    let steps = c.in-Some.ensures.steps in
    let inv = c.loop-b.invariant in
    let blocks : length self.blocks ≡ 8 = search rules in
    let size : length c.in-Some.rows.now ≡ min 64 (length it.iter.rest.now) = omega (arith, steps.0.1.1, inv.0) in
    let place : it.count < length self.blocks = omega (arith, blocks, steps.0.1.2, ap length inv.1, length-drop (it.count * 64) self.rows.now, self.few) in
    subst (λ b. Turned self.width c.in-Some.rows.now (slice_index_or self.blocks b [])) (sym steps.1)
    (block_turned self.width self.rows.now c.args.wanted it.iter.rest.now (drop it.count self.blocks) c.loop-b.word inv.2
    c.in-Some.rows.now c.next.new.self.iter.rest.now (slice_index_or self.blocks it.count []) (drop (it.count + 1) self.blocks) steps.0.1.0 size
    (drop_more self.blocks it.count [] place))

pub loop-b-preserved : goal.loop-b-preserved
loop-b-preserved c =
    let self = c.args.self.now in
    let it = c.loop-b.b-iterator in
    let steps = c.in-Some.ensures.steps in
    let inv = c.loop-b.invariant in
    let blocks : length self.blocks ≡ 8 = search rules in
    let size : length c.in-Some.rows.now ≡ min 64 (length it.iter.rest.now) = omega (arith, steps.0.1.1, inv.0) in
    let place : it.count < length self.blocks = omega (arith, blocks, steps.0.1.2, ap length inv.1, length-drop (it.count * 64) self.rows.now, self.few) in (
      steps.0.0 ∙ inv.0,
      chunk_others it.iter.rest.now c.in-Some.rows.now c.next.new.self.iter.rest.now steps.0.1.0 size
          ∙ ap (drop 64) inv.1 ∙ drop-drop 64 (it.count * 64) self.rows.now ∙ ap (λ i. drop i self.rows.now) (omega (arith, steps.2)),
      subst (λ n. Narrowing self.width self.rows.now c.args.wanted c.next.new.self.iter.rest.now (drop n self.blocks) c.narrowed-word.result) (omega (arith, steps.2))
          (narrowing_more self.width self.rows.now c.args.wanted it.iter.rest.now (drop it.count self.blocks) c.loop-b.word inv.2
          c.in-Some.rows.now c.next.new.self.iter.rest.now (slice_index_or self.blocks it.count []) (drop (it.count + 1) self.blocks) steps.0.1.0 size
          (drop_more self.blocks it.count [] place)
          c.narrowed-word.result (narrowed_as c.loop-b.word c.args.wanted c.narrowed-word.ensures.common c.new.ensures.width c.new.ensures.rows)),
    )

-- no row is left
pub returns-in-None : goal.returns-in-None
returns-in-None c =
    let self = c.args.self.now in
    let it = c.loop-b.b-iterator in
    let inv = c.loop-b.invariant in
    record {
      common = narrowed_all self.width self.rows.now c.args.wanted it.iter.rest.now (drop it.count self.blocks) c.loop-b.word inv.2 c.in-None.ensures.steps.0.1.0;
    }

pub returns-then-word-wanted : goal.returns-then-word-wanted
returns-then-word-wanted c =
    let self = c.args.self.now in
    let it = c.loop-b.b-iterator in
    let steps = c.in-Some.ensures.steps in
    let inv = c.loop-b.invariant in
    let blocks : length self.blocks ≡ 8 = search rules in
    let size : length c.in-Some.rows.now ≡ min 64 (length it.iter.rest.now) = omega (arith, steps.0.1.1, inv.0) in
    let place : it.count < length self.blocks = omega (arith, blocks, steps.0.1.2, ap length inv.1, length-drop (it.count * 64) self.rows.now, self.few) in
    record {
      common = narrowed_wanted self.width self.rows.now c.args.wanted c.next.new.self.iter.rest.now (drop (it.count + 1) self.blocks) c.narrowed-word.result
          (narrowing_more self.width self.rows.now c.args.wanted it.iter.rest.now (drop it.count self.blocks) c.loop-b.word inv.2
          c.in-Some.rows.now c.next.new.self.iter.rest.now (slice_index_or self.blocks it.count []) (drop (it.count + 1) self.blocks) steps.0.1.0 size
          (drop_more self.blocks it.count [] place)
          c.narrowed-word.result (narrowed_as c.loop-b.word c.args.wanted c.narrowed-word.ensures.common c.new.ensures.width c.new.ensures.rows))
          c.requires.below c.if-word-wanted.true;
    }
