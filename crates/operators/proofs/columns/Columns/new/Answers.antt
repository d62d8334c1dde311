use Rattle.std.proofs.Common.{◌≡◌, ◌*◌, ◌<◌, min, length, set, take, drop, sym, subst, ◌∙◌, ap, arith}
use Rattle.std.proofs.lemmas.List.{length-set, length-drop, drop-drop}
use Rattle.operators.specs.Columns.{Turned, block}
use Rattle.operators.proofs.ByColumns.{Made, made_more, chunk_front, chunk_others}
use Rattle.operators.proofs.columns.Columns.new.Goals as goal

pub loop-b-preserved : goal.loop-b-preserved
loop-b-preserved c =
    let rows = c.args.rows.now in
    let it = c.loop-b.b-iterator in
    let steps = c.in-Some.ensures.steps in
    let inv = c.loop-b.invariant in
    let size : length c.in-Some.rows.now ≡ min 64 (length it.iter.rest.now) = omega (arith, steps.0.1.1, inv.0) in
    let front = chunk_front it.iter.rest.now c.in-Some.rows.now c.next.new.self.iter.rest.now steps.0.1.0 size in
    let others = chunk_others it.iter.rest.now c.in-Some.rows.now c.next.new.self.iter.rest.now steps.0.1.0 size in
    let here : c.in-Some.rows.now ≡ block rows c.in-Some.b = front ∙ ap (take 64) (inv.1 ∙ ap (λ b. drop (b * 64) rows) (sym steps.1)) in
    let place : c.in-Some.b < length c.loop-b.blocks =
    omega (arith, inv.2, steps.1, steps.0.1.2, ap length inv.1, length-drop (it.count * 64) rows, c.requires.few) in (
      steps.0.0 ∙ inv.0,
      others ∙ ap (drop 64) inv.1 ∙ drop-drop 64 (it.count * 64) rows ∙ ap (λ i. drop i rows) (omega (arith, steps.2)),
      length-set c.loop-b.blocks c.in-Some.b c.columns_of.result ∙ inv.2,
      subst (Made c.args.width rows (set c.loop-b.blocks c.in-Some.b c.columns_of.result)) (omega (arith, steps.1, steps.2))
          (made_more c.args.width rows c.loop-b.blocks c.in-Some.b c.columns_of.result (subst (Made c.args.width rows c.loop-b.blocks) (sym steps.1) inv.3) place
          (subst (λ r. Turned c.args.width r c.columns_of.result) here c.columns_of.ensures.turned)),
    )
