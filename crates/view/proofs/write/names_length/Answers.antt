use Rattle.std.proofs.Common.{◌+◌, ◌*◌, ◌≤◌, length, sym, ap, ◌∙◌, subst, arith}
use Rattle.view.specs.Texts.{names_text}
use Rattle.view.proofs.Laws.{fit_parts}
use Rattle.view.proofs.Lengths.{NamesCounted, names_counted}
use Rattle.view.proofs.write.names_length.Goals as goal
use Rattle.view.proofs.write.names_length.Goals.{After-places-places}

-- the names that the view's places hold are counted, and they are few
record Counted (c : After-places-places) : Type 0 where
  names : NamesCounted c.args.view.now.text.now c.places-places.result.now
  few : length c.places-places.result.now ≤ 572

counted : (c : After-places-places) → Counted c
counted c =
    let view = c.args.view.now in
    let fit = fit_parts view.text.now view.words.now view.places.now view.fit in
    let same = c.places-places.ensures.places in
    record {
      names = subst (NamesCounted view.text.now) (sym same) (names_counted view.text.now view.places.now fit.names);
      few = subst (λ places. length places ≤ 572) (sym same) (omega (arith, fit.rows, fit.enough, fit.signals));
    }

pub bytes_at-requires : goal.bytes_at-requires
bytes_at-requires c = let k = counted c in omega (arith, k.names.few, k.few)

pub overflow_add-result : goal.overflow_add-result
overflow_add-result c = let k = counted (goal.at.overflow_add-result c).After-places-places in omega (arith, k.names.few, k.few)

pub returns : goal.returns
returns c =
    let k = counted (goal.at.returns c).After-places-places in
    let same = c.places-places.ensures.places in
    record {
      count = ap (λ n. n + length c.places-places.result.now) c.bytes_at.ensures ∙ k.names.whole ∙ ap (λ places. length (names_text c.args.view.now.text.now places)) same;
      few = subst (λ places. c.bytes_at.result + length c.places-places.result.now ≤ 41 * length places) same (omega (arith, k.names.few));
    }
