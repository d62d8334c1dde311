use Rattle.std.proofs.Common.{sym, refl, ◌∙◌, subst, arith}
use Rattle.theory.specs.Rules.{close_s, pass, proper}
use Rattle.theory.specs.Words.{Sub}
use Rattle.theory.proofs.Lattice.{sub_refl, sub_trans, sub_le}
use Rattle.theory.proofs.Rules.{close_least, keeps_all_close, pass_close, pass_extends, pass_rises, same_keeps_all}
use Rattle.operators.specs.Heeded.{of_width, of_width_within}
use Rattle.operators.proofs.Alike.{unlike_later}
use Rattle.operators.proofs.Told.{set_below}
use Rattle.operators.proofs.proper_rule_closure.saturated.Goals as goal

pub loop-next-init : goal.loop-next-init
loop-next-init c =
    let rules = of_width c.width-width.result c.args.rules.now in
    (sub_refl c.word-start.result, (close_least proper c.width-width.result rules (of_width_within c.width-width.result c.args.rules.now) c.word-start.result (set_below c.args.set c.width-width.ensures.value c.word-start.ensures.value)).contains, refl)

-- what the pass brings above the bit the closure brings too
pub returns-in_err-next : goal.returns-in_err-next
returns-in_err-next c =
    let rules = of_width c.width-width.result c.args.rules.now in
    let within = of_width_within c.width-width.result c.args.rules.now in
    let word = c.loop-next.word in
    let unlike = c.in_err-next.ensures.passed in
    record {
      closed = simp c.from_residual.ensures
          (rw (← c.width-width.ensures.value, ← c.word-start.ensures.value) (unlike_later c.args.bit c.word-start.result (pass proper rules word) _ (sub_trans c.loop-next.invariant.0 (pass_extends proper rules word))
          (pass_close proper c.width-width.result rules within (set_below c.args.set c.width-width.ensures.value c.word-start.ensures.value) c.loop-next.invariant.1) (λ same. unlike (same ∙ sym c.loop-next.invariant.2))));
    }

pub returns-then-next-word : goal.returns-then-next-word
returns-then-next-word c =
    let rules = of_width c.width-width.result c.args.rules.now in
    let within = of_width_within c.width-width.result c.args.rules.now in
    record {
      closed = rw (← c.width-width.ensures.value, ← c.word-start.ensures.value) (
        keeps_all_close proper c.width-width.result rules within (set_below c.args.set c.width-width.ensures.value c.word-start.ensures.value) c.loop-next.invariant.0 c.loop-next.invariant.1
            (same_keeps_all proper rules c.loop-next.word (sym c.in_ok-next.ensures.passed.0 ∙ c.if-next-word.true)),
        c.loop-next.invariant.2,
      );
    }

-- a pass that changes the word raises it, and stays below the closure
pub loop-next-smaller : goal.loop-next-smaller
loop-next-smaller c =
    let rules = of_width c.width-width.result c.args.rules.now in
    let within = of_width_within c.width-width.result c.args.rules.now in
    let e = c.in_ok-next.ensures.passed.0 in
    omega (
      arith,
      e,
      pass_rises proper rules c.loop-next.word (λ k. c.if-next-word.false (e ∙ k)),
      sub_le (pass_close proper c.width-width.result rules within (set_below c.args.set c.width-width.ensures.value c.word-start.ensures.value) c.loop-next.invariant.1),
      (close_least proper c.width-width.result rules within c.word-start.result (set_below c.args.set c.width-width.ensures.value c.word-start.ensures.value)).below,
    )

pub loop-next-preserved : goal.loop-next-preserved
loop-next-preserved c =
    let rules = of_width c.width-width.result c.args.rules.now in
    let within = of_width_within c.width-width.result c.args.rules.now in
    let e = c.in_ok-next.ensures.passed.0 in (
      subst (Sub c.word-start.result) (sym e) (sub_trans c.loop-next.invariant.0 (pass_extends proper rules c.loop-next.word)),
      subst (λ y. Sub y (close_s c.width-width.result rules c.word-start.result)) (sym e) (pass_close proper c.width-width.result rules within (set_below c.args.set c.width-width.ensures.value c.word-start.ensures.value) c.loop-next.invariant.1),
      c.in_ok-next.ensures.passed.1 ∙ c.loop-next.invariant.2,
    )
