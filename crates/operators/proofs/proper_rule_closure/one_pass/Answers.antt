use Rattle.std.proofs.Common.{◌≡◌, ◌+◌, take, sym, ap, ◌∙◌, subst}
use lib.Bits.{bit_or}
use Rattle.std.proofs.lemmas.List.{take_all}
use Rattle.std.proofs.lemmas.Bool.{both_ways}
use Rattle.theory.specs.Rules.{pass, proper}
use Rattle.theory.specs.Words.{Sub}
use Rattle.theory.proofs.Rules.{pass_extends}
use Rattle.operators.specs.Heeded.{of_width}
use Rattle.operators.specs.Trials.{Alike}
use Rattle.operators.proofs.Alike.{pass_front, unlike_later}
use Rattle.operators.proofs.Passes.{proper_in, proper_out}
use Rattle.operators.proofs.Told.{word_of, width_of}
use Rattle.operators.proofs.proper_rule_closure.one_pass.Goals as goal
use Rattle.operators.proofs.proper_rule_closure.one_pass.Goals.{then-is_proper_part+then-span-width+else-not-are_alike, else-is_proper_part}
use Rattle.operators.proofs.proper_rule_closure.one_pass.Goals.{else-is_proper_part-via-then-is_proper_part+else-span-width, else-is_proper_part-via-else-is_proper_part}

pub loop-rule-preserved : goal.loop-rule-preserved
loop-rule-preserved c =
    let needs = word_of c.word-needed.ensures.value c.premise-premise.ensures.value in
    let spans = width_of c.width-span.ensures.value c.premise-premise.ensures.value in
    let same = proper_out c.args.width c.args.rules.now c.loop-rule.rule-index c.rule-item.result c.loop-rule-test.true c.rule-item.is
    c.args.start c.loop-rule.word c.word-needed.result c.width-span.result c.loop-rule.invariant.0 needs spans in
    let told = c.is_proper_part.ensures.told in
    elim c.if-is_proper_part.branch [
      | then-is_proper_part+then-span-width+else-not-are_alike w ↦ (
        w.word-is
            ∙ proper_in c.args.width c.args.rules.now c.loop-rule.rule-index c.rule-item.result c.loop-rule-test.true c.rule-item.is
            c.args.start c.loop-rule.word c.word-needed.result c.width-span.result c.loop-rule.invariant.0 needs spans
            (word_of w.word-word.ensures.value w.conclusion.ensures.value) (told.0 w.if-is_proper_part.true).0 (told.0 w.if-is_proper_part.true).1 w.if-span-width.true,
        subst (λ y. Alike c.args.bit y c.args.start) (sym w.word-is) (w.are_alike.ensures.told.0 w.if-not-are_alike.false),
      )
      | else-is_proper_part w ↦ (
        w.word-is
            ∙ elim w.else-is_proper_part.branch [
              | else-is_proper_part-via-then-is_proper_part+else-span-width v ↦ same (λ e _ _. v.if-span-width.false e)
              | else-is_proper_part-via-else-is_proper_part v ↦ same (λ _ e n. both_ways c.is_proper_part.result v.if-is_proper_part.false (told.1 (e, n)))
            ],
        subst (λ y. Alike c.args.bit y c.args.start) (sym w.word-is) c.loop-rule.invariant.1,
      )
    ]

-- what the rules so far bring the whole pass brings
pub returns-then-not-are_alike : goal.returns-then-not-are_alike
returns-then-not-are_alike c =
    let needs = word_of c.word-needed.ensures.value c.premise-premise.ensures.value in
    let spans = width_of c.width-span.ensures.value c.premise-premise.ensures.value in
    let told = c.is_proper_part.ensures.told in
    let so_far : bit_or c.loop-rule.word c.word-word.result ≡ pass proper (of_width c.args.width (take (c.loop-rule.rule-index + 1) c.args.rules.now)) c.args.start =
    proper_in c.args.width c.args.rules.now c.loop-rule.rule-index c.rule-item.result c.loop-rule-test.true c.rule-item.is
    c.args.start c.loop-rule.word c.word-needed.result c.width-span.result c.loop-rule.invariant.0 needs spans
    (word_of c.word-word.ensures.value c.conclusion.ensures.value) (told.0 c.if-is_proper_part.true).0 (told.0 c.if-is_proper_part.true).1 c.if-span-width.true in
    record {
      passed = unlike_later c.args.bit c.args.start (bit_or c.loop-rule.word c.word-word.result) (pass proper (of_width c.args.width c.args.rules.now) c.args.start)
          (subst (Sub c.args.start) (sym so_far) (pass_extends proper (of_width c.args.width (take (c.loop-rule.rule-index + 1) c.args.rules.now)) c.args.start))
          (subst (λ y. Sub y (pass proper (of_width c.args.width c.args.rules.now) c.args.start)) (sym so_far) (pass_front proper c.args.width c.args.rules.now (c.loop-rule.rule-index + 1) c.args.start))
          (λ e. both_ways c.are_alike.result c.if-not-are_alike.true (c.are_alike.ensures.told.1 e));
    }

pub returns : goal.returns
returns c =
    record {
      passed = (
        c.loop-rule.invariant.0
            ∙ ap (λ rules. pass proper (of_width c.args.width rules) c.args.start) (take_all c.loop-rule.rule-index c.args.rules.now c.loop-rule-test.false),
        c.loop-rule.invariant.1,
      );
    }
