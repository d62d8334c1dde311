use Rattle.std.proofs.Common.{◌≡◌, ℕ, suc, ◌<◌, ◌%◌, ◌/◌, ◌^◌, sym, ap, ◌∙◌, subst, arith}
use Rattle.sets.specs.declared.set.Set.{Set}
use Rattle.theory.specs.Closures.{LeastClosed}
use Rattle.survey.proofs.Trials.{goes_past, goes_on, found_next, found_after, none_left}
use Rattle.survey.proofs.next.next_after.Goals as goal
use Rattle.survey.proofs.next.next_after.Goals.{then-word-bit-eq0+in_default, else-word-bit-eq0, then-bit-width, else-bit-width+then-word-bit-eq0+in-Some}

pub loop-bit-preserved : goal.loop-bit-preserved
loop-bit-preserved g c =
    let last = c.args.last in
    let bit = c.loop-bit.bit in
    let means = g.O.Operator.means c.args.operator.now in
    let low : bit < last.width = let n = c.if-bit-width.false in omega (arith, c.loop-bit.invariant.0, c.width.ensures.value) in
    elim c.if-word-bit-eq0.branch [
      | then-word-bit-eq0+in_default w ↦ (
        omega arith,
        omega (arith, c.loop-bit.invariant.1, w.trials-is),
        λ e. goes_on (g.O.Operator.span c.args.operator.now) means last bit low (subst (λ x. x / 2 ^ bit % 2 ≡ 0) c.word.ensures.value w.if-word-bit-eq0.true)
            w.candidate.result w.candidate.ensures.width w.candidate.ensures.word (c.loop-bit.invariant.2 e) w.in_default.ensures.1,
      )
      | else-word-bit-eq0 w ↦ (
        omega arith,
        omega (arith, c.loop-bit.invariant.1, w.trials-is),
        λ e. goes_past means last.word bit (c.loop-bit.invariant.2 e) (λ z. w.if-word-bit-eq0.false (subst (λ x. x / 2 ^ bit % 2 ≡ 0) (sym c.word.ensures.value) z)),
      )
    ]

pub returns-in_err-found-clause-next : goal.returns-in_err-found-clause-next
returns-in_err-found-clause-next g c =
    elim c.if-bit-width.branch [
      | then-bit-width w ↦ λ e. simp c.from_residual.ensures
          (none_left (g.O.Operator.span c.args.operator.now) (g.O.Operator.means c.args.operator.now) c.args.last c.loop-bit.bit
          (g.O.Operator.closes c.args.operator.now) (w.if-bit-width.true ∙ c.width.ensures.value) c.loop-bit.invariant.2 e)
      | else-bit-width+then-word-bit-eq0+in-Some w ↦
          let e = c.in_err-found.was in let z : ◌≡◌ {A = ℕ} 0 1 = cc in absurd (omega arith)
    ]

pub returns-clause-after : goal.returns-clause-after
returns-clause-after g c =
    elim c.if-bit-width.branch [
      | then-bit-width w ↦ let e = c.in_ok-found.was in let z : ◌≡◌ {A = ℕ} 0 1 = cc in absurd (omega arith)
      | else-bit-width+then-word-bit-eq0+in-Some w ↦
          let last = c.args.last in
          let bit = c.loop-bit.bit in
          let low : bit < last.width = let n = w.if-bit-width.false in omega (arith, c.loop-bit.invariant.0, c.width.ensures.value) in
          let was = c.in_ok-found.was in
          let same : c.in_ok-found.field-0 ≡ w.in-Some.closed = cc in
          let told = w.in-Some.ensures in (
            ap (λ (s : Set). s.width) same ∙ told.0 ∙ w.candidate.ensures.width,
            subst (λ (s : Set). last.word < s.word) (sym same)
                (found_after (g.O.Operator.span c.args.operator.now) (g.O.Operator.means c.args.operator.now) last bit low
                (subst (λ x. x / 2 ^ bit % 2 ≡ 0) w.word.ensures.value w.if-word-bit-eq0.true)
                w.candidate.result w.candidate.ensures.width w.candidate.ensures.word (g.O.Operator.closes c.args.operator.now) c.loop-bit.invariant.2
                w.in-Some.closed told.1 told.2),
          )
    ]

pub returns-clause-next : goal.returns-clause-next
returns-clause-next g c =
    elim c.if-bit-width.branch [
      | then-bit-width w ↦ let e = c.in_ok-found.was in let z : ◌≡◌ {A = ℕ} 0 1 = cc in absurd (omega arith)
      | else-bit-width+then-word-bit-eq0+in-Some w ↦
          let last = c.args.last in
          let bit = c.loop-bit.bit in
          let means = g.O.Operator.means c.args.operator.now in
          let low : bit < last.width = let n = w.if-bit-width.false in omega (arith, c.loop-bit.invariant.0, c.width.ensures.value) in
          let was = c.in_ok-found.was in
          let same : c.in_ok-found.field-0 ≡ w.in-Some.closed = cc in
          let told = w.in-Some.ensures in
          λ e. (
            subst (λ (s : Set). LeastClosed last.width means (suc last.word) s.word) (sym same)
                (found_next (g.O.Operator.span c.args.operator.now) means last bit low
                (subst (λ x. x / 2 ^ bit % 2 ≡ 0) w.word.ensures.value w.if-word-bit-eq0.true)
                w.candidate.result w.candidate.ensures.width w.candidate.ensures.word (g.O.Operator.closes c.args.operator.now) c.loop-bit.invariant.2
                w.in-Some.closed told.1 told.2 e),
            omega (arith, low, w.trials-is, c.loop-bit.invariant.1),
          )
    ]
