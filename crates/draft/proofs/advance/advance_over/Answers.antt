use Rattle.std.proofs.Common.{◌≡◌, Err, sym, refl, ap, ◌∙◌, subst}
use Rattle.draft.specs.Advances.{Advances}
use Rattle.draft.specs.declared.faults.DraftFault.TheVariants as refusal
use Rattle.std.proofs.lemmas.Result.{err_from_is_err_and}
use Rattle.tray.specs.Tray.{capacity, entries}
use Rattle.draft.proofs.Advancing.{taken_read, adds, crowded, passes, inside_closure}
use Rattle.draft.proofs.advance.advance_over.Goals as goal

pub returns-in_err-put : goal.returns-in_err-put
returns-in_err-put g c =
    let m = g.O.Operator.span c.args.operator.now in
    let taken = taken_read c.width.result m c.entries.result.now (entries c.args.rules.now) c.args.mark.now c.in_ok-set.set
    c.width.ensures c.entries.ensures.value c.in_ok-set.ensures.next in
    let put = c.in_err-put.ensures.answer in
    let p = err_from_is_err_and c.from_residual-in_err-put.result c.from_residual-in_err-put.ensures.1 in
    let same : c.from_residual-in_err-put.result ≡ Err (refusal.Tray c.in_err-put.field-0.0) = p.1 ∙ ap Err p.2 in
    let full = crowded m (g.O.Operator.means c.args.operator.now) (capacity c.args.rules.now) (entries c.args.rules.now) c.args.mark.now
    c.in_ok-set.set c.closure-closed.result c.rule_between.result c.word.result c.word-2.result taken
    c.closure-closed.ensures.closed c.word.ensures.value c.word-2.ensures.value c.if-word.false put.0 in
    record {
      advances = subst (λ r. Advances m (g.O.Operator.means c.args.operator.now) (capacity c.args.rules.now) (entries c.args.rules.now) c.args.mark.now r
          (entries c.put.new.self) c.args.mark.now) (sym same) ((put.2, full), ap entries put.1, refl);
      kept = c.put.ensures.kept;
    }

pub returns-in_ok-put : goal.returns-in_ok-put
returns-in_ok-put g c =
    let m = g.O.Operator.span c.args.operator.now in
    let taken = taken_read c.width.result m c.entries.result.now (entries c.args.rules.now) c.args.mark.now c.in_ok-set.set
    c.width.ensures c.entries.ensures.value c.in_ok-set.ensures.next in
    let put = c.in_ok-put.ensures.answer in
    record {
      advances = adds m (g.O.Operator.means c.args.operator.now) (capacity c.args.rules.now) (entries c.args.rules.now) c.args.mark.now
          c.in_ok-set.set c.closure-closed.result c.rule_between.result c.word.result c.word-2.result taken
          c.closure-closed.ensures.closed c.word.ensures.value c.word-2.ensures.value c.if-word.false
          (entries c.put.new.self) put.0 put.1 c.rule_between.ensures.premise c.rule_between.ensures.conclusion;
      kept = c.put.ensures.kept;
    }

pub rule_between-requires : goal.rule_between-requires
rule_between-requires g c =
    let m = g.O.Operator.span c.args.operator.now in
    let taken = taken_read c.width.result m c.entries.result.now (entries c.args.rules.now) c.args.mark.now c.in_ok-set.set
    c.width.ensures c.entries.ensures.value c.in_ok-set.ensures.next in
    inside_closure m (g.O.Operator.means c.args.operator.now) (g.O.Operator.closes c.args.operator.now) c.in_ok-set.set c.closure-closed.result
    taken.width c.closure-closed.ensures.width c.closure-closed.ensures.closed

pub returns-then-word : goal.returns-then-word
returns-then-word g c =
    let m = g.O.Operator.span c.args.operator.now in
    let taken = taken_read c.width.result m c.entries.result.now (entries c.args.rules.now) c.args.mark.now c.in_ok-set.set
    c.width.ensures c.entries.ensures.value c.in_ok-set.ensures.next in
    record {
      advances = passes m (g.O.Operator.means c.args.operator.now) (entries c.args.rules.now) c.args.mark.now c.in_ok-set.set
          c.closure-closed.result c.word.result c.word-2.result taken c.closure-closed.ensures.closed c.word.ensures.value
          c.word-2.ensures.value c.if-word.true;
      kept = record { size = refl; past = refl; link = refl };
    }
