use Rattle.std.proofs.Common.{◌≡◌, ◌^◌, ◌<◌, ◌≤◌, min, true, false, length, take, Ok, Err, sym, refl, ap, ◌∙◌, subst, arith, IfOk, MatchResult}
use Rattle.draft.specs.Advances.{Advances, Stops, at_full}
use Rattle.draft.specs.Faults.{fault_of}
use Rattle.draft.specs.Laws.{implications}
use Rattle.fault.specs.Layers.{in_trays}
use Rattle.std.specs.List.{AllByRecursion}
use Rattle.std.proofs.lemmas.Result.{err_from_is_err_and}
use Rattle.theory.specs.Bases.{BaseUpto, base_below}
use Rattle.tray.specs.Tray.{capacity, entries, max_entries}
use Rattle.tray.proofs.Puts.{kept_cleared, kept_later}
use Rattle.draft.proofs.Filling.{filling_none, filling_more, filled_base, filled_all, filled_some, filled_refused, longer_after}
use Rattle.draft.proofs.fill.fill.Goals as goal

pub loop-mark-init : goal.loop-mark-init
loop-mark-init g c = (
  filling_none (g.O.Operator.span c.args.operator.now) (g.O.Operator.means c.args.operator.now) (g.O.Operator.closes c.args.operator.now)
      (capacity c.clear.new.self) (omega arith) (entries c.clear.new.self) c.clear.ensures.empty,
  record { size = refl; past = refl; link = refl },
)

pub loop-mark-preserved : goal.loop-mark-preserved
loop-mark-preserved g c =
    let m = g.O.Operator.span c.args.operator.now in
    let means = g.O.Operator.means c.args.operator.now in
    let room : capacity c.loop-mark.rules ≡ capacity c.clear.new.self = ap (λ n. min n max_entries) c.loop-mark.invariant.1.size in
    let advances : Advances m means (capacity c.clear.new.self) (entries c.loop-mark.rules) c.loop-mark.mark (Ok c.in_ok-advance_over.field-0)
    (entries c.advance_over.new.rules) c.advance_over.new.mark =
    subst (λ n. Advances m means n (entries c.loop-mark.rules) c.loop-mark.mark (Ok c.in_ok-advance_over.field-0) (entries c.advance_over.new.rules) c.advance_over.new.mark)
    room c.in_ok-advance_over.ensures.advances in (
      filling_more m means (g.O.Operator.closes c.args.operator.now) (capacity c.clear.new.self) (omega arith) (entries c.loop-mark.rules)
          (entries c.advance_over.new.rules) c.loop-mark.mark c.advance_over.new.mark c.in_ok-advance_over.field-0 c.loop-mark.invariant.0 advances,
      kept_later c.clear.new.self c.loop-mark.rules c.advance_over.new.rules c.loop-mark.invariant.1 c.advance_over.ensures.kept
          (longer_after m means (g.O.Operator.closes c.args.operator.now) (capacity c.clear.new.self) (omega arith) (entries c.loop-mark.rules) (entries c.advance_over.new.rules) c.loop-mark.mark c.advance_over.new.mark c.in_ok-advance_over.field-0 advances),
    )

pub returns : goal.returns
returns g c =
    let m = g.O.Operator.span c.args.operator.now in
    let means = g.O.Operator.means c.args.operator.now in
    let room : capacity c.clear.new.self ≡ capacity c.args.rules.now = ap (λ xs. min (length xs) max_entries) c.clear.ensures.memory in
    let full : at_full m c.loop-mark.mark ≡ true = ap (λ n. at_full n c.loop-mark.mark) (sym c.width.ensures) ∙ sym c.is_at_full.ensures.told ∙ c.loop-mark-test.false in
    let done = filled_all m means (g.O.Operator.closes c.args.operator.now) (capacity c.clear.new.self) (omega arith) (entries c.loop-mark.rules) c.loop-mark.mark c.loop-mark.invariant.0 full in
    record {
      rules = done.0 ∙ ap (λ n. take n (base_below m means (2 ^ m))) room;
      base = filled_base m means (g.O.Operator.closes c.args.operator.now) (capacity c.clear.new.self) (omega arith) (entries c.loop-mark.rules) c.loop-mark.mark c.loop-mark.invariant.0 full;
      widths = c.loop-mark.invariant.0.agrees.before.widths;
      answer = subst (λ n. length (base_below m means (2 ^ m)) ≤ n) room done.1;
      kept = kept_cleared c.args.rules.now c.clear.new.self c.loop-mark.rules c.clear.ensures.memory c.clear.ensures.link c.loop-mark.invariant.1;
    }

pub returns-in_err-advance_over : goal.returns-in_err-advance_over
returns-in_err-advance_over g c =
    let m = g.O.Operator.span c.args.operator.now in
    let means = g.O.Operator.means c.args.operator.now in
    let room : capacity c.clear.new.self ≡ capacity c.args.rules.now = ap (λ xs. min (length xs) max_entries) c.clear.ensures.memory in
    let held : capacity c.loop-mark.rules ≡ capacity c.clear.new.self = ap (λ n. min n max_entries) c.loop-mark.invariant.1.size in
    let full : at_full m c.loop-mark.mark ≡ false = ap (λ n. at_full n c.loop-mark.mark) (sym c.width.ensures) ∙ sym c.is_at_full.ensures.told ∙ c.loop-mark-test.true in
    let told = c.in_err-advance_over.ensures.advances in
    let stops : Stops m means (capacity c.clear.new.self) (entries c.loop-mark.rules) c.loop-mark.mark c.in_err-advance_over.field-0.0 =
    subst (λ n. Stops m means n (entries c.loop-mark.rules) c.loop-mark.mark c.in_err-advance_over.field-0.0) held told.0 in
    let crowd = filled_refused m means (g.O.Operator.closes c.args.operator.now) (capacity c.clear.new.self) (omega arith) (entries c.loop-mark.rules) c.loop-mark.mark c.in_err-advance_over.field-0.0 c.loop-mark.invariant.0 full stops in
    let done = filled_some m means (g.O.Operator.closes c.args.operator.now) (capacity c.clear.new.self) (omega arith) (entries c.loop-mark.rules) c.loop-mark.mark c.loop-mark.invariant.0 crowd.1 in
    let p = err_from_is_err_and c.from_residual.result c.from_residual.ensures.1 in
    let same : c.from_residual.result ≡ Err c.in_err-advance_over.field-0.0 = p.1 ∙ ap Err p.2 in
    let kept : entries c.advance_over.new.rules ≡ entries c.loop-mark.rules = told.1 in
    record {
      rules = ap implications kept ∙ done.0 ∙ ap (λ n. take n (base_below m means (2 ^ m))) room;
      base = subst (λ r. IfOk r (λ _. BaseUpto m means (2 ^ m) (implications (entries c.advance_over.new.rules)))) (sym same) tt;
      widths = subst (λ rs. AllByRecursion (λ r. r.premise.width ≡ m) rs) (sym kept) c.loop-mark.invariant.0.agrees.before.widths;
      answer = subst (λ r. MatchResult r (λ _. length (base_below m means (2 ^ m)) ≤ capacity c.args.rules.now)
          (λ fault. (capacity c.args.rules.now < length (base_below m means (2 ^ m))) × (fault_of fault ≡ in_trays 21))) (sym same)
          (subst (λ n. n < length (base_below m means (2 ^ m))) room done.1, crowd.0);
      kept = kept_cleared c.args.rules.now c.clear.new.self c.advance_over.new.rules c.clear.ensures.memory c.clear.ensures.link
          (kept_later c.clear.new.self c.loop-mark.rules c.advance_over.new.rules c.loop-mark.invariant.1 c.advance_over.ensures.kept (omega (arith, ap length kept)));
    }
