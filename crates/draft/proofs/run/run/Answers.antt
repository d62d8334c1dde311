use Rattle.std.proofs.Common.{◌≡◌, min, [], length, get_or, vec_items, sym, refl, ap, ◌∙◌, subst, arith}
use Rattle.operators.specs.TableClosure.{rows_close}
use Rattle.operators.specs.declared.table_closure.TableClosure.{TableClosure}
use Rattle.std.proofs.lemmas.List.{take_more}
use Rattle.tray.specs.Tray.{capacity, entries, max_entries}
use Rattle.view.specs.declared.table_view.TableView.{TableView}
use Rattle.view.proofs.Laws.{fit_parts}
use Rattle.draft.specs.Laws.{DraftLaw}
use Rattle.draft.specs.declared.call.DraftCall.TheVariants.{Advance}
use Rattle.draft.proofs.Laws.{DoesOver, RanOver, ran_all, ran_next, ran_none}
use Rattle.draft.proofs.run.run.Goals as goal

pub loop-call-init : goal.loop-call-init
loop-call-init c = (
  refl,
  refl,
  subst (λ xs. RanOver c.begin-draft.result.closure.view.words.now c.begin-draft.result.closure.view.places.now (capacity c.begin-draft.result.rules)
      [] xs (entries c.begin-draft.result.rules) c.begin-draft.result.mark) (sym c.new-answers.ensures.items)
      (ran_none _ _ (rows_close c.begin-draft.result.closure.view.text.now c.begin-draft.result.closure.view.words.now c.begin-draft.result.closure.view.places.now c.begin-draft.result.closure.view.fit)
      (capacity c.begin-draft.result.rules) (omega arith) (entries c.begin-draft.result.rules) c.begin-draft.result.mark c.begin-draft.ensures.empty c.begin-draft.ensures.mark),
)

pub loop-call-preserved : goal.loop-call-preserved
loop-call-preserved c =
    let start = c.begin-draft.result in
    let held = c.loop-call.draft in
    let asked = get_or c.args.calls.now c.loop-call.call-index Advance in
    let room : capacity held.rules ≡ capacity start.rules = ap (λ n. min n max_entries) c.loop-call.invariant.1 in
    let does : DoesOver start.closure.view.words.now start.closure.view.places.now (capacity start.rules) asked (entries held.rules) held.mark c.answer.result
    (entries c.answer.new.self.rules) c.answer.new.self.mark =
    subst (λ n. DoesOver start.closure.view.words.now start.closure.view.places.now n asked (entries held.rules) held.mark c.answer.result
    (entries c.answer.new.self.rules) c.answer.new.self.mark) room
    (subst (λ (k : TableClosure). DoesOver k.view.words.now k.view.places.now (capacity held.rules) asked (entries held.rules) held.mark c.answer.result
    (entries c.answer.new.self.rules) c.answer.new.self.mark) c.loop-call.invariant.0 c.answer.ensures.does) in (
      c.answer.ensures.closure ∙ c.loop-call.invariant.0,
      c.answer.ensures.kept.size ∙ c.loop-call.invariant.1,
      ran_next start.closure.view.words.now start.closure.view.places.now
          (fit_parts start.closure.view.text.now start.closure.view.words.now start.closure.view.places.now start.closure.view.fit).signals
          (capacity start.rules) (omega arith) c.args.calls.now c.loop-call.call-index (vec_items c.loop-call.answers) (vec_items c.push.new.self)
          (entries held.rules) held.mark asked c.answer.result (entries c.answer.new.self.rules) c.answer.new.self.mark
          (take_more c.args.calls.now c.loop-call.call-index Advance c.loop-call-test.true) c.in_ok-push.ensures.items does c.loop-call.invariant.2,
    )

pub returns : goal.returns
returns c =
    let start = c.begin-draft.result in
    let law =
    ran_all start.closure.view.words.now start.closure.view.places.now
    (fit_parts start.closure.view.text.now start.closure.view.words.now start.closure.view.places.now start.closure.view.fit).signals
    (capacity start.rules) (omega arith) c.args.calls.now c.loop-call.call-index (vec_items c.loop-call.answers)
    (entries c.loop-call.draft.rules) c.loop-call.draft.mark c.loop-call-test.false c.loop-call.invariant.2 in
    record {
      law = subst (λ (v : TableView). DraftLaw v.words.now v.places.now (min (length c.args.rules.memory.now) max_entries) c.args.calls.now (vec_items c.loop-call.answers)
          (entries c.loop-call.draft.rules) c.loop-call.draft.mark) c.begin-draft.ensures.view
          (subst (λ xs. DraftLaw start.closure.view.words.now start.closure.view.places.now (min (length xs) max_entries) c.args.calls.now (vec_items c.loop-call.answers)
          (entries c.loop-call.draft.rules) c.loop-call.draft.mark) c.begin-draft.ensures.memory law);
      view = ap (λ (k : TableClosure). k.view) c.loop-call.invariant.0 ∙ c.begin-draft.ensures.view;
      size = c.loop-call.invariant.1 ∙ ap length c.begin-draft.ensures.memory;
    }
