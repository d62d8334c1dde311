use Rattle.std.proofs.Common.{◌≡◌, ℕ, length, Ok, Err, ap, ◌∙◌, subst, rules as known}
use Rattle.draft.specs.Fills as ruling
use Rattle.std.proofs.lemmas.Result.{err_from_is_err_and}
use Rattle.survey.specs.Fills.{Filled}
use Rattle.view.specs.Shown.{signal_count, signal_names}
use Rattle.view.specs.declared.table_view.TableView.{TableView}
use Rattle.job.specs.Jobs.{Put, behind, closed_page, common_in, first_line, followed, parts_on, rooms_of, rules_page}
use Rattle.job.specs.Replies.{answers_of, answers_part}
use Rattle.job.proofs.Parts.{followed_put, followed_refused, reached, reached_not, rest_granted, rest_refused}
use Rattle.job.proofs.run.write_parts.Goals as goal

pub returns-in_err-end : goal.returns-in_err-end
returns-in_err-end c =
    let view = c.args.view.now in
    let sets = length c.args.sets.now in
    let size = length c.args.out.now in
    let closed = closed_page view sets 0 size in
    let rules = λ (at : ℕ). rules_page view (length c.args.rules.now) at size in
    let answers = λ (at : ℕ). answers_part at (answers_of (signal_names view) view.words.now (first_line view.words.now view.places.now) c.args.queries.now) size in
    let rest = λ (at : ℕ). followed at (rules at) answers in
    let over : c.new-closure.result.view ≡ view = c.new-closure.ensures.view in
    let first : Err c.in_err-end.field-0.0 ≡ behind 0 closed = subst (λ (v : TableView). Err c.in_err-end.field-0.0 ≡ behind 0 (closed_page v sets 0 size)) over c.in_err-end.ensures.answer in
    let p = err_from_is_err_and c.from_residual.result c.from_residual.ensures.1 in
    let q = followed_refused 0 closed rest c.from_residual.result c.in_err-end.field-0.0 c.args.out.now c.write_closed.new.out (p.1 ∙ ap Err p.2) first in
    record { answer = q.0; output = q.1; sets = subst (λ (v : TableView). Filled (signal_count v) (common_in v) c.args.sets.now c.write_closed.new.sets) over c.write_closed.ensures.sets; rules = reached_not (signal_count view) (common_in view) 0 closed c.in_err-end.field-0.0 c.args.rules.now first }

pub returns-in_err-at : goal.returns-in_err-at
returns-in_err-at c =
    let view = c.args.view.now in
    let sets = length c.args.sets.now in
    let size = length c.args.out.now in
    let closed = closed_page view sets 0 size in
    let rules = λ (at : ℕ). rules_page view (length c.args.rules.now) at size in
    let answers = λ (at : ℕ). answers_part at (answers_of (signal_names view) view.words.now (first_line view.words.now view.places.now) c.args.queries.now) size in
    let rest = λ (at : ℕ). followed at (rules at) answers in
    let over : c.new-closure.result.view ≡ view = c.new-closure.ensures.view in
    let first : Ok c.in_ok-end.end ≡ behind 0 closed = subst (λ (v : TableView). Ok c.in_ok-end.end ≡ behind 0 (closed_page v sets 0 size)) over c.in_ok-end.ensures.answer in
    let put : Put 0 closed c.args.out.now c.write_closed.new.out = subst (λ (v : TableView). Put 0 (closed_page v sets 0 size) c.args.out.now c.write_closed.new.out) over c.write_closed.ensures.output in
    let long : length c.write_closed.new.out ≡ size = search in
    let second : Err c.in_err-at.field-0.0 ≡ behind c.in_ok-end.end (rules c.in_ok-end.end) =
    subst (λ n. Err c.in_err-at.field-0.0 ≡ behind c.in_ok-end.end (rules_page view (length c.args.rules.now) c.in_ok-end.end n)) long
    (subst (λ (v : TableView). Err c.in_err-at.field-0.0 ≡ behind c.in_ok-end.end (rules_page v (length c.args.rules.now) c.in_ok-end.end (length c.write_closed.new.out))) over c.in_err-at.ensures.answer) in
    let p = err_from_is_err_and c.from_residual-in_err-at.result c.from_residual-in_err-at.ensures.1 in
    let inner = followed_refused c.in_ok-end.end (rules c.in_ok-end.end) answers c.from_residual-in_err-at.result c.in_err-at.field-0.0 c.write_closed.new.out c.write_rules.new.out (p.1 ∙ ap Err p.2) second in
    let q = followed_put 0 c.in_ok-end.end closed rest c.from_residual-in_err-at.result c.args.out.now c.write_closed.new.out c.write_rules.new.out first put c.in_ok-end.ensures.inside inner.0 inner.1 in
    record {
      answer = q.0;
      output = q.1;
      sets = subst (λ (v : TableView). Filled (signal_count v) (common_in v) c.args.sets.now c.write_closed.new.sets) over c.write_closed.ensures.sets;
      rules = reached (signal_count view) (common_in view) 0 c.in_ok-end.end closed c.args.rules.now c.write_rules.new.rules first
          (subst (λ (v : TableView). ruling.Filled (signal_count v) (common_in v) c.args.rules.now c.write_rules.new.rules) over c.write_rules.ensures.rules);
    }

pub returns-clause-answer : goal.returns-clause-answer
returns-clause-answer c =
    let view = c.args.view.now in
    let sets = length c.args.sets.now in
    let size = length c.args.out.now in
    let closed = closed_page view sets 0 size in
    let rules = λ (at : ℕ). rules_page view (length c.args.rules.now) at size in
    let answers = λ (at : ℕ). answers_part at (answers_of (signal_names view) view.words.now (first_line view.words.now view.places.now) c.args.queries.now) size in
    let rest = λ (at : ℕ). followed at (rules at) answers in
    let over : c.new-closure.result.view ≡ view = c.new-closure.ensures.view in
    let first : Ok c.in_ok-end.end ≡ behind 0 closed = subst (λ (v : TableView). Ok c.in_ok-end.end ≡ behind 0 (closed_page v sets 0 size)) over c.in_ok-end.ensures.answer in
    let put : Put 0 closed c.args.out.now c.write_closed.new.out = subst (λ (v : TableView). Put 0 (closed_page v sets 0 size) c.args.out.now c.write_closed.new.out) over c.write_closed.ensures.output in
    let long : length c.write_closed.new.out ≡ size = search in
    let second : Ok c.in_ok-at.at ≡ behind c.in_ok-end.end (rules c.in_ok-end.end) =
    subst (λ n. Ok c.in_ok-at.at ≡ behind c.in_ok-end.end (rules_page view (length c.args.rules.now) c.in_ok-end.end n)) long
    (subst (λ (v : TableView). Ok c.in_ok-at.at ≡ behind c.in_ok-end.end (rules_page v (length c.args.rules.now) c.in_ok-end.end (length c.write_closed.new.out))) over c.in_ok-at.ensures.answer) in
    let put_second : Put c.in_ok-end.end (rules c.in_ok-end.end) c.write_closed.new.out c.write_rules.new.out =
    subst (λ n. Put c.in_ok-end.end (rules_page view (length c.args.rules.now) c.in_ok-end.end n) c.write_closed.new.out c.write_rules.new.out) long
    (subst (λ (v : TableView). Put c.in_ok-end.end (rules_page v (length c.args.rules.now) c.in_ok-end.end (length c.write_closed.new.out)) c.write_closed.new.out c.write_rules.new.out) over c.write_rules.ensures.output) in
    let longer : length c.write_rules.new.out ≡ size = search in
    let told = λ (n size : ℕ). answers_part n (answers_of (signal_names view) view.words.now c.first_query.result c.args.queries.now) size in
    let part = rest_granted told c.in_ok-at.at c.write_rules.new.out c.new-rest.result c.write_answers.new.out c.new-rest.ensures.at c.new-rest.ensures.bytes c.in_ok-write_answers.ensures.part in
    let same : told c.in_ok-at.at (length c.write_rules.new.out) ≡ answers c.in_ok-at.at =
    ap (λ line. answers_part c.in_ok-at.at (answers_of (signal_names view) view.words.now line c.args.queries.now) (length c.write_rules.new.out)) c.first_query.ensures.line ∙ ap (answers_part c.in_ok-at.at (answers_of (signal_names view) view.words.now (first_line view.words.now view.places.now) c.args.queries.now)) longer in
    let inner = followed_put c.in_ok-end.end c.in_ok-at.at (rules c.in_ok-end.end) answers _ c.write_closed.new.out c.write_rules.new.out c.write_answers.new.out.bytes.now second put_second c.in_ok-at.ensures.inside
    (part.0 ∙ ap (behind c.in_ok-at.at) same) (subst (λ p. Put c.in_ok-at.at p c.write_rules.new.out c.write_answers.new.out.bytes.now) same part.1) in
    let q = followed_put 0 c.in_ok-end.end closed rest _ c.args.out.now c.write_closed.new.out c.write_answers.new.out.bytes.now first put c.in_ok-end.ensures.inside inner.0 inner.1 in
    ap Ok c.at.ensures.value ∙ q.0

pub returns-clause-output : goal.returns-clause-output
returns-clause-output c =
    let view = c.args.view.now in
    let sets = length c.args.sets.now in
    let size = length c.args.out.now in
    let closed = closed_page view sets 0 size in
    let rules = λ (at : ℕ). rules_page view (length c.args.rules.now) at size in
    let answers = λ (at : ℕ). answers_part at (answers_of (signal_names view) view.words.now (first_line view.words.now view.places.now) c.args.queries.now) size in
    let rest = λ (at : ℕ). followed at (rules at) answers in
    let over : c.new-closure.result.view ≡ view = c.new-closure.ensures.view in
    let first : Ok c.in_ok-end.end ≡ behind 0 closed = subst (λ (v : TableView). Ok c.in_ok-end.end ≡ behind 0 (closed_page v sets 0 size)) over c.in_ok-end.ensures.answer in
    let put : Put 0 closed c.args.out.now c.write_closed.new.out = subst (λ (v : TableView). Put 0 (closed_page v sets 0 size) c.args.out.now c.write_closed.new.out) over c.write_closed.ensures.output in
    let long : length c.write_closed.new.out ≡ size = search in
    let second : Ok c.in_ok-at.at ≡ behind c.in_ok-end.end (rules c.in_ok-end.end) =
    subst (λ n. Ok c.in_ok-at.at ≡ behind c.in_ok-end.end (rules_page view (length c.args.rules.now) c.in_ok-end.end n)) long
    (subst (λ (v : TableView). Ok c.in_ok-at.at ≡ behind c.in_ok-end.end (rules_page v (length c.args.rules.now) c.in_ok-end.end (length c.write_closed.new.out))) over c.in_ok-at.ensures.answer) in
    let put_second : Put c.in_ok-end.end (rules c.in_ok-end.end) c.write_closed.new.out c.write_rules.new.out =
    subst (λ n. Put c.in_ok-end.end (rules_page view (length c.args.rules.now) c.in_ok-end.end n) c.write_closed.new.out c.write_rules.new.out) long
    (subst (λ (v : TableView). Put c.in_ok-end.end (rules_page v (length c.args.rules.now) c.in_ok-end.end (length c.write_closed.new.out)) c.write_closed.new.out c.write_rules.new.out) over c.write_rules.ensures.output) in
    let longer : length c.write_rules.new.out ≡ size = search in
    let told = λ (n size : ℕ). answers_part n (answers_of (signal_names view) view.words.now c.first_query.result c.args.queries.now) size in
    let part = rest_granted told c.in_ok-at.at c.write_rules.new.out c.new-rest.result c.write_answers.new.out c.new-rest.ensures.at c.new-rest.ensures.bytes c.in_ok-write_answers.ensures.part in
    let same : told c.in_ok-at.at (length c.write_rules.new.out) ≡ answers c.in_ok-at.at =
    ap (λ line. answers_part c.in_ok-at.at (answers_of (signal_names view) view.words.now line c.args.queries.now) (length c.write_rules.new.out)) c.first_query.ensures.line ∙ ap (answers_part c.in_ok-at.at (answers_of (signal_names view) view.words.now (first_line view.words.now view.places.now) c.args.queries.now)) longer in
    let inner = followed_put c.in_ok-end.end c.in_ok-at.at (rules c.in_ok-end.end) answers _ c.write_closed.new.out c.write_rules.new.out c.write_answers.new.out.bytes.now second put_second c.in_ok-at.ensures.inside
    (part.0 ∙ ap (behind c.in_ok-at.at) same) (subst (λ p. Put c.in_ok-at.at p c.write_rules.new.out c.write_answers.new.out.bytes.now) same part.1) in
    let q = followed_put 0 c.in_ok-end.end closed rest _ c.args.out.now c.write_closed.new.out c.write_answers.new.out.bytes.now first put c.in_ok-end.ensures.inside inner.0 inner.1 in
    subst (λ o. Put 0 (parts_on (rooms_of c.args.sets.now c.args.rules.now c.args.out.now) view c.args.queries.now) c.args.out.now o) (search known) q.1

pub returns-clause-sets : goal.returns-clause-sets
returns-clause-sets c =
    let over : c.new-closure.result.view ≡ c.args.view.now = c.new-closure.ensures.view in
    subst (λ (v : TableView). Filled (signal_count v) (common_in v) c.args.sets.now c.write_closed.new.sets) over c.write_closed.ensures.sets

pub returns-clause-rules : goal.returns-clause-rules
returns-clause-rules c =
    let view = c.args.view.now in
    let sets = length c.args.sets.now in
    let size = length c.args.out.now in
    let closed = closed_page view sets 0 size in
    let over : c.new-closure.result.view ≡ view = c.new-closure.ensures.view in
    let first : Ok c.in_ok-end.end ≡ behind 0 closed = subst (λ (v : TableView). Ok c.in_ok-end.end ≡ behind 0 (closed_page v sets 0 size)) over c.in_ok-end.ensures.answer in
    reached (signal_count view) (common_in view) 0 c.in_ok-end.end closed c.args.rules.now c.write_rules.new.rules first
    (subst (λ (v : TableView). ruling.Filled (signal_count v) (common_in v) c.args.rules.now c.write_rules.new.rules) over c.write_rules.ensures.rules)

pub returns-in_err-write_answers-clause-answer : goal.returns-in_err-write_answers-clause-answer
returns-in_err-write_answers-clause-answer c =
    let view = c.args.view.now in
    let sets = length c.args.sets.now in
    let size = length c.args.out.now in
    let closed = closed_page view sets 0 size in
    let rules = λ (at : ℕ). rules_page view (length c.args.rules.now) at size in
    let answers = λ (at : ℕ). answers_part at (answers_of (signal_names view) view.words.now (first_line view.words.now view.places.now) c.args.queries.now) size in
    let rest = λ (at : ℕ). followed at (rules at) answers in
    let over : c.new-closure.result.view ≡ view = c.new-closure.ensures.view in
    let first : Ok c.in_ok-end.end ≡ behind 0 closed = subst (λ (v : TableView). Ok c.in_ok-end.end ≡ behind 0 (closed_page v sets 0 size)) over c.in_ok-end.ensures.answer in
    let put : Put 0 closed c.args.out.now c.write_closed.new.out = subst (λ (v : TableView). Put 0 (closed_page v sets 0 size) c.args.out.now c.write_closed.new.out) over c.write_closed.ensures.output in
    let long : length c.write_closed.new.out ≡ size = search in
    let second : Ok c.in_ok-at.at ≡ behind c.in_ok-end.end (rules c.in_ok-end.end) =
    subst (λ n. Ok c.in_ok-at.at ≡ behind c.in_ok-end.end (rules_page view (length c.args.rules.now) c.in_ok-end.end n)) long
    (subst (λ (v : TableView). Ok c.in_ok-at.at ≡ behind c.in_ok-end.end (rules_page v (length c.args.rules.now) c.in_ok-end.end (length c.write_closed.new.out))) over c.in_ok-at.ensures.answer) in
    let put_second : Put c.in_ok-end.end (rules c.in_ok-end.end) c.write_closed.new.out c.write_rules.new.out =
    subst (λ n. Put c.in_ok-end.end (rules_page view (length c.args.rules.now) c.in_ok-end.end n) c.write_closed.new.out c.write_rules.new.out) long
    (subst (λ (v : TableView). Put c.in_ok-end.end (rules_page v (length c.args.rules.now) c.in_ok-end.end (length c.write_closed.new.out)) c.write_closed.new.out c.write_rules.new.out) over c.write_rules.ensures.output) in
    let longer : length c.write_rules.new.out ≡ size = search in
    let told = λ (n size : ℕ). answers_part n (answers_of (signal_names view) view.words.now c.first_query.result c.args.queries.now) size in
    let part = rest_refused told c.in_ok-at.at c.write_rules.new.out c.new-rest.result c.write_answers.new.out c.new-rest.ensures.at c.new-rest.ensures.bytes c.in_err-write_answers.field-0.0 c.in_err-write_answers.ensures.part in
    let same : told c.in_ok-at.at (length c.write_rules.new.out) ≡ answers c.in_ok-at.at =
    ap (λ line. answers_part c.in_ok-at.at (answers_of (signal_names view) view.words.now line c.args.queries.now) (length c.write_rules.new.out)) c.first_query.ensures.line ∙ ap (answers_part c.in_ok-at.at (answers_of (signal_names view) view.words.now (first_line view.words.now view.places.now) c.args.queries.now)) longer in
    let inner = followed_put c.in_ok-end.end c.in_ok-at.at (rules c.in_ok-end.end) answers _ c.write_closed.new.out c.write_rules.new.out c.write_answers.new.out.bytes.now second put_second c.in_ok-at.ensures.inside
    (part.0 ∙ ap (behind c.in_ok-at.at) same) (subst (λ p. Put c.in_ok-at.at p c.write_rules.new.out c.write_answers.new.out.bytes.now) same part.1) in
    let q = followed_put 0 c.in_ok-end.end closed rest _ c.args.out.now c.write_closed.new.out c.write_answers.new.out.bytes.now first put c.in_ok-end.ensures.inside inner.0 inner.1 in
    let p = err_from_is_err_and c.from_residual-in_err-write_answers.result c.from_residual-in_err-write_answers.ensures.1 in
    p.1 ∙ ap Err p.2 ∙ q.0

pub returns-in_err-write_answers-clause-output : goal.returns-in_err-write_answers-clause-output
returns-in_err-write_answers-clause-output c =
    let view = c.args.view.now in
    let sets = length c.args.sets.now in
    let size = length c.args.out.now in
    let closed = closed_page view sets 0 size in
    let rules = λ (at : ℕ). rules_page view (length c.args.rules.now) at size in
    let answers = λ (at : ℕ). answers_part at (answers_of (signal_names view) view.words.now (first_line view.words.now view.places.now) c.args.queries.now) size in
    let rest = λ (at : ℕ). followed at (rules at) answers in
    let over : c.new-closure.result.view ≡ view = c.new-closure.ensures.view in
    let first : Ok c.in_ok-end.end ≡ behind 0 closed = subst (λ (v : TableView). Ok c.in_ok-end.end ≡ behind 0 (closed_page v sets 0 size)) over c.in_ok-end.ensures.answer in
    let put : Put 0 closed c.args.out.now c.write_closed.new.out = subst (λ (v : TableView). Put 0 (closed_page v sets 0 size) c.args.out.now c.write_closed.new.out) over c.write_closed.ensures.output in
    let long : length c.write_closed.new.out ≡ size = search in
    let second : Ok c.in_ok-at.at ≡ behind c.in_ok-end.end (rules c.in_ok-end.end) =
    subst (λ n. Ok c.in_ok-at.at ≡ behind c.in_ok-end.end (rules_page view (length c.args.rules.now) c.in_ok-end.end n)) long
    (subst (λ (v : TableView). Ok c.in_ok-at.at ≡ behind c.in_ok-end.end (rules_page v (length c.args.rules.now) c.in_ok-end.end (length c.write_closed.new.out))) over c.in_ok-at.ensures.answer) in
    let put_second : Put c.in_ok-end.end (rules c.in_ok-end.end) c.write_closed.new.out c.write_rules.new.out =
    subst (λ n. Put c.in_ok-end.end (rules_page view (length c.args.rules.now) c.in_ok-end.end n) c.write_closed.new.out c.write_rules.new.out) long
    (subst (λ (v : TableView). Put c.in_ok-end.end (rules_page v (length c.args.rules.now) c.in_ok-end.end (length c.write_closed.new.out)) c.write_closed.new.out c.write_rules.new.out) over c.write_rules.ensures.output) in
    let longer : length c.write_rules.new.out ≡ size = search in
    let told = λ (n size : ℕ). answers_part n (answers_of (signal_names view) view.words.now c.first_query.result c.args.queries.now) size in
    let part = rest_refused told c.in_ok-at.at c.write_rules.new.out c.new-rest.result c.write_answers.new.out c.new-rest.ensures.at c.new-rest.ensures.bytes c.in_err-write_answers.field-0.0 c.in_err-write_answers.ensures.part in
    let same : told c.in_ok-at.at (length c.write_rules.new.out) ≡ answers c.in_ok-at.at =
    ap (λ line. answers_part c.in_ok-at.at (answers_of (signal_names view) view.words.now line c.args.queries.now) (length c.write_rules.new.out)) c.first_query.ensures.line ∙ ap (answers_part c.in_ok-at.at (answers_of (signal_names view) view.words.now (first_line view.words.now view.places.now) c.args.queries.now)) longer in
    let inner = followed_put c.in_ok-end.end c.in_ok-at.at (rules c.in_ok-end.end) answers _ c.write_closed.new.out c.write_rules.new.out c.write_answers.new.out.bytes.now second put_second c.in_ok-at.ensures.inside
    (part.0 ∙ ap (behind c.in_ok-at.at) same) (subst (λ p. Put c.in_ok-at.at p c.write_rules.new.out c.write_answers.new.out.bytes.now) same part.1) in
    let q = followed_put 0 c.in_ok-end.end closed rest _ c.args.out.now c.write_closed.new.out c.write_answers.new.out.bytes.now first put c.in_ok-end.ensures.inside inner.0 inner.1 in
    subst (λ o. Put 0 (parts_on (rooms_of c.args.sets.now c.args.rules.now c.args.out.now) view c.args.queries.now) c.args.out.now o) (search known) q.1

pub returns-in_err-write_answers-clause-sets : goal.returns-in_err-write_answers-clause-sets
returns-in_err-write_answers-clause-sets c =
    let over : c.new-closure.result.view ≡ c.args.view.now = c.new-closure.ensures.view in
    subst (λ (v : TableView). Filled (signal_count v) (common_in v) c.args.sets.now c.write_closed.new.sets) over c.write_closed.ensures.sets

pub returns-in_err-write_answers-clause-rules : goal.returns-in_err-write_answers-clause-rules
returns-in_err-write_answers-clause-rules c =
    let view = c.args.view.now in
    let sets = length c.args.sets.now in
    let size = length c.args.out.now in
    let closed = closed_page view sets 0 size in
    let over : c.new-closure.result.view ≡ view = c.new-closure.ensures.view in
    let first : Ok c.in_ok-end.end ≡ behind 0 closed = subst (λ (v : TableView). Ok c.in_ok-end.end ≡ behind 0 (closed_page v sets 0 size)) over c.in_ok-end.ensures.answer in
    reached (signal_count view) (common_in view) 0 c.in_ok-end.end closed c.args.rules.now c.write_rules.new.rules first
    (subst (λ (v : TableView). ruling.Filled (signal_count v) (common_in v) c.args.rules.now c.write_rules.new.rules) over c.write_rules.ensures.rules)
