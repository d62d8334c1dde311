use Rattle.std.proofs.Common.{◌≡◌, length, subst, rules}
use Rattle.table.specs.Reading.{read_of}
use Rattle.job.specs.Closed.{listed}
use Rattle.job.specs.Jobs.{Put, behind}
use Rattle.job.proofs.Lined.{lined_behind, lined_listed}
use Rattle.job.proofs.Reporting.{framed, not_small}
use Rattle.job.proofs.closed.list_closed.Goals as goal

pub settle-requires-clause-near : goal.settle-requires-clause-near
settle-requires-clause-near c = lined_behind 0 _ c.list_table-answer.result (lined_listed c.args.text.now (length c.args.words.now) (length c.args.places.now) (length c.args.sets.now) (length c.clear.new.out)) c.list_table-answer.ensures.answer

pub returns-clause-answer : goal.returns-clause-answer
returns-clause-answer c =
    let size : length c.clear.new.out ≡ length c.args.out.now = search rules in
    let long : length c.list_table-answer.new.out ≡ length c.args.out.now = search rules in
    (framed (length c.args.out.now) (listed c.args.text.now (length c.args.sets.now) (length c.args.out.now) (read_of c.args.text.now (length c.args.words.now) (length c.args.places.now))) c.list_table-answer.result c.settle.result c.clear.new.out c.list_table-answer.new.out c.settle.new.out
    (not_small (length c.args.out.now) c.in_ok-clear.ensures.answer) c.clear.ensures.zeros long
    (subst (λ n. c.list_table-answer.result ≡ behind 0 (listed c.args.text.now (length c.args.sets.now) n (read_of c.args.text.now (length c.args.words.now) (length c.args.places.now)))) size c.list_table-answer.ensures.answer)
    (subst (λ n. Put 0 (listed c.args.text.now (length c.args.sets.now) n (read_of c.args.text.now (length c.args.words.now) (length c.args.places.now))) c.clear.new.out c.list_table-answer.new.out) size c.list_table-answer.ensures.output)
    (lined_listed c.args.text.now (length c.args.words.now) (length c.args.places.now) (length c.args.sets.now) (length c.args.out.now)) c.settle.ensures.answer c.settle.ensures.output).0

pub returns-clause-output : goal.returns-clause-output
returns-clause-output c =
    let size : length c.clear.new.out ≡ length c.args.out.now = search rules in
    let long : length c.list_table-answer.new.out ≡ length c.args.out.now = search rules in
    (framed (length c.args.out.now) (listed c.args.text.now (length c.args.sets.now) (length c.args.out.now) (read_of c.args.text.now (length c.args.words.now) (length c.args.places.now))) c.list_table-answer.result c.settle.result c.clear.new.out c.list_table-answer.new.out c.settle.new.out
    (not_small (length c.args.out.now) c.in_ok-clear.ensures.answer) c.clear.ensures.zeros long
    (subst (λ n. c.list_table-answer.result ≡ behind 0 (listed c.args.text.now (length c.args.sets.now) n (read_of c.args.text.now (length c.args.words.now) (length c.args.places.now)))) size c.list_table-answer.ensures.answer)
    (subst (λ n. Put 0 (listed c.args.text.now (length c.args.sets.now) n (read_of c.args.text.now (length c.args.words.now) (length c.args.places.now))) c.clear.new.out c.list_table-answer.new.out) size c.list_table-answer.ensures.output)
    (lined_listed c.args.text.now (length c.args.words.now) (length c.args.places.now) (length c.args.sets.now) (length c.args.out.now)) c.settle.ensures.answer c.settle.ensures.output).1
