use Rattle.std.proofs.Common.{◌≡◌, length, subst, rules}
use Rattle.table.specs.Reading.{read_of}
use Rattle.job.specs.Jobs.{Put, behind, read_parts}
use Rattle.job.proofs.Lined.{lined_behind, lined_job}
use Rattle.job.proofs.Reporting.{framed, not_small}
use Rattle.job.proofs.run.run.Goals as goal

pub settle-requires-clause-near : goal.settle-requires-clause-near
settle-requires-clause-near c = lined_behind 0 _ c.write_job-answer.result (lined_job c.args.text.now (length c.args.words.now) (length c.args.places.now) (record { sets = length c.args.sets.now; rules = length c.args.rules.now; size = (length c.clear.new.out) })) c.write_job-answer.ensures.answer

pub returns-clause-answer : goal.returns-clause-answer
returns-clause-answer c =
    let size : length c.clear.new.out ≡ length c.args.out.now = search rules in
    let long : length c.write_job-answer.new.out ≡ length c.args.out.now = search rules in
    (framed (length c.args.out.now) (read_parts (record { sets = length c.args.sets.now; rules = length c.args.rules.now; size = (length c.args.out.now) }) c.args.text.now (read_of c.args.text.now (length c.args.words.now) (length c.args.places.now))) c.write_job-answer.result c.settle.result c.clear.new.out c.write_job-answer.new.out c.settle.new.out
    (not_small (length c.args.out.now) c.in_ok-clear.ensures.answer) c.clear.ensures.zeros long
    (subst (λ n. c.write_job-answer.result ≡ behind 0 (read_parts (record { sets = length c.args.sets.now; rules = length c.args.rules.now; size = n }) c.args.text.now (read_of c.args.text.now (length c.args.words.now) (length c.args.places.now)))) size c.write_job-answer.ensures.answer)
    (subst (λ n. Put 0 (read_parts (record { sets = length c.args.sets.now; rules = length c.args.rules.now; size = n }) c.args.text.now (read_of c.args.text.now (length c.args.words.now) (length c.args.places.now))) c.clear.new.out c.write_job-answer.new.out) size c.write_job-answer.ensures.output)
    (lined_job c.args.text.now (length c.args.words.now) (length c.args.places.now) (record { sets = length c.args.sets.now; rules = length c.args.rules.now; size = (length c.args.out.now) })) c.settle.ensures.answer c.settle.ensures.output).0

pub returns-clause-output : goal.returns-clause-output
returns-clause-output c =
    let size : length c.clear.new.out ≡ length c.args.out.now = search rules in
    let long : length c.write_job-answer.new.out ≡ length c.args.out.now = search rules in
    (framed (length c.args.out.now) (read_parts (record { sets = length c.args.sets.now; rules = length c.args.rules.now; size = (length c.args.out.now) }) c.args.text.now (read_of c.args.text.now (length c.args.words.now) (length c.args.places.now))) c.write_job-answer.result c.settle.result c.clear.new.out c.write_job-answer.new.out c.settle.new.out
    (not_small (length c.args.out.now) c.in_ok-clear.ensures.answer) c.clear.ensures.zeros long
    (subst (λ n. c.write_job-answer.result ≡ behind 0 (read_parts (record { sets = length c.args.sets.now; rules = length c.args.rules.now; size = n }) c.args.text.now (read_of c.args.text.now (length c.args.words.now) (length c.args.places.now)))) size c.write_job-answer.ensures.answer)
    (subst (λ n. Put 0 (read_parts (record { sets = length c.args.sets.now; rules = length c.args.rules.now; size = n }) c.args.text.now (read_of c.args.text.now (length c.args.words.now) (length c.args.places.now))) c.clear.new.out c.write_job-answer.new.out) size c.write_job-answer.ensures.output)
    (lined_job c.args.text.now (length c.args.words.now) (length c.args.places.now) (record { sets = length c.args.sets.now; rules = length c.args.rules.now; size = (length c.args.out.now) })) c.settle.ensures.answer c.settle.ensures.output).1
