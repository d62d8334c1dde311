use Rattle.std.proofs.Common.{◌≡◌, List, ℕ, length, replicate, IfErr, ap₂, ◌∙◌, subst, sym, rules, MatchResult}
use Rattle.output.specs.Puts.{after_put}
use Rattle.job.specs.Faults.{fault_of}
use Rattle.job.specs.Reports.{Lined, fault_line, padded}
use Rattle.job.proofs.Reporting.{refused_line}
use Rattle.job.proofs.frame.settle.Goals as goal

pub returns-in-Err-clause-output : goal.returns-in-Err-clause-output
returns-in-Err-clause-output c =
    let zeros : c.fill.new.self ≡ replicate (length c.args.out.now) 0 = search rules in
    let lined : Lined c.in-Err.fault = subst (λ r. IfErr r Lined) c.in-Err.is c.requires.near in
    let later : List ℕ = c.put_fault.new.out.bytes.now in
    let whole : later ≡ after_put 0 (fault_line c.fault.result) c.fill.new.self =
    c.put_fault.ensures.puts.whole ∙ ap₂ (λ a o. after_put a (fault_line c.fault.result) o) c.new.ensures.at c.new.ensures.bytes in
    let told = refused_line c.in-Err.fault c.fault.result (length c.args.out.now) c.fill.new.self later lined c.requires.room c.fault.ensures.told zeros whole in
    subst (λ o. MatchResult c.args.answer (λ n. o ≡ c.args.out.now) (λ e. o ≡ padded (length c.args.out.now) (fault_line (fault_of e)))) (search rules)
    (subst (λ r. MatchResult r (λ n. later ≡ c.args.out.now) (λ e. later ≡ padded (length c.args.out.now) (fault_line (fault_of e)))) (sym c.in-Err.is) told)
