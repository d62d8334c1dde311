use Rattle.std.proofs.Common.{◌+◌, ◌≤◌, [], length, ap, arith}
use Rattle.output.proofs.Growing.{grows_none, grows_refused}
use Rattle.page.specs.Pages.{foot}
use Rattle.page.proofs.Feet.{foot_short}
use Rattle.page.proofs.page.Page.foot.Goals as goal

pub returns-in_err-put_record-clause-granted : goal.returns-in_err-put_record-clause-granted
returns-in_err-put_record-clause-granted c = λ room.
    let a = c.new-output.result in
    let fits : a.at + length (foot c.args.self.lines) ≤ length a.bytes.now =
    omega (arith, foot_short c.args.self.lines c.args.self.few, c.new-output.ensures.at, ap length c.new-output.ensures.bytes) in
    grows_refused [] (foot c.args.self.lines) a a c.put_record.new.self _ fits (grows_none a (omega arith)) c.in_err-put_record.ensures.puts
