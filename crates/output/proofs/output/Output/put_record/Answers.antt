use Rattle.std.proofs.Common.{◌≡◌, ◌+◌, ◌≤◌, [], ◌∷◌, ◌++◌, length, append_assoc, length-append, subst, sym, rules, arith}
use Rattle.output.specs.Outputs.{Puts}
use Rattle.output.specs.Records.{number_fields, record_line}
use Rattle.output.proofs.Growing.{grows_last, grows_none, grows_put}
use Rattle.output.proofs.Rooms.{length_record}
use Rattle.output.proofs.output.Output.put_record.Goals as goal

pub returns : goal.returns
returns c =
    let room : c.args.self.now.at + length (record_line c.args.word.now c.args.numbers.now) ≤ length c.args.self.now.bytes.now = search (rules, length_record) in
    let word = c.args.word.now in
    let fields = number_fields c.args.numbers.now in
    let begun = grows_put [] word c.args.self.now c.args.self.now c.put.new.self _ (omega (arith, length_record word c.args.numbers.now)) (grows_none c.args.self.now (omega arith)) c.put.ensures.puts in
    let told = grows_put word fields c.args.self.now c.put.new.self c.put_numbers.new.self _ (omega (arith, length_record word c.args.numbers.now, length-append word fields)) begun.1 c.put_numbers.ensures.puts in
    let whole : (word ++ fields) ++ 10 ∷ [] ≡ record_line word c.args.numbers.now = append_assoc word fields (10 ∷ []) in
    record {
      puts = subst (λ bs. Puts bs c.args.self.now c.put-2.result c.put-2.new.self) whole
          (grows_last (word ++ fields) (10 ∷ []) c.args.self.now c.put_numbers.new.self c.put-2.new.self _ (subst (λ bs. c.args.self.now.at + length bs ≤ length c.args.self.now.bytes.now) (sym whole) room) told.1 c.put-2.ensures.puts);
    }
