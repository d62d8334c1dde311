use Rattle.std.proofs.Common.{arith, eq-eqb}
use Rattle.std.proofs.lemmas.Bool.{eqb-true, le-leb}
use Rattle.operators.proofs.Alike.{alike_high, alike_halves, halves_alike}
use Rattle.operators.proofs.word.are_alike.Goals as goal

pub returns-then-bit-ge-TOP_BIT : goal.returns-then-bit-ge-TOP_BIT
returns-then-bit-ge-TOP_BIT c =
    let high = c.if-bit-ge-TOP_BIT.true in
    record {
      told = (λ _. alike_high 64 c.args.bit c.args.a c.args.b (omega arith) (omega arith) (omega arith), λ _. le-leb 63 c.args.bit high);
    }

pub returns-else-bit-ge-TOP_BIT : goal.returns-else-bit-ge-TOP_BIT
returns-else-bit-ge-TOP_BIT c =
    record {
      told = (λ t. alike_halves c.args.bit c.args.a c.args.b (eqb-true _ _ t), λ e. eq-eqb _ _ (halves_alike c.args.bit c.args.a c.args.b e));
    }
