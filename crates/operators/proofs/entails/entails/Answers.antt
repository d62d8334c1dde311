use Rattle.std.proofs.Common.{sym, ap}
use Rattle.operators.proofs.Told.{decides_entailed}
use Rattle.operators.proofs.entails.entails.Goals as goal

pub returns : goal.returns
returns c =
    record {
      told = decides_entailed c.args.rules.now c.args.premise c.args.conclusion c.closure.result c.within.ensures.told
          c.closure.ensures.width (ap (λ s. s.width) c.new.ensures.like) c.new.ensures.rules (c.closure.ensures.closed (sym (ap (λ s. s.width) c.new.ensures.like)));
    }
