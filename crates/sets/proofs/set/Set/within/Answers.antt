use Rattle.std.proofs.lemmas.Bool.{eqb-true}
use Rattle.sets.proofs.Told.{decides_within}
use Rattle.sets.proofs.set.Set.within.Goals as goal

pub returns-then-self-other : goal.returns-then-self-other
returns-then-self-other c =
    record {
      told = decides_within c.args.self.now c.args.other.now c.if-self-other.true;
      words = λ t. record { same = eqb-true _ _ t };
    }
