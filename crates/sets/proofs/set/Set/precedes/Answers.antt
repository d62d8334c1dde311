use Rattle.sets.proofs.Told.{decides_precedes}
use Rattle.sets.proofs.set.Set.precedes.Goals as goal

pub returns-then-self-other : goal.returns-then-self-other
returns-then-self-other c =
    record { told = decides_precedes c.args.self.now c.args.other.now c.if-self-other.true }
