use Rattle.std.proofs.Common.{◌≡◌, ◌≢◌, ℕ, rules}
use Rattle.std.proofs.lemmas.Iterator.{first_from_Range}
use Rattle.query.proofs.Lookups.{found_is, handed}
use Rattle.query.proofs.names.Names.find.Goals as goal

pub returns : goal.returns
returns c =
    let view = c.args.self.now.view in
    record {
      found = found_is view c.count.result c.args.bytes.now c.find.result c.count.ensures.count (first_from_Range _ _ _ c.find.result
          (λ (i : ℕ). handed view i ≡ c.args.bytes.now)
          (λ (i : ℕ). handed view i ≢ c.args.bytes.now)
          c.find.ensures.ran (λ x q k. search rules) (λ x q k. search rules));
    }
