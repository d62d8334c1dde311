use Rattle.operators.proofs.ByColumns.{extent_place, wanted_covered, narrowed_is}
use Rattle.operators.proofs.columns.block.Block.narrowed.Goals as goal

pub take_rows-some-requires : goal.take_rows-some-requires
take_rows-some-requires c =
    let block = c.args.self.now in
    record {
      rows = extent_place block.width block.rows.now block.columns.now c.args.wanted c.extent-extent.result block.turned c.requires.below block.few
          c.extent-extent.type_inv c.extent-extent.ensures.extent;
    }

pub sifted-requires-clause-covered : goal.sifted-requires-clause-covered
sifted-requires-clause-covered c =
    let block = c.args.self.now in
    wanted_covered block.width block.rows.now block.columns.now c.args.wanted c.extent-extent.result block.turned c.requires.below block.few
    c.extent-extent.type_inv c.extent-extent.ensures.extent c.take_rows-some.result.1 c.args.word c.take_rows-some.result.0 c.take_rows-some.ensures.taken

pub returns : goal.returns
returns c =
    let block = c.args.self.now in
    record {
      common = narrowed_is block.width block.rows.now block.columns.now c.args.wanted c.extent-extent.result block.turned c.requires.below block.few
          c.extent-extent.type_inv c.extent-extent.ensures.extent c.take_rows-some.result.1 c.args.word c.take_rows-some.result.0 c.take_rows-some.ensures.taken
          c.sifted.result c.requires.fits c.sifted.type_inv c.sifted.ensures.sifted;
    }
