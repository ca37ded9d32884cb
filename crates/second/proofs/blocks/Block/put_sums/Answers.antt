-- `blocks::Block::put_sums` meets its contract. Assumes nothing.
use Rattle.second.specs.Working.Blocks.{with_sums}
use Rattle.second.proofs.blocks.Block.put_sums.Goals as goal

pub returns : goal.returns
unfolding with_sums
returns c = rw (c.sums_of-sums.ensures.0, c.sums_of-sums.ensures.1)
