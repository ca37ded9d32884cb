-- `transpose::swap_block` meets its contract. The loop's invariant: the first i pairs of rows have exchanged bits. The measure is
-- what is left of the j pairs.
-- Assumes nothing.
use Rattle.words.proofs.SwapLaws.{swapped_next}
use Rattle.words.proofs.transpose.swap_block.Goals as goal

pub loop-i-preserved : goal.loop-i-preserved
loop-i-preserved c =
    swapped_next _ _ _ _ _ _ c.loop-i.invariant c.loop-i-test.true c.requires.1 _ _ c.exchange-x.ensures.0 c.exchange-x.ensures.1
