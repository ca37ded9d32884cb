-- `bytes::gather` meets its contract: the steps, tested on all bytes, move the lowest bits together.
-- Assumes nothing.
use Rattle.words.proofs.GatherLaws.{folded, folded_gathers}
use Rattle.words.proofs.bytes.gather.Goals as goal

pub returns : goal.returns
unfolding folded
returns c = folded_gathers c.args.x
