-- `shuffling::number_places` meets its contract. The loop's invariant: the first i places are numbered.
-- Assumes nothing.
use Rattle.std.proofs.Common.{arith}
use Rattle.load.proofs.Numbering.{numbered_end}
use Rattle.load.proofs.shuffling.number_places.Goals as goal

pub returns : goal.returns
returns c = numbered_end c.loop-i.invariant (omega arith)
