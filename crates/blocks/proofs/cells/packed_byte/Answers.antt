-- `cells::packed_byte` meets its contract: the factor brings the four cells together.
-- Assumes nothing.
use Rattle.blocks.proofs.PackedCells.{packed_one}
use Rattle.blocks.proofs.cells.packed_byte.Goals as goal

pub returns : goal.returns
returns c = (packed_one _ _ _ c.requires.0 c.requires.1 c.four-x.ensures.0).1
