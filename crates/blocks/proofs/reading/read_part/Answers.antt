-- `reading::read_part` meets its contract: the block and the rows' cells are those that are lent.
-- Assumes nothing.
use Rattle.blocks.proofs.ReadParts.{part_read}
use Rattle.blocks.proofs.reading.read_part.Goals as goal

pub returns : goal.returns
returns c =
    part_read c.args.block c.args.file.now c.args.cells.now c.rows_in.ensures c.read_block.ensures
