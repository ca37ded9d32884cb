-- `reading::read_file` meets its contract: the three blocks, and their cells one after the other.
-- Assumes nothing.
use Rattle.blocks.proofs.ReadParts.{file_read}
use Rattle.blocks.proofs.reading.read_file.Goals as goal

pub returns : goal.returns
returns c =
    let all = c.in_all.ensures in
    file_read c.args.file.now c.args.cells.now c.requires.0 c.requires.1 c.read_part-first.ensures c.read_part-second.ensures c.read_part-third.ensures all.0 all.1 all.2 all.3
