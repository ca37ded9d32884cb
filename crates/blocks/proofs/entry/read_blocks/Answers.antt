-- `entry::read_blocks` meets its contract: the two lengths first, and then what `read_long` promises.
-- Assumes nothing.
use Rattle.blocks.proofs.EntryLaws.{refused_at_once, wrong_cells, wrong_file}
use Rattle.blocks.proofs.entry.read_blocks.Goals as goal

pub returns-then-cells-ne4096 : goal.returns-then-cells-ne4096
returns-then-cells-ne4096 c = refused_at_once _ _ _ (wrong_cells c.args.file.now c.args.cells.now c.if-cells-ne4096.true)

pub returns-then-file-ne1536 : goal.returns-then-file-ne1536
returns-then-file-ne1536 c = refused_at_once _ _ _ (wrong_file c.args.file.now c.args.cells.now c.if-cells-ne4096.false c.if-file-ne1536.true)
