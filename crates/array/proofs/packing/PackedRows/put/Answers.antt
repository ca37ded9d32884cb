-- `packing::PackedRows::put` meets its contract: the two words of line i are those of the line.
-- Assumes nothing.
use Rattle.array.proofs.PackedLaws.{held_put}
use Rattle.array.proofs.packing.PackedRows.put.Goals as goal

pub returns : goal.returns
returns c = held_put c.args.self.now _ _ c.args.l c.put.ensures c.put-2.ensures
