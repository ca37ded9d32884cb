-- `packing::PackedRows::transpose` meets its contract: its two grids transposed hold the transposed array.
-- Assumes nothing.
use Rattle.array.proofs.PackedLaws.{held_turned}
use Rattle.array.proofs.packing.PackedRows.transpose.Goals as goal

pub returns : goal.returns
returns c =
    let n = c.size_of-n.ensures in
    held_turned _ c.args.self.now _ (rw n at c.transpose.ensures) (rw n at c.transpose-2.ensures)
