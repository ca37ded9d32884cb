-- `Line::put` meets its contract: both words get their bit of the new cell.
-- Assumes nothing.
use Rattle.line.proofs.Packing.{put_cell}
use Rattle.line.proofs.packed.Line.put.Goals as goal

pub returns : goal.returns
returns c =
    let a = c.args in
    λ n cs p h g. put_cell a.k.number a.c p h g c.put_bit.ensures c.put_bit-2.ensures
