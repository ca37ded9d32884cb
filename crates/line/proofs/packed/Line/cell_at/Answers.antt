-- `Line::cell_at` meets its contract: bit k of the ones and twice bit k of the erased are the cell.
-- Assumes nothing.
use native.Mathlib.Omega.{arith}
use Rattle.line.proofs.Packing.{cell_of_line}
use Rattle.line.proofs.packed.Line.cell_at.Goals as goal

pub returns : goal.returns
returns c =
    let e = c.bit_at.ensures in
    let g = c.bit_at-2.ensures in
    (omega arith, λ n cs p. rw (e, g) (cell_of_line c.args.k.number p))
