-- `array::rows::row` meets its contract: a refused look-up gives an empty part.
-- Assumes nothing.
use Rattle.std.proofs.Common.{refl}
use Rattle.array.proofs.RowLook.{part_or}
use Rattle.array.proofs.rows.row.Goals as goal

pub returns : goal.returns
returns c =
    let s = c.args in
    rw c.unwrap_or.ensures (part_or s.degree s.cells.now s.index c.look_up.result _ c.look_up.ensures.refusal c.look_up.ensures.part refl)
