-- `arrays::pugdrel_row` meets its contract: the place of the part that the look-up gives.
-- Assumes nothing.
use Rattle.std.proofs.Common.{◌≡◌, refl, ◌∙◌, arith}
use lib.ListN.{take}
use Rattle.array.specs.Entries.{row_part}
use Rattle.array.proofs.RowLook.{part_or}
use Rattle.pugdrel.specs.Working.Numbers.{fits}
use Rattle.pugdrel.proofs.Handing.{lent_part}
use Rattle.pugdrel.proofs.ArrayTelling.{row_start, row_told}
use Rattle.pugdrel.proofs.arrays.pugdrel_row.Goals as goal

pub overflow_mul-numbers : goal.overflow_mul-numbers
overflow_mul-numbers c =
    let s = c.args in
    let part = take c.lent-end.result s.cells.now in
    let found = c.look_up-answer in
    let e : c.unwrap_or-long.result.now ≡ row_part s.degree part s.index = rw c.unwrap_or-long.ensures (part_or s.degree part s.index found.result _ found.ensures.refusal found.ensures.part refl) in
    omega (arith, row_start s.degree part s.index e)

pub returns : goal.returns
returns c =
    let s = c.args in
    let part = take c.lent-end.result s.cells.now in
    let found = c.look_up-answer in
    let e : c.unwrap_or-long.result.now ≡ row_part s.degree part s.index = rw c.unwrap_or-long.ensures (part_or s.degree part s.index found.result _ found.ensures.refusal found.ensures.part refl) in
    row_told s.degree part s.index (lent_part (fits 2 s.report.now) s.cells.now c.lent-end.ensures) (c.refusal_of-number.ensures ∙ found.ensures.refusal) e c.tell.ensures
