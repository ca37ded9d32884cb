-- `blocks::put_cells` meets its contract. The loop's invariant: the first cells are written. Assumes nothing.
use Rattle.std.proofs.Common.{refl, rules}
use Rattle.second.specs.Working.Loops.{written}
use Rattle.second.specs.Working.Blocks.{file_cell}
use Rattle.second.proofs.Loops.{written_next}
use Rattle.second.proofs.blocks.put_cells.Goals as goal

pub loop-i-init : goal.loop-i-init
unfolding written
loop-i-init c = (search rules, refl, refl)

pub loop-i-preserved : goal.loop-i-preserved
loop-i-preserved c =
    let turn = c.loop-i in
    let s = c.args in
    (search rules, rw c.file_cell.ensures (written_next (λ k. k) (file_cell s.file.now) turn.i s.cells.now turn.invariant.1), search rules)
