-- `loads::put_damaged` meets its contract. The loop's invariant: the first cells are written. Assumes nothing.
use Rattle.std.proofs.Common.{get_or, refl, rules}
use Rattle.second.specs.declared.loads.Mark.TheVariants.{Kept}
use Rattle.second.specs.Working.Loops.{written}
use Rattle.second.specs.Working.Loads.{damaged_cell}
use Rattle.second.proofs.Loops.{written_next}
use Rattle.second.proofs.loads.put_damaged.Goals as goal

pub loop-i-init : goal.loop-i-init
unfolding written
loop-i-init c = (search rules, refl, refl)

pub loop-i-preserved : goal.loop-i-preserved
loop-i-preserved c =
    let turn = c.loop-i in
    let s = c.args in
    (search rules, rw c.damaged_cell.ensures (written_next (λ k. k) (λ k. damaged_cell (get_or s.sent.now k 0) (get_or s.marks.now k Kept)) turn.i s.cells.now turn.invariant.1), search rules)
