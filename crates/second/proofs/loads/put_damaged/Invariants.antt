-- `loads::put_damaged` meets its contract. The loop's invariant: the first cells are written. Assumes nothing.
use Rattle.std.proofs.Common.{◌≡◌, ◌≤◌, length, get_or}
use Rattle.second.specs.declared.loads.Mark.TheVariants.{Kept}
use Rattle.second.specs.Working.Loops.{written}
use Rattle.second.specs.Working.Loads.{damaged_cell}
use Rattle.second.proofs.loads.put_damaged.Given as goal

abbrev pub invariant-loop-i : goal.invariant-loop-i
invariant-loop-i l = (l.i ≤ length l.initial.cells) × (l.cells ≡ written (λ k. k) (λ k. damaged_cell (get_or l.sent k 0) (get_or l.marks k Kept)) l.i l.initial.cells) × (length l.cells ≡ length l.initial.cells)
