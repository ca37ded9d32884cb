-- `blocks::put_cells` meets its contract. The loop's invariant: the first cells are written. Assumes nothing.
use Rattle.std.proofs.Common.{◌≡◌, ◌≤◌, length}
use Rattle.second.specs.Working.Loops.{written}
use Rattle.second.specs.Working.Blocks.{file_cell}
use Rattle.second.proofs.blocks.put_cells.Given as goal

abbrev pub invariant-loop-i : goal.invariant-loop-i
invariant-loop-i l = (l.i ≤ length l.initial.cells) × (l.cells ≡ written (λ k. k) (file_cell l.file) l.i l.initial.cells) × (length l.cells ≡ length l.initial.cells)
