-- `blocks::sum_blocks` meets its contract. The loop's invariant: the first blocks have their sums. Assumes nothing.
use Rattle.std.proofs.Common.{◌≡◌, ◌≤◌, length}
use Rattle.second.specs.Working.Blocks.{summed}
use Rattle.second.proofs.blocks.sum_blocks.Given as goal

abbrev pub invariant-loop-number : goal.invariant-loop-number
invariant-loop-number l = (l.number ≤ 3) × (l.file ≡ summed l.number l.initial.file) × (length l.file ≡ length l.initial.file)
