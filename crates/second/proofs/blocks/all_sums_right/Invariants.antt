-- `blocks::all_sums_right` meets its contract. The loop's invariant: the first blocks are tested. Assumes nothing.
use Rattle.std.proofs.Common.{◌≡◌, ◌≤◌}
use Rattle.laws.specs.Tests.{every}
use Rattle.second.specs.Working.Blocks.{sums_right}
use Rattle.second.proofs.blocks.all_sums_right.Given as goal

abbrev pub invariant-loop-number : goal.invariant-loop-number
invariant-loop-number l = (l.number ≤ 3) × (l.right ≡ every (sums_right l.file) l.number)
