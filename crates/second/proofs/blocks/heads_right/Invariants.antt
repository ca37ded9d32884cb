-- `blocks::heads_right` meets its contract. The loop's invariant: the first bytes of the blocks are tested. Assumes nothing.
use Rattle.std.proofs.Common.{◌≡◌, ◌≤◌}
use Rattle.laws.specs.Tests.{every}
use Rattle.second.specs.Working.Blocks.{head_right}
use Rattle.second.proofs.blocks.heads_right.Given as goal

abbrev pub invariant-loop-i : goal.invariant-loop-i
invariant-loop-i l = (l.i ≤ 12) × (l.right ≡ every (head_right l.file) l.i)
