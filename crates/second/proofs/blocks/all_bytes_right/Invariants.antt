-- `blocks::all_bytes_right` meets its contract. The loop's invariant: the first bytes are tested. Assumes nothing.
use Rattle.std.proofs.Common.{◌≡◌, ◌≤◌}
use Rattle.laws.specs.Tests.{every}
use Rattle.second.specs.Working.Blocks.{byte_right_at}
use Rattle.second.proofs.blocks.all_bytes_right.Given as goal

abbrev pub invariant-loop-at : goal.invariant-loop-at
invariant-loop-at l = (l.at ≤ 1536) × (l.right ≡ every (byte_right_at l.file) l.at)
