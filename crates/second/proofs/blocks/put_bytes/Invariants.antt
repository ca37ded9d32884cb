-- `blocks::put_bytes` meets its contract. The loop's invariant: the first bytes are written. Assumes nothing.
use Rattle.std.proofs.Common.{◌≡◌, ◌/◌, ◌%◌, ◌≤◌, length}
use Rattle.second.specs.Working.Loops.{written}
use Rattle.second.specs.Working.Blocks.{block_byte}
use Rattle.second.proofs.blocks.put_bytes.Given as goal

abbrev pub invariant-loop-at : goal.invariant-loop-at
invariant-loop-at l = (l.at ≤ 1536) × (l.file ≡ written (λ k. k) (λ k. block_byte l.number l.cells (k / 512) (k % 512)) l.at l.initial.file) × (length l.file ≡ length l.initial.file)
