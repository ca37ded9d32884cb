-- `blocks::Block::sums_of` meets its contract. The loop's invariant: the first bytes are summed. Assumes nothing.
use Rattle.std.proofs.Common.{◌≡◌, ◌<◌, ◌≤◌}
use Rattle.second.specs.Working.Blocks.{byte_in, sum_a, sum_b}
use Rattle.second.proofs.blocks.Block.sums_of.Given as goal

abbrev pub invariant-loop-p : goal.invariant-loop-p
invariant-loop-p l = (l.p ≤ 510) × (l.a ≡ sum_a (byte_in l.file l.self.number) l.p) × (l.b ≡ sum_b (byte_in l.file l.self.number) l.p) × (l.a < 255) × (l.b < 255)
