-- `blocks::heads_right` meets its contract. The loop's invariant: the first bytes of the blocks are tested. Assumes nothing.
use Rattle.std.proofs.Common.{arith}
use Rattle.second.specs.Working.Blocks.{head_right, heads_right}
use Rattle.second.proofs.Loops.{tested_all}
use Rattle.second.proofs.blocks.heads_right.Goals as goal

pub returns : goal.returns
unfolding heads_right
returns c = tested_all (head_right c.args.file.now) c.loop-i.i 12 (omega arith) c.loop-i.invariant.1
