-- `blocks::all_sums_right` meets its contract. The loop's invariant: the first blocks are tested. Assumes nothing.
use Rattle.std.proofs.Common.{arith}
use Rattle.second.specs.Working.Blocks.{sums_right, all_sums_right}
use Rattle.second.proofs.Loops.{tested_all}
use Rattle.second.proofs.blocks.all_sums_right.Goals as goal

pub returns : goal.returns
unfolding all_sums_right
returns c = tested_all (sums_right c.args.file.now) c.loop-number.number 3 (omega arith) c.loop-number.invariant.1
