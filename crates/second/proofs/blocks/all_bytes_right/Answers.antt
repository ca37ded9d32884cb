-- `blocks::all_bytes_right` meets its contract. The loop's invariant: the first bytes are tested. Assumes nothing.
use Rattle.std.proofs.Common.{length, arith}
use Rattle.second.specs.Working.Blocks.{byte_right_at, all_bytes_right}
use Rattle.second.proofs.Loops.{tested_all}
use Rattle.second.proofs.blocks.all_bytes_right.Goals as goal

pub returns : goal.returns
unfolding all_bytes_right
returns c =
    let file = c.args.file.now in
    tested_all (byte_right_at file) c.loop-at.at (length file) (omega arith) c.loop-at.invariant.1
