-- `arrays::make_sent` meets its contract. The loop's invariant: the cells are bits so far. Assumes nothing.
use Rattle.std.proofs.Common.{◌+◌}
use Rattle.second.proofs.Ranges.{below_lines}
use Rattle.damage.proofs.arrays.make_sent.Goals as goal

pub returns : goal.returns
returns c =
    let turn = c.loop-i in
    let n = c.args.code.n in
    λ h. rw c.encode_array.ensures (below_lines n (n + n) turn.cells (turn.invariant.1 h))
