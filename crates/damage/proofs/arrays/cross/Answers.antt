-- `arrays::cross` meets its contract. The loop's invariant: the cells are cells still. Assumes nothing.
use Rattle.std.proofs.Common.{rules}
use Rattle.second.proofs.Ranges.{below_with}
use Rattle.damage.proofs.arrays.cross.Goals as goal

pub loop-i-preserved : goal.loop-i-preserved
loop-i-preserved c =
    let turn = c.loop-i in
    let n = c.args.code.n in
    (search rules, λ a h. rw c.put_line.ensures (below_with n turn.i 3 c.crossed_line.result turn.cells (c.crossed_line.ensures a) (turn.invariant.1 a h)))
