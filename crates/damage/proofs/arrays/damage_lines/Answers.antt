-- `arrays::damage_lines` meets its contract. The loop's invariant: the cells are cells still. Assumes nothing.
use Rattle.std.proofs.Common.{◌+◌, arith, rules}
use Rattle.second.proofs.Ranges.{below_taken, below_with}
use Rattle.damage.proofs.arrays.damage_lines.Goals as goal

pub loop-i-preserved : goal.loop-i-preserved
loop-i-preserved c =
    let turn = c.loop-i in
    let at = c.first_line-first.result + turn.i in
    let n = c.args.code.n in
    (search rules, λ h. rw c.put_line.ensures (below_with n at 3 c.damaged_line-line.result turn.cells (c.damaged_line-line.ensures (rw c.take_line.ensures (below_taken n at 3 turn.cells (omega arith) (turn.invariant.1 h)))) (turn.invariant.1 h)))
