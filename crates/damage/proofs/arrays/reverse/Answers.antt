-- `arrays::reverse` meets its contract. The loop's invariant: the cells are cells still. Assumes nothing.
use Rattle.std.proofs.Common.{◌+◌, ◌-◌, arith, rules}
use Rattle.second.proofs.Ranges.{below_taken, below_with}
use Rattle.damage.proofs.arrays.reverse.Goals as goal

pub loop-i-preserved : goal.loop-i-preserved
loop-i-preserved c =
    let turn = c.loop-i in
    let first = c.first_line-first.result in
    let s = c.args in
    (search rules, λ h. rw c.put_line.ensures (below_with s.code.n (first + turn.i) 3 c.take_line-line.result turn.cells (rw c.take_line-line.ensures (below_taken s.code.n (first + (s.code.n - 1 - turn.i)) 3 s.cells.now (omega arith) h)) (turn.invariant.1 h)))
