-- `arrays::crossed_line` meets its contract. The loop's invariant: the cells are cells. Assumes nothing.
use Rattle.std.proofs.Common.{◌≤◌}
use Rattle.second.specs.Working.Loops.{Below}
use Rattle.damage.proofs.arrays.crossed_line.Given as goal

abbrev pub invariant-loop-j : goal.invariant-loop-j
invariant-loop-j l = (l.j ≤ l.j-end) × (Below 3 l.across → Below 3 l.line)
