-- `arrays::make_sent` meets its contract. The loop's invariant: the cells are bits so far. Assumes nothing.
use Rattle.std.proofs.Common.{◌≤◌}
use Rattle.second.specs.Working.Loops.{Below}
use Rattle.damage.proofs.arrays.make_sent.Given as goal

abbrev pub invariant-loop-i : goal.invariant-loop-i
invariant-loop-i l = (l.i ≤ l.i-end) × (Below 2 l.initial.cells → Below 2 l.cells)
