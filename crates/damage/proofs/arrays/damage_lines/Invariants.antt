-- `arrays::damage_lines` meets its contract. The loop's invariant: the cells are cells still. Assumes nothing.
use Rattle.std.proofs.Common.{◌≤◌}
use Rattle.second.specs.Working.Loops.{Below}
use Rattle.damage.proofs.arrays.damage_lines.Given as goal

abbrev pub invariant-loop-i : goal.invariant-loop-i
invariant-loop-i l = (l.i ≤ l.i-end) × (Below 3 l.initial.cells → Below 3 l.cells)
