-- `lines::hit_some` meets its contract. The loop's invariant: the cells are cells still. Assumes nothing.
use Rattle.std.proofs.Common.{◌≤◌}
use Rattle.second.specs.Working.Loops.{Below}
use Rattle.damage.proofs.lines.hit_some.Given as goal

abbrev pub invariant-loop : goal.invariant-loop
invariant-loop l = (l.counter ≤ l.many) × (Below 3 l.initial.other → Below 3 l.other)
