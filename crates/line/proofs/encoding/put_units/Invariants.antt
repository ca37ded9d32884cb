-- `line::encoding::put_units` meets its contract. The loop's invariant: the first a words are the units of their check cells.
-- Assumes nothing.
use Rattle.line.proofs.UnitLaws.{Making}
use Rattle.line.proofs.encoding.put_units.Given as goal

abbrev pub invariant-loop-a : goal.invariant-loop-a
invariant-loop-a l = Making l.d l.checks l.words l.a
