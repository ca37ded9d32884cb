-- `tables::put_sums` meets its contract: a turn makes one block more.
-- Assumes nothing.
use Rattle.field.proofs.Filling.{SumsTo}
use Rattle.field.proofs.tables.put_sums.Given as goal

abbrev pub invariant-loop-j : goal.invariant-loop-j
invariant-loop-j l = SumsTo l.weights l.j l.sums
