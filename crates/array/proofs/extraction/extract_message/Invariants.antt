-- `extraction::extract_message` meets its contract. The loop's invariant: the first i message rows are copied.
-- Assumes nothing.
use Rattle.array.proofs.Loops.{Taking}
use Rattle.array.proofs.extraction.extract_message.Given as goal

abbrev pub invariant-loop-i : goal.invariant-loop-i
invariant-loop-i l = Taking l.n l.k l.p l.cells l.initial.message l.message l.i
