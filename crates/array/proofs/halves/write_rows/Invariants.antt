-- `halves::write_rows` meets its contract. The loop's invariant: the first i rows hold the new lines, the others what they held.
--
-- Assumes nothing.
use Rattle.array.proofs.HalfLaws.{Writing}
use Rattle.array.proofs.halves.write_rows.Given as goal

abbrev pub invariant-loop-i : goal.invariant-loop-i
invariant-loop-i l = Writing l.n l.initial.cells l.old l.rows l.cells l.i
