-- `report::count_erased` meets its contract. The loop's invariant: the sum is that of the first i lines.
-- Assumes nothing.
use Rattle.array.proofs.ReportLaws.{Counting}
use Rattle.array.proofs.report.count_erased.Given as goal

abbrev pub invariant-loop-i : goal.invariant-loop-i
invariant-loop-i l = Counting l.n l.rows l.sum l.i
