-- `report::count_erased` meets its contract. The loop's invariant: the sum is that of the first i lines.
-- Assumes nothing.
use Rattle.array.proofs.ReportLaws.{counting_start, counting_next}
use Rattle.array.proofs.report.count_erased.Goals as goal

pub loop-i-preserved : goal.loop-i-preserved
loop-i-preserved c =
    rw c.from-sum.ensures (counting_next c.loop-i.invariant c.loop-i-test.true c.line.ensures c.count_erasures.ensures)

pub loop-i-init : goal.loop-i-init
loop-i-init c = counting_start _ _
