-- `report::all_codewords` meets its contract. The loop's invariant: `all` says whether the first i rows and columns are codewords. The
-- measure is the lines left.
-- Assumes nothing.
use Prim.Native.Nat.{◌-◌}
use Rattle.array.proofs.ReportLaws.{Testing}
use Rattle.array.proofs.report.all_codewords.Given as goal

abbrev pub invariant-loop-i : goal.invariant-loop-i
invariant-loop-i l = Testing l.tables.degree l.rows l.columns l.all l.i

abbrev pub decreases-loop-i : goal.decreases-loop-i
decreases-loop-i l = l.n - l.i
