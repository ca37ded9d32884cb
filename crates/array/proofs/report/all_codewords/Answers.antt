-- `report::all_codewords` meets its contract. The loop's invariant: `all` says whether the first i rows and columns are codewords. The
-- measure is the lines left.
-- Assumes nothing.
use mathlib.Core.Bool.{true}
use mathlib.Core.Path.{refl}
use mathlib.Core.Logic.{inl, inr}
use Rattle.array.proofs.ReportLaws.{Testing, testing_next, testing_end}
use Rattle.array.proofs.report.all_codewords.Goals as goal

pub loop-i-preserved : goal.loop-i-preserved
loop-i-preserved c =
    let so_far : Testing _ _ _ true _ = rw c.if-all.true at c.loop-i.invariant in
    testing_next so_far c.size_of-n.ensures c.loop-i-test.true c.line-row.ensures refl c.is_codeword-across.ensures c.line-column.ensures refl c.is_codeword-down.ensures

pub returns-else-all : goal.returns-else-all
returns-else-all c = testing_end c.loop-i.invariant c.size_of-n.ensures (inl c.if-all.false)

pub returns-after-loop-i : goal.returns-after-loop-i
returns-after-loop-i c = testing_end c.loop-i.invariant c.size_of-n.ensures (inr c.loop-i-test.false)
