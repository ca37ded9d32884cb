-- `report::report_of` meets its contract: with an unsure cell the array is open, without it is closed where its rows and columns are
-- codewords.
-- Assumes nothing.
use Rattle.array.proofs.ReportLaws.{told_open, told_full}
use Rattle.array.proofs.report.report_of.Goals as goal

pub returns-then-left-eq0 : goal.returns-then-left-eq0
returns-then-left-eq0 c =
    told_full c.args.tables.now.degree c.count_erased-left.ensures c.if-left-eq0.true c.transpose.ensures c.all_codewords-all.ensures

pub returns-else-left-eq0 : goal.returns-else-left-eq0
returns-else-left-eq0 c = told_open c.args.tables.now.degree c.count_erased-left.ensures c.if-left-eq0.false
