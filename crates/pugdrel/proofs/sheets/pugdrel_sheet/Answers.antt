-- `sheets::pugdrel_sheet` meets its contract: the text is written where there is room for it and for its length.
-- Assumes nothing.
use Rattle.pugdrel.proofs.SheetTelling.{sheet_taken, sheet_refused}
use Rattle.pugdrel.proofs.sheets.pugdrel_sheet.Goals as goal

pub returns-then-output-report : goal.returns-then-output-report
returns-then-output-report c =
    let s = c.args in
    sheet_taken s.input.now s.output.now s.report.now c.if-output-report.true c.text_into-long.ensures c.tell.ensures

pub returns-else-output-report : goal.returns-else-output-report
returns-else-output-report c =
    let s = c.args in
    rw c.from.ensures (sheet_refused s.input.now s.output.now s.report.now c.if-output-report.false c.tell-else-output-report.ensures)
