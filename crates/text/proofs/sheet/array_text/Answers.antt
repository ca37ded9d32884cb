-- `sheet::array_text` meets its contract: the cells are read, decoded and printed.
-- Assumes nothing.
use mathlib.Core.Path.{◌∙◌}
use Rattle.text.proofs.SheetLaws.{cells_array, report_is}
use Rattle.text.proofs.sheet.array_text.Goals as goal

pub decoded-report-requires : goal.decoded-report-requires
decoded-report-requires c =
    let e = c.size_of-n.ensures in
    (rw (c.read_cells.ensures, e) (cells_array _ _ c.requires.0), c.requires.2)

pub returns : goal.returns
returns c =
    c.put_report.ensures ∙ report_is c.args.d c.args.text.now c.size_of-n.ensures c.read_cells.ensures c.decoded-report.ensures
