-- `decoding::decode_by` meets its contract: the iterations start from the received array, its rows and columns packed, and the
-- report is of what they leave.
-- Assumes nothing.
use mathlib.Core.Path.{refl}
use Rattle.array.specs.Plain.{fillings}
use Rattle.array.proofs.ReportLaws.{decoded}
use Rattle.array.proofs.decoding.decode_by.Goals as goal

pub returns : goal.returns
returns c =
    let args = c.args in
    decoded args.tables.now.degree args.iterations args.received.now (fillings args.filling.now) c.copy_cells.ensures c.pack.ensures c.transpose.ensures refl c.run-count.ensures c.report_of.ensures
