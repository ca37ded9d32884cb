-- `halves::column_half` meets its contract: a row half of the transposed array, transposed back.
-- Assumes nothing.
use Rattle.array.specs.Plain.{fillings}
use Rattle.array.proofs.HalfLaws.{columns_done}
use Rattle.array.proofs.halves.column_half.Goals as goal

pub returns : goal.returns
returns c =
    let args = c.args in
    columns_done args.tables.now.degree (fillings args.filling.now) c.transpose.ensures c.send_columns-count.ensures c.transpose-2.ensures c.write_rows.ensures
