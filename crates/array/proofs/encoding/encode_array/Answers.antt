-- `encoding::encode_array` meets its contract: what its two parts make is the encoded array, by the law of the table of units.
-- Assumes nothing.
use mathlib.Core.Path.{◌∙◌}
use Rattle.array.proofs.PackedEncoding.{by_units}
use Rattle.array.proofs.encoding.encode_array.Goals as goal

pub returns : goal.returns
returns c =
    let units = c.new-units in
    let made = rw units.ensures at units.result.made in
    let rows = rw units.ensures at c.encode_rows.ensures in
    c.write_rows.ensures ∙ by_units c.args.d _ _ _ _ _ made c.requires.0 rows c.size_of-n.ensures c.message_cells-k.ensures
