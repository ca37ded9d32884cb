-- `Line::unpack` meets its contract: the two words say the cells that they pack.
-- Assumes nothing.
use mathlib.Core.Path.{◌∙◌}
use Rattle.line.proofs.Packing.{unpack_pair}
use Rattle.line.proofs.packed.Line.unpack.Goals as goal

pub returns : goal.returns
returns c =
    let p = c.spread_pair in
    (p.auto.bytes, λ cs h. p.ensures ∙ unpack_pair h)
