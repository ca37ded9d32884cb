-- `Line::pack` meets its contract: the two lowest bits of a cell say what it is.
-- Assumes nothing.
use Rattle.line.proofs.Packing.{pack_pair}
use Rattle.line.proofs.packed.Line.pack.Goals as goal

pub returns : goal.returns
returns c =
    let bits = c.gather_pair.ensures in
    pack_pair c.args.cells.now c.requires.0 c.requires.2 bits.0 bits.1
