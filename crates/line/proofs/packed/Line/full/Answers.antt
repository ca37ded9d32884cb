-- `Line::full` meets its contract: a word without erasures is a line.
-- Assumes nothing.
use Rattle.line.proofs.Packing.{as_line}
use Rattle.line.proofs.packed.Line.full.Goals as goal

pub returns : goal.returns
returns c = λ n ws p. as_line c.zero_word-none.ensures p
