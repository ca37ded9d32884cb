-- `line::packed::word_cell` meets its contract: bit k of a packed word is its cell k.
-- Assumes nothing.
use mathlib.Core.Path.{◌∙◌}
use Rattle.laws.proofs.Bits.{bit_at_lt}
use Rattle.words.specs.Working.Word.{value}
use Rattle.line.proofs.Packing.{bit_of_word}
use Rattle.line.proofs.packed.word_cell.Goals as goal

pub returns : goal.returns
returns c = (rw c.bit_at.ensures (bit_at_lt (value c.args.word) c.args.k.number), λ n ws p. c.bit_at.ensures ∙ bit_of_word c.args.k.number p)
