-- `words::word::and_words` meets its contract: both halves apart.
-- Assumes nothing.
use mathlib.Core.Path.{sym}
use native.Mathlib.Omega.{arith}
use lib.Bits.{and_block}
use Rattle.words.specs.Working.Word.{value}
use Rattle.words.proofs.word.and_words.Goals as goal

pub returns : goal.returns
unfolding value
returns c =
    let a = c.args in
    sym (and_block 64 a.a.high a.b.high a.a.low a.b.low (omega arith) (omega arith))
