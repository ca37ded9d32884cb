-- `words::word::not_word` meets its contract: both halves apart.
-- Assumes nothing.
use native.Mathlib.Omega.{arith}
use Rattle.words.specs.Working.Word.{value}
use Rattle.words.proofs.Halves.{not_halves}
use Rattle.words.proofs.word.not_word.Goals as goal

pub returns : goal.returns
unfolding value
returns c =
    let a = c.args.a in
    not_halves 64 64 a.high a.low (omega arith) (omega arith)
