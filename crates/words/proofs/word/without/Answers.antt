-- `words::word::without` meets its contract: both halves apart.
-- Assumes nothing.
use native.Mathlib.Omega.{arith}
use Rattle.words.proofs.Halves.{without_halves}
use Rattle.words.specs.Working.Word.{value}
use Rattle.words.proofs.word.without.Goals as goal

pub returns : goal.returns
unfolding value
returns c =
    let a = c.args in
    without_halves a.a.high a.a.low a.b.high a.b.low (omega arith) (omega arith)
