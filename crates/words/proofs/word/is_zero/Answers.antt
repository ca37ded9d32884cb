-- `words::word::is_zero` meets its contract: both halves are 0.
-- Assumes nothing.
use native.Mathlib.Omega.{arith}
use Rattle.words.proofs.Halves.{same_halves}
use Rattle.words.specs.Working.Word.{value}
use Rattle.words.proofs.word.is_zero.Goals as goal

pub returns : goal.returns
unfolding value
returns c =
    let a = c.args in
    same_halves a.a.high a.a.low 0 0 (omega arith) (omega arith)
