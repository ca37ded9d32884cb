-- `words::word::high_of` meets its contract: the digits of that half.
-- Assumes nothing.
use mathlib.Core.Path.{sym}
use native.Mathlib.Omega.{arith}
use lib.Pow.{high}
use Rattle.words.specs.Working.Word.{value}
use Rattle.words.proofs.word.high_of.Goals as goal

pub returns : goal.returns
unfolding value
returns c =
    let a = c.args.a in
    sym (high a.high 64 (omega arith))
