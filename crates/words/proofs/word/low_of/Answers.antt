-- `words::word::low_of` meets its contract: the digits of that half.
-- Assumes nothing.
use mathlib.Core.Path.{sym}
use native.Mathlib.Omega.{arith}
use lib.Pow.{low}
use Rattle.words.specs.Working.Word.{value}
use Rattle.words.proofs.word.low_of.Goals as goal

pub returns : goal.returns
unfolding value
returns c =
    let a = c.args.a in
    sym (low a.high 64 (omega arith))
