-- `words::word::half_at` meets its contract: the bit is one of the low half or of the high one.
-- Assumes nothing.
use native.Mathlib.Omega.{arith}
use Rattle.words.specs.Working.Word.{value}
use Rattle.words.proofs.Halves.{bit_low, bit_high}
use Rattle.words.proofs.word.half_at.Goals as goal

pub returns-then-k-lt64 : goal.returns-then-k-lt64
unfolding value
returns-then-k-lt64 c =
    let a = c.args in
    bit_low a.a.high a.a.low a.k (omega arith) (omega arith)

pub returns-else-k-lt64 : goal.returns-else-k-lt64
unfolding value
returns-else-k-lt64 c =
    let a = c.args in
    bit_high a.a.high a.a.low a.k (omega arith) (omega arith) (omega arith)
