-- `words::word::single` meets its contract: the bit is one of the low half or of the high one.
-- Assumes nothing.
use native.Mathlib.Omega.{arith}
use Rattle.words.proofs.Halves.{single_low, single_high}
use Rattle.words.specs.Working.Word.{value}
use Rattle.words.proofs.word.single.Goals as goal

pub returns-then-k-lt64 : goal.returns-then-k-lt64
unfolding value
returns-then-k-lt64 c = single_low c.args.x c.args.k (omega arith) (omega arith)

pub returns-else-k-lt64 : goal.returns-else-k-lt64
unfolding value
returns-else-k-lt64 c = single_high c.args.x c.args.k (omega arith) (omega arith) (omega arith)
