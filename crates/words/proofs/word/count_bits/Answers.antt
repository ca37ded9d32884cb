-- `words::word::count_bits` meets its contract: the set digits of both halves.
-- Assumes nothing.
use native.Mathlib.Omega.{arith}
use Rattle.words.proofs.Halves.{count_low, count_both}
use Rattle.words.specs.Working.Word.{value}
use Rattle.words.proofs.word.count_bits.Goals as goal

pub returns-then-a-eq0 : goal.returns-then-a-eq0
unfolding value
returns-then-a-eq0 c =
    let a = c.args.a in
    count_low a.high a.low (omega arith) c.if-a-eq0.true

pub returns-else-a-eq0 : goal.returns-else-a-eq0
unfolding value
returns-else-a-eq0 c =
    let a = c.args.a in
    count_both a.high a.low (omega arith) (omega arith)
