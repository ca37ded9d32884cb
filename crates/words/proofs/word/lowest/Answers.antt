-- `words::word::lowest` meets its contract: the lowest of the low half, or where that is 0 of the high one.
-- Assumes nothing.
use native.Mathlib.Omega.{arith}
use Rattle.words.proofs.Halves.{halves_lt, lowest_high, lowest_low}
use Rattle.words.specs.Working.Word.{value}
use Rattle.words.proofs.word.lowest.Goals as goal

pub returns-then-a-eq0 : goal.returns-then-a-eq0
unfolding value
returns-then-a-eq0 c =
    let a = c.args.a in
    let l = lowest_high a.high a.low c.requires c.if-a-eq0.true (omega arith) in
    (l.0, l.1, halves_lt 64 64 a.high a.low (omega arith) (omega arith))

pub returns-else-a-eq0 : goal.returns-else-a-eq0
unfolding value
returns-else-a-eq0 c =
    let a = c.args.a in
    let l = lowest_low a.high a.low c.if-a-eq0.false (omega arith) in
    (l.0, l.1, halves_lt 64 64 a.high a.low (omega arith) (omega arith))
