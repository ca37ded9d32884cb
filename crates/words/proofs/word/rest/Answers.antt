-- `words::word::rest` meets its contract: the half that holds the lowest set digit loses it.
-- Assumes nothing.
use native.Mathlib.Omega.{arith}
use Rattle.words.proofs.Halves.{some_high, rest_high, rest_low}
use Rattle.words.specs.Working.Word.{value}
use Rattle.words.proofs.word.rest.Goals as goal

pub overflow_sub-result : goal.overflow_sub-result
unfolding value
overflow_sub-result c =
    let a = c.args.a in
    omega (arith, some_high a.high a.low c.requires c.if-a-eq0.true)

pub returns-then-a-eq0 : goal.returns-then-a-eq0
unfolding value
returns-then-a-eq0 c =
    let a = c.args.a in
    rest_high a.high a.low c.requires c.if-a-eq0.true

pub returns-else-a-eq0 : goal.returns-else-a-eq0
unfolding value
returns-else-a-eq0 c =
    let a = c.args.a in
    rest_low a.high a.low c.if-a-eq0.false (omega arith)
