-- `codewords::Decoder::bad_lines` meets its contract. The loop's invariant: the first lines are counted. Assumes nothing.
use Rattle.std.proofs.Common.{refl, rules}
use Rattle.laws.specs.Sums.{sum_to}
use Rattle.second.specs.Working.Arrays.{is_bad}
use Rattle.second.proofs.Loops.{sum_next}
use Rattle.second.proofs.codewords.Decoder.bad_lines.Goals as goal

pub loop-i-init : goal.loop-i-init
unfolding sum_to
loop-i-init c = (search rules, refl, search rules)

pub loop-i-preserved : goal.loop-i-preserved
loop-i-preserved c =
    let turn = c.loop-i in
    let s = c.args in
    (search rules, rw (c.one_if-bad.ensures.0, c.syndrome-sum.ensures, c.take_line.ensures) (sum_next (is_bad s.self.now.code.n s.first s.self.now.weights s.cells.now) turn.i turn.invariant.1), search rules)
