-- `codes::Code::unsure_in` meets its contract. The loop's invariant: the cells of the first rows are counted. Assumes nothing.
use Rattle.std.proofs.Common.{refl, rules}
use Rattle.laws.specs.Sums.{sum_to}
use Rattle.second.specs.Working.Arrays.{unsure_of}
use Rattle.second.proofs.Loops.{sum_next}
use Rattle.second.proofs.codes.Code.unsure_in.Goals as goal

pub loop-i-init : goal.loop-i-init
unfolding sum_to
loop-i-init c = (search rules, refl, search rules)

pub loop-i-preserved : goal.loop-i-preserved
loop-i-preserved c =
    let turn = c.loop-i in
    let s = c.args in
    (search rules, rw (c.unsure-many.ensures.0, c.take_line.ensures) (sum_next (unsure_of s.self.n s.cells.now) turn.i turn.invariant.1), search rules)
