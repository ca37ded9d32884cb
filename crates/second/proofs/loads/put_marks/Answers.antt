-- `loads::put_marks` meets its contract. The loop's invariant: the first marks are written. Assumes nothing.
use Rattle.std.proofs.Common.{refl, rules}
use Rattle.second.specs.Working.Loops.{written}
use Rattle.second.specs.Working.Loads.{mark_of}
use Rattle.second.proofs.Loops.{written_next}
use Rattle.second.proofs.loads.put_marks.Goals as goal

pub loop-p-init : goal.loop-p-init
unfolding written
loop-p-init c = (search rules, refl)

pub loop-p-preserved : goal.loop-p-preserved
loop-p-preserved c =
    let turn = c.loop-p in
    let s = c.args in
    (search rules, rw c.mark_of.ensures (written_next (λ k. k) (mark_of s.order.wrong s.order.unsure) turn.p s.marks.now turn.invariant.1))
