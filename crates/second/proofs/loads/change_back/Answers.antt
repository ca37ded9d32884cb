-- `loads::change_back` meets its contract. The loop's invariant: the first places have changed. Assumes nothing.
use Rattle.std.proofs.Common.{refl, rules}
use Rattle.second.specs.Working.Loads.{changed_to}
use Rattle.second.proofs.Loops.{changed_next}
use Rattle.second.proofs.loads.change_back.Goals as goal

pub loop-k-init : goal.loop-k-init
unfolding changed_to
loop-k-init c = (search rules, refl)

pub loop-k-preserved : goal.loop-k-preserved
loop-k-preserved c =
    let turn = c.loop-k in
    let s = c.args in
    (search rules, rw c.change.ensures (changed_next s.draws.now turn.k s.marks.now turn.invariant.1))
