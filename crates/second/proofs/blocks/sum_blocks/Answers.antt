-- `blocks::sum_blocks` meets its contract. The loop's invariant: the first blocks have their sums. Assumes nothing.
use Rattle.std.proofs.Common.{refl, rules}
use Rattle.second.specs.Working.Blocks.{summed}
use Rattle.second.proofs.Loops.{summed_next}
use Rattle.second.proofs.blocks.sum_blocks.Goals as goal

pub loop-number-init : goal.loop-number-init
unfolding summed
loop-number-init c = (search rules, refl, refl)

pub loop-number-preserved : goal.loop-number-preserved
loop-number-preserved c =
    let turn = c.loop-number in
    (search rules, rw c.put_sums.ensures (summed_next turn.number c.args.file.now turn.invariant.1), search rules)
