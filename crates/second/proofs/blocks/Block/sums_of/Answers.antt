-- `blocks::Block::sums_of` meets its contract. The loop's invariant: the first bytes are summed. Assumes nothing.
use Rattle.std.proofs.Common.{refl, rules}
use Rattle.second.specs.Working.Blocks.{byte_in, sum_a, sum_b}
use Rattle.second.proofs.Loops.{sum_a_next, sum_b_next}
use Rattle.second.proofs.blocks.Block.sums_of.Goals as goal

pub loop-p-init : goal.loop-p-init
unfolding sum_a sum_b
loop-p-init c = (search rules, refl, refl, search rules, search rules)

pub loop-p-preserved : goal.loop-p-preserved
loop-p-preserved c =
    let turn = c.loop-p in
    let s = c.args in
    let byte = byte_in s.file.now s.self.number in
    (search rules, rw c.from.ensures (sum_a_next byte turn.p turn.invariant.1), rw c.from.ensures (sum_b_next byte turn.p turn.invariant.1 turn.invariant.2), search rules, search rules)
