-- `blocks::put_bytes` meets its contract. The loop's invariant: the first bytes are written. Assumes nothing.
use Rattle.std.proofs.Common.{◌/◌, ◌%◌, refl, rules}
use Rattle.second.specs.Working.Loops.{written}
use Rattle.second.specs.Working.Blocks.{block_byte}
use Rattle.second.proofs.Loops.{written_next}
use Rattle.second.proofs.blocks.put_bytes.Goals as goal

pub loop-at-init : goal.loop-at-init
unfolding written
loop-at-init c = (search rules, refl, refl)

pub loop-at-preserved : goal.loop-at-preserved
loop-at-preserved c =
    let turn = c.loop-at in
    let s = c.args in
    (search rules, rw c.byte.ensures (written_next (λ k. k) (λ k. block_byte s.number s.cells.now (k / 512) (k % 512)) turn.at s.file.now turn.invariant.1), search rules)
