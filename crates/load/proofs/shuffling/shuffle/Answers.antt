-- `shuffling::shuffle` meets its contract. The loop's invariant: the places below i are to be exchanged yet.
-- Assumes nothing.
use Rattle.std.proofs.Common.{◌-◌, refl, arith}
use Rattle.std.proofs.lemmas.List.Edits.{swap_is}
use Rattle.load.specs.Load.{exchanged}
use Rattle.load.proofs.ShuffleLoop.{shuffling_room, shuffling_next, shuffling_end}
use Rattle.load.proofs.shuffling.shuffle.Goals as goal

pub loop-i-preserved : goal.loop-i-preserved
unfolding exchanged
loop-i-preserved c =
    let w = c.loop-i.invariant in
    let i = c.loop-i.i - 1 in
    let r = shuffling_room w i _ _ (omega arith) c.partner.ensures in
    rw (c.swap.ensures.after, ← swap_is c.loop-i.places i c.partner.result 0 r.0 r.1)
    (shuffling_next w c.loop-i-test.true refl c.next-state.ensures.0 c.next-state.ensures.1 c.drawn.ensures c.partner.ensures)

pub returns : goal.returns
returns c = shuffling_end c.loop-i.invariant (omega arith)
