-- `hitting::change` meets its contract. The loop's invariant: the places from the one at hand on are left.
-- Assumes nothing.
use Rattle.std.proofs.Common.{arith}
use Rattle.load.proofs.Changing.{changing_next, changing_end}
use Rattle.load.proofs.hitting.change.Goals as goal

pub loop-place-preserved : goal.loop-place-preserved
loop-place-preserved g c =
    λ f h.
    let w = c.loop-place.invariant f h in
    let e = h _ _ c.by.ensures in
    rw (c.from-at.ensures, e, c.from-at.ensures) (changing_next w c.loop-place-test.true)

pub returns : goal.returns
returns g c = λ f h. changing_end (c.loop-place.invariant f h) (omega arith)
