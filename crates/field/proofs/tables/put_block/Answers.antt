-- `tables::put_block` meets its contract: a turn doubles what is made, by the weight of one bit more.
-- Assumes nothing.
use mathlib.Core.Path.{refl}
use Prim.Native.Nat.{◌<◌}
use native.Mathlib.Omega.{arith}
use lib.ListN.{length-set}
use Rattle.field.proofs.Filling.{block_start, block_next, double_room}
use Rattle.field.proofs.tables.put_block.Goals as goal

pub loop-weight-init : goal.loop-weight-init
loop-weight-init c = (refl, simp length-set c.requires.1, block_start c.args.weights.now c.args.block.now (omega (arith, c.requires.1)))

pub loop-x-preserved : goal.loop-x-preserved
loop-x-preserved c =
    let w = c.loop-weight in
    let l = c.loop-x in
    let bit : w.weight-index < 8 = omega (arith, c.requires.0) in
    let room = double_room w.weight-index w.size bit w.invariant.0 in (
      simp length-set l.invariant.0,
      block_next c.args.weights.now l.block w.weight-index w.size l.x bit w.invariant.0 (omega arith) (omega arith) l.invariant.1,
    )
