-- `tables::put_weights` meets its contract: a turn puts one weight more, and past the last cell nothing is put.
-- Assumes nothing.
use mathlib.Core.Path.{◌≡◌}
use Prim.Native.Nat.{◌<◌}
use borrow.Author.Rules.{rules}
use native.Mathlib.Omega.{arith}
use lib.ListN.{length}
use Rattle.degree.specs.Degree as degree
use Rattle.field.proofs.Primitive.{primitive}
use Rattle.field.proofs.Filling.{weights_next, weights_done, cube_next, powers_small}
use Rattle.field.proofs.tables.put_weights.Goals as goal

pub overflow_add-weights : goal.overflow_add-weights
overflow_add-weights c =
    let l = c.loop-i in
    omega (arith, powers_small c.args.d c.powers_of-powers.result.now c.powers_of-powers.ensures l.cube l.invariant.0)

pub overflow_mul-weights : goal.overflow_mul-weights
overflow_mul-weights c =
    let l = c.loop-i in
    omega (arith, powers_small c.args.d c.powers_of-powers.result.now c.powers_of-powers.ensures l.cube l.invariant.0)

pub overflow_add-weights-in-loop-i : goal.overflow_add-weights-in-loop-i
overflow_add-weights-in-loop-i c =
    let l = c.loop-i in
    let h : l.i < degree.order c.args.d = omega (arith, c.powers_of-powers.ensures.long) in
    let at = powers_small c.args.d c.powers_of-powers.result.now c.powers_of-powers.ensures in
    omega (arith, at l.i h, at l.cube l.invariant.0)

pub loop-i-preserved : goal.loop-i-preserved
loop-i-preserved c =
    let l = c.loop-i in
    let h : l.i < degree.order c.args.d = omega (arith, c.powers_of-powers.ensures.long) in
    let long : length l.weights ≡ 128 = search rules in (
      c.reduced-cube.ensures.0,
      cube_next c.args.d l.i l.cube c.reduced-cube.result l.invariant.1 c.reduced-cube.ensures.1,
      weights_next c.args.d c.powers_of-powers.result.now l.weights l.i l.cube c.powers_of-powers.ensures h (omega (arith, (primitive c.args.d).room)) l.invariant.0 l.invariant.1 l.invariant.2,
    )

pub returns : goal.returns
returns c =
    let l = c.loop-i in
    let z : l.i ≡ degree.order c.args.d = omega (arith, c.powers_of-powers.ensures.long) in
    let long : length l.weights ≡ 128 = search rules in
    rw c.powers_of-powers.ensures.long (weights_done c.args.d l.weights (omega (arith, (primitive c.args.d).room)) (rw z at l.invariant.2))
