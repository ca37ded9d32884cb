-- `tables::put_sums` meets its contract: a turn makes one block more.
-- Assumes nothing.
use mathlib.Core.Path.{◌≡◌}
use borrow.Author.Rules.{rules}
use native.Mathlib.Omega.{arith}
use Prim.Native.Nat.{◌/◌}
use lib.ListN.{length}
use Rattle.degree.specs.Degree.{size}
use Rattle.field.proofs.Filling.{sums_next, sums_done}
use Rattle.field.proofs.Primitive.{primitive}
use Rattle.field.proofs.tables.put_sums.Goals as goal

pub loop-j-preserved : goal.loop-j-preserved
loop-j-preserved c =
    let l = c.loop-j in
    let long : length l.sums ≡ 4096 = search rules in
    let room = (primitive c.args.d).room in
    sums_next c.args.weights.now l.sums c.put_block.new.block l.j _ _ (omega arith) (omega arith) (omega (arith, c.size_of-j-end.ensures)) (search rules) c.put_block.ensures l.invariant

pub returns : goal.returns
returns c =
    let l = c.loop-j in
    let z : l.j ≡ size c.args.d / 8 = omega (arith, c.size_of-j-end.ensures) in
    sums_done c.args.d c.args.weights.now l.sums c.requires.0 (rw z at l.invariant)
