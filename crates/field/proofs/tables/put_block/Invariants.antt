-- `tables::put_block` meets its contract: a turn doubles what is made, by the weight of one bit more.
-- Assumes nothing.
use mathlib.Core.Path.{◌≡◌}
use Prim.Native.Nat.{◌+◌, ◌^◌}
use lib.ListN.{length}
use Rattle.field.specs.Working.Building.{Block}
use Rattle.field.proofs.tables.put_block.Given as goal

abbrev pub invariant-loop-weight : goal.invariant-loop-weight
invariant-loop-weight l = (l.size ≡ 2 ^ l.weight-index) × (length l.block ≡ 256) × Block l.weights l.size l.block

abbrev pub invariant-loop-x : goal.invariant-loop-x
invariant-loop-x l = (length l.block ≡ 256) × Block l.weights (l.size + l.x) l.block
