-- `tables::put_logs` meets its contract: no two powers are equal, so no entry is put twice.
-- Assumes nothing.
use mathlib.Core.Path.{◌≡◌}
use Prim.Native.Nat.{◌<◌}
use borrow.Author.Rules.{rules}
use native.Mathlib.Omega.{arith}
use lib.ListN.{length}
use Rattle.degree.specs.Degree as degree
use Rattle.field.proofs.Filling.{logs_next, powers_small}
use Rattle.field.proofs.tables.put_logs.Goals as goal

pub bounds-logs-power : goal.bounds-logs-power
bounds-logs-power c =
    powers_small c.args.d c.powers_of-powers.result.now c.powers_of-powers.ensures c.loop-i.i (omega (arith, c.powers_of-powers.ensures.long))

pub loop-i-preserved : goal.loop-i-preserved
loop-i-preserved c =
    let l = c.loop-i in
    let h : l.i < degree.order c.args.d = omega (arith, c.powers_of-powers.ensures.long) in
    let long : length l.logs ≡ 128 = search rules in
    logs_next c.args.d c.powers_of-powers.result.now l.logs l.i c.powers_of-powers.ensures h (omega (arith, powers_small c.args.d c.powers_of-powers.result.now c.powers_of-powers.ensures l.i h)) l.invariant
