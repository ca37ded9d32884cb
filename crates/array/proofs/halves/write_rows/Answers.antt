-- `halves::write_rows` meets its contract. The loop's invariant: the first i rows hold the new lines, the others what they held.
--
-- Assumes nothing.
use native.Mathlib.Omega.{arith}
use Rattle.array.proofs.HalfLaws.{writing_start, writing_next, writing_end}
use Rattle.array.proofs.halves.write_rows.Goals as goal

pub loop-i-init : goal.loop-i-init
loop-i-init c = writing_start _ _ _ c.size_of-n.ensures c.requires

pub loop-i-preserved : goal.loop-i-preserved
loop-i-preserved c =
    writing_next c.loop-i.invariant c.loop-i-test.true c.line-was.ensures c.line-new.ensures c.update_row.ensures

pub returns : goal.returns
returns c = writing_end c.loop-i.invariant c.size_of-n.ensures (omega arith)
