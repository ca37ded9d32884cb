-- `halves::row_half` meets its contract. The loop's invariant: the first i rows are replaced by their messages, and packed.
-- Assumes nothing.
use native.Mathlib.Omega.{arith}
use Rattle.array.proofs.HalfLaws.{rows_start, rows_next, rows_end}
use Rattle.array.proofs.halves.row_half.Goals as goal

pub loop-i-preserved : goal.loop-i-preserved
loop-i-preserved c =
    rows_next c.loop-i.invariant c.size_of-n.ensures c.loop-i-test.true c.line-y.ensures c.line-r.ensures
    (rw c.filling_word-f.ensures at c.send_row-s.ensures) c.put.ensures

pub loop-i-init : goal.loop-i-init
loop-i-init c = rows_start _ _ _ _ c.requires.0

pub returns : goal.returns
returns c = rows_end c.loop-i.invariant c.size_of-n.ensures (omega arith)
