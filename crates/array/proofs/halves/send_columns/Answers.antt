-- `halves::send_columns` meets its contract. The loop's invariant: the first j columns, rows of the transposed array, are replaced
-- by their messages.
-- Assumes nothing.
use native.Mathlib.Omega.{arith}
use Rattle.array.proofs.HalfLaws.{columns_start, columns_next, columns_end}
use Rattle.array.proofs.halves.send_columns.Goals as goal

pub loop-j-preserved : goal.loop-j-preserved
loop-j-preserved c =
    columns_next c.loop-j.invariant c.size_of-n.ensures c.loop-j-test.true c.line-y.ensures c.line-r.ensures
    (rw c.filling_word-f.ensures at c.messages_of-s.ensures) c.put.ensures

pub loop-j-init : goal.loop-j-init
loop-j-init c = columns_start _ _ _

pub returns : goal.returns
returns c = columns_end c.loop-j.invariant c.size_of-n.ensures (omega arith)
