-- `loads::put_marks` meets its contract. The loop's invariant: the first marks are written. Assumes nothing.
use Rattle.std.proofs.Common.{◌≡◌, ◌≤◌}
use Rattle.second.specs.Working.Loops.{written}
use Rattle.second.specs.Working.Loads.{mark_of}
use Rattle.second.proofs.loads.put_marks.Given as goal

abbrev pub invariant-loop-p : goal.invariant-loop-p
invariant-loop-p l = (l.p ≤ 16384) × (l.marks ≡ written (λ k. k) (mark_of l.order.wrong l.order.unsure) l.p l.initial.marks)
