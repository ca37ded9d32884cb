-- `lines::differences` meets its contract. The loop's invariant: the first cells are compared. Assumes nothing.
use Rattle.std.proofs.Common.{◌≡◌, ◌≤◌, take, zip, count_by}
use Rattle.second.proofs.Loops.{differs}
use Rattle.second.proofs.lines.differences.Given as goal

abbrev pub invariant-loop-i : goal.invariant-loop-i
invariant-loop-i l = (l.many ≡ count_by differs (take l.i (zip l.line l.word))) × (l.many ≤ l.i)
