-- `lines::like` meets its contract. The loop's invariant: the first cells are counted. Assumes nothing.
use Rattle.std.proofs.Common.{◌≡◌, ◌≤◌, take}
use Rattle.second.specs.Working.Lines.{like}
use Rattle.second.proofs.lines.like.Given as goal

abbrev pub invariant-loop-other : goal.invariant-loop-other
invariant-loop-other l = (l.many ≡ like l.cell (take l.other-index l.cells)) × (l.many ≤ l.other-index)
