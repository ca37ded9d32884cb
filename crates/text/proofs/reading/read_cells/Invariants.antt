-- `reading::read_cells` meets its contract. The loop's invariant: the cells of the first i lines are written.
-- Assumes nothing.
use Prim.Native.Nat.{◌+◌, ◌*◌}
use mathlib.Core.List.{map}
use lib.ListN.{take, drop}
use Rattle.text.specs.Text.{cell_of}
use Rattle.array.proofs.WrittenLines.{Lining}
use Rattle.text.proofs.reading.read_cells.Given as goal

abbrev pub invariant-loop-i : goal.invariant-loop-i
invariant-loop-i l = Lining l.n (λ i. map cell_of (take l.n (drop (i * (l.n + 1)) l.text))) l.n l.initial.cells l.cells l.i
