-- `packing::PackedRows::pack` meets its contract. The loop's invariant: the first i rows are packed.
-- Assumes nothing.
use Rattle.array.proofs.PackedLaws.{Packing}
use Rattle.array.proofs.packing.PackedRows.pack.Given as goal

abbrev pub invariant-loop-i : goal.invariant-loop-i
invariant-loop-i l = Packing l.n l.cells l.self l.i
