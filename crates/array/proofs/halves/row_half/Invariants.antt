-- `halves::row_half` meets its contract. The loop's invariant: the first i rows are replaced by their messages, and packed.
-- Assumes nothing.
use Rattle.array.specs.Plain.{fillings}
use Rattle.array.proofs.HalfLaws.{RowsAt}
use Rattle.array.proofs.halves.row_half.Given as goal

abbrev pub invariant-loop-i : goal.invariant-loop-i
invariant-loop-i l = RowsAt l.tables.degree l.initial.cells l.initial.rows l.channel (fillings l.filling) l.cells l.rows l.count l.i
