-- `halves::send_columns` meets its contract. The loop's invariant: the first j columns, rows of the transposed array, are replaced
-- by their messages.
-- Assumes nothing.
use Rattle.array.specs.Plain.{fillings}
use Rattle.array.proofs.HalfLaws.{ColumnsAt}
use Rattle.array.proofs.halves.send_columns.Given as goal

abbrev pub invariant-loop-j : goal.invariant-loop-j
invariant-loop-j l = ColumnsAt l.tables.degree l.initial.columns l.channel (fillings l.filling) l.columns l.count l.j
