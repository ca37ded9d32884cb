-- `encoding::encode_rows` meets its contract. The loop's invariant: the first a words are those of the first a message rows.
-- Assumes nothing.
use Rattle.array.proofs.Loops.{Encoding}
use Rattle.array.proofs.encoding.encode_rows.Given as goal

abbrev pub invariant-loop-a : goal.invariant-loop-a
invariant-loop-a l = Encoding l.units.degree l.k l.message l.words l.a
