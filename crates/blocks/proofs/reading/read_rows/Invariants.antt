-- `reading::read_rows` meets its contract. The loop's invariant: the first i bytes are added and put apart.
-- Assumes nothing.
use Rattle.blocks.proofs.Passing.{Summing, PuttingApart}
use Rattle.blocks.proofs.reading.read_rows.Given as goal

abbrev pub invariant-loop-i : goal.invariant-loop-i
invariant-loop-i l = Summing l.bytes l.initial.so_far l.so_far l.i × PuttingApart l.bytes l.initial.cells l.cells l.i
