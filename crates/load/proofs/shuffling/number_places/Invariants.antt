-- `shuffling::number_places` meets its contract. The loop's invariant: the first i places are numbered.
-- Assumes nothing.
use Rattle.std.proofs.Common.{length}
use Rattle.load.proofs.Numbering.{Numbered}
use Rattle.load.proofs.shuffling.number_places.Given as goal

abbrev pub invariant-loop-i : goal.invariant-loop-i
invariant-loop-i l = Numbered (length l.initial.places) l.places l.i
