-- `transpose::swap_block` meets its contract. The loop's invariant: the first i pairs of rows have exchanged bits.
-- Assumes nothing.
use Rattle.words.specs.Working.Network.{Swapped}
use Rattle.words.proofs.transpose.swap_block.Given as goal

abbrev pub invariant-loop-i : goal.invariant-loop-i
invariant-loop-i l = Swapped l.j l.m l.g l.i l.initial.a l.a
