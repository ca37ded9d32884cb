-- `shuffling::shuffle` meets its contract. The loop's invariant: the places below i are to be exchanged yet.
-- Assumes nothing.
use Rattle.load.proofs.ShuffleLoop.{Shuffling}
use Rattle.load.proofs.shuffling.shuffle.Given as goal

abbrev pub invariant-loop-i : goal.invariant-loop-i
invariant-loop-i l = Shuffling l.seed l.initial.places l.places l.state.s l.state.w l.i
