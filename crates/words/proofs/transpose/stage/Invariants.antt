-- `transpose::stage` meets its contract. The loop's invariant: the first q blocks are done. By the mask's test the blocks' words are
-- the stage bit by bit.
-- Assumes nothing.
use Rattle.words.proofs.SwapLaws.{Staged}
use Rattle.words.proofs.transpose.stage.Given as goal

abbrev pub invariant-loop-q : goal.invariant-loop-q
invariant-loop-q l = Staged l.j l.m l.q l.initial.a l.a
