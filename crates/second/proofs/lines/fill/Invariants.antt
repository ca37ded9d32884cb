-- `lines::fill` meets its contract. The loop's invariant: the word is made of bits so far. Assumes nothing.
use Rattle.second.specs.Working.Loops.{Below}
use Rattle.second.proofs.lines.fill.Given as goal

abbrev pub invariant-loop-i : goal.invariant-loop-i
invariant-loop-i l = Below 3 l.line → Below 2 l.word
