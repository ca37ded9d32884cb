-- `zeros::all_zero` meets its contract. The loop's invariant: the words so far, joined, are 0 where each is.
-- Assumes nothing.
use mathlib.Core.Path.{◌≡◌}
use lib.Dec.{eqb}
use Rattle.words.proofs.ZeroLaws.{are_zero}
use Rattle.words.proofs.zeros.all_zero.Given as goal

abbrev pub invariant-loop-word : goal.invariant-loop-word
invariant-loop-word l = eqb l.any 0 ≡ are_zero l.words l.word-index
