-- `words::word::sums::chosen_sum` meets its contract. The loop's invariant: the sum is that of the first a words.
-- Assumes nothing.
use mathlib.Core.Path.{◌≡◌}
use Rattle.words.specs.Working.Sums.{chosen_sum}
use Rattle.words.specs.Working.Word.{value}
use Rattle.words.proofs.word.sums.chosen_sum.Given as goal

abbrev pub invariant-loop-a : goal.invariant-loop-a
invariant-loop-a l = value l.sum ≡ chosen_sum l.table l.words l.a l.i
