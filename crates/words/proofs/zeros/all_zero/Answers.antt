-- `zeros::all_zero` meets its contract. The loop's invariant: the words so far, joined, are 0 where each is.
-- Assumes nothing.
use Rattle.words.proofs.ZeroLaws.{zeros_next}
use Rattle.words.proofs.zeros.all_zero.Goals as goal

pub loop-word-preserved : goal.loop-word-preserved
loop-word-preserved c = zeros_next c.args.words.now c.loop-word.word-index c.loop-word.any c.loop-word.invariant
