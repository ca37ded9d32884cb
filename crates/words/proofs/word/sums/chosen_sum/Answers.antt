-- `words::word::sums::chosen_sum` meets its contract. The loop's invariant: the sum is that of the first a words.
-- Assumes nothing.
use Rattle.laws.specs.Working.Sums.{xor_to}
use Rattle.words.specs.Working.Sums.{chosen_sum}
use Rattle.words.proofs.SumLaws.{chosen_next}
use Rattle.words.proofs.word.sums.chosen_sum.Goals as goal

pub loop-a-init : goal.loop-a-init
unfolding chosen_sum xor_to
loop-a-init c = c.zero_word-sum.ensures

pub loop-a-preserved : goal.loop-a-preserved
loop-a-preserved c =
    let l = c.loop-a in
    let i = c.args.i in
    let word = c.word-in-loop-a in
    chosen_next _ _ i _ l.a l.invariant c.word.ensures c.bit_at-bit.ensures word.ensures c.xor_where-sum.ensures
