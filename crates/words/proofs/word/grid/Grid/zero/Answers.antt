-- `words::word::grid::Grid::zero` meets its contract: both numbers of each word are 0.
-- Assumes nothing.
use Rattle.laws.proofs.Lists.{zeros_at}
use Rattle.words.specs.Working.Grid.{word_in}
use Rattle.words.proofs.word.grid.Grid.zero.Goals as goal

pub returns : goal.returns
unfolding word_in
returns c = λ i. rw (zeros_at 128 i)
