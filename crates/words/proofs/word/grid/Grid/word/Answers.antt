-- `words::word::grid::Grid::word` meets its contract: both numbers of the word are read.
-- Assumes nothing.
use Rattle.words.specs.Working.Grid.{word_in}
use Rattle.words.proofs.word.grid.Grid.word.Goals as goal

pub returns : goal.returns
unfolding word_in
returns c = c.of_numbers.ensures
