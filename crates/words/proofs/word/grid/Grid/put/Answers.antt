-- `words::word::grid::Grid::put` meets its contract: both numbers of the word are written.
-- Assumes nothing.
use mathlib.Core.Path.{ap}
use borrow.Author.Rules.{rules}
use lib.ListN.{set}
use Rattle.words.proofs.GridLaws.{word_put}
use Rattle.words.proofs.word.grid.Grid.put.Goals as goal

pub returns : goal.returns
returns c =
    let g = c.args.self.now in
    word_put g _ c.args.i _ (search rules) (search rules) (ap (set g.low c.args.i) c.low_of.ensures) (ap (set g.high c.args.i) c.high_of.ensures)
