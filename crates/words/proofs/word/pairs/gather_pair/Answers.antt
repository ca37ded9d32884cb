-- `words::word::pairs::gather_pair` meets its contract: the low numbers have the bits of the first 64 bytes, the high ones those behind them.
-- Assumes nothing.
use Rattle.words.proofs.PairLaws.{gathered_both}
use Rattle.words.proofs.word.pairs.gather_pair.Goals as goal

pub returns : goal.returns
returns c =
    let cut = c.cut_of-cut.ensures in
    let low = c.gather_part-low_first.ensures in
    let high = c.gather_part-high_first.ensures in (
      gathered_both _ _ cut.0 c.requires.1 cut.2 0 _ low.0 high.0 c.of_numbers.ensures,
      gathered_both _ _ cut.0 c.requires.1 cut.2 1 _ low.1 high.1 c.of_numbers-2.ensures,
    )
