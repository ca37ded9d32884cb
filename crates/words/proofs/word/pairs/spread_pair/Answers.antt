-- `words::word::pairs::spread_pair` meets its contract: the low numbers say the first 64 bytes, the high ones those behind them.
-- Assumes nothing.
use Rattle.words.proofs.PairLaws.{spread_both}
use Rattle.words.proofs.word.pairs.spread_pair.Goals as goal

pub returns : goal.returns
returns c =
    let cut = c.cut_of-cut.ensures in
    let one = c.spread_part in
    let two = c.spread_part-2 in
    spread_both _ _ one.new.bytes two.new.bytes cut.0 c.requires cut.2 one.auto.bytes _ _ cut.1 c.low_of.ensures c.low_of-2.ensures c.high_of.ensures c.high_of-2.ensures one.ensures two.ensures
