-- `bytes::spread` meets its contract: the steps, tested on all bytes, move eight bits apart.
-- Assumes nothing.
use Rattle.words.proofs.GatherLaws.{spread_out, spread_bits, spread_le}
use Rattle.words.proofs.bytes.spread.Goals as goal

pub returns : goal.returns
unfolding spread_out
returns c =
    let e = spread_bits c.args.x c.requires in
    (e, rw e (spread_le c.args.x))
