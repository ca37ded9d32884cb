-- `bytes::four` meets its contract: four bytes joined, each in a byte of its own.
-- Assumes nothing.
use native.Mathlib.Omega.{arith}
use Rattle.words.proofs.ByteLaws.{joined_four}
use Rattle.words.proofs.bytes.four.Goals as goal

pub returns : goal.returns
returns c =
    let e = joined_four c.args.bytes.now c.args.at c.requires in
    (omega arith, omega arith)
