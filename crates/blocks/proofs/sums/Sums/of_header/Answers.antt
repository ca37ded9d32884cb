-- `sums::Sums::of_header` meets its contract: four bytes, each added to A, then A to B.
-- Assumes nothing.
use native.Mathlib.Omega.{arith}
use Rattle.blocks.proofs.AddingLaws.{added_four, four_small}
use Rattle.blocks.proofs.sums.Sums.of_header.Goals as goal

pub returns : goal.returns
returns c =
    let s = c.args in
    (rw (c.from-one.ensures, c.from.ensures, c.from-2.ensures, c.from-3.ensures) (added_four s.index s.degree s.high s.low), four_small (omega arith) (omega arith) (omega arith) (omega arith))
