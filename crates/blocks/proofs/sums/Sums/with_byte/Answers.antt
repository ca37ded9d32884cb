-- `sums::Sums::with_byte` meets its contract.
-- Assumes nothing.
use native.Mathlib.Omega.{arith}
use Rattle.blocks.specs.Working.Adding.{added}
use Rattle.blocks.proofs.sums.Sums.with_byte.Goals as goal

pub returns : goal.returns
unfolding added
returns c = (rw c.from.ensures, omega arith)
