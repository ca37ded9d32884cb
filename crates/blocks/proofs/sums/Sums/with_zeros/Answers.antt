-- `sums::Sums::with_zeros` meets its contract: each zero adds A to B.
-- Assumes nothing.
use mathlib.Core.Path.{sym}
use Rattle.blocks.proofs.AddingLaws.{added_zeros}
use Rattle.blocks.proofs.sums.Sums.with_zeros.Goals as goal

pub returns : goal.returns
returns c = let s = c.args in sym (added_zeros s.self.a s.self.b s.many)
