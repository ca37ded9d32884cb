-- `cells::four_cells` meets its contract: the steps, tested on all bytes, put the cells apart.
-- Assumes nothing.
use native.Mathlib.Omega.{arith}
use Rattle.blocks.proofs.PackedCells.{spread_out, spread_cells}
use Prim.Native.Nat.{◌<◌}
use Rattle.blocks.proofs.cells.four_cells.Goals as goal

pub returns : goal.returns
unfolding spread_out
returns c = let h : c.args.byte < 256 = omega arith in (spread_cells c.args.byte h, h)
