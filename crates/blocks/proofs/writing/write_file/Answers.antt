-- `writing::write_file` meets its contract. The loop's invariant: the first blocks are written, all behind them is as it was.
-- Assumes nothing.
use native.Mathlib.Omega.{arith}
use Rattle.array.proofs.WrittenLines.{lining_start, lining_put, lining_all}
use Rattle.blocks.specs.Blocks.{file_of}
use Rattle.blocks.proofs.FileLaws.{block_length}
use Rattle.blocks.proofs.writing.write_file.Goals as goal

pub loop-block-init : goal.loop-block-init
loop-block-init c = lining_start (λ b h. block_length b _ _) (omega (arith, c.requires.1))

pub loop-block-preserved : goal.loop-block-preserved
loop-block-preserved c =
    lining_put c.loop-block.invariant c.loop-block-test.true _ c.write_block.ensures

pub returns : goal.returns
unfolding file_of
returns c = lining_all c.loop-block.invariant c.requires.1 (omega arith)
