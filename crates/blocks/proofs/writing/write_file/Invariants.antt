-- `writing::write_file` meets its contract. The loop's invariant: the first blocks are written, all behind them is as it was.
-- Assumes nothing.
use Rattle.array.proofs.WrittenLines.{Lining}
use Rattle.blocks.specs.Blocks.{block_of}
use Rattle.blocks.proofs.writing.write_file.Given as goal

abbrev pub invariant-loop-block : goal.invariant-loop-block
invariant-loop-block l = Lining 512 (λ b. block_of b l.number l.cells) 3 l.initial.file l.file l.block
