-- `writing::write_rows` meets its contract. The loop's invariant: the first i bytes are written and added.
-- Assumes nothing.
use lib.ListN.{length}
use Rattle.blocks.specs.Blocks.{packed}
use Rattle.blocks.proofs.Passing.{Summing, Putting}
use Rattle.blocks.proofs.writing.write_rows.Given as goal

abbrev pub invariant-loop-i : goal.invariant-loop-i
invariant-loop-i l = Summing (packed (length l.initial.bytes) l.cells) l.initial.so_far l.so_far l.i × Putting (packed (length l.initial.bytes) l.cells) l.initial.bytes l.bytes l.i
