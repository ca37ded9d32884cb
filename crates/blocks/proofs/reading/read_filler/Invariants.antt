-- `reading::read_filler` meets its contract. The loop's invariant: the bytes passed are added, and tested.
-- Assumes nothing.
use mathlib.Core.Path.{◌≡◌}
use lib.ListN.{take}
use Rattle.line.specs.Refusals.{at_most}
use Rattle.blocks.proofs.Passing.{Summing}
use Rattle.blocks.proofs.reading.read_filler.Given as goal

abbrev pub invariant-loop-byte : goal.invariant-loop-byte
invariant-loop-byte l = Summing l.bytes l.initial.so_far l.so_far l.byte-index × (l.zero ≡ at_most 0 (take l.byte-index l.bytes))
