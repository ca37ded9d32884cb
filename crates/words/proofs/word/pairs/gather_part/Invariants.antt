-- `words::word::pairs::gather_part` meets its contract: the bits of the bytes passed are gathered, eight more a turn.
-- Assumes nothing.
use mathlib.Core.Path.{◌≡◌}
use Prim.Native.Nat.{◌*◌}
use lib.ListN.{take}
use Rattle.words.specs.Working.Pairs.{bits_of}
use Rattle.words.proofs.word.pairs.gather_part.Given as goal

abbrev pub invariant-loop-i : goal.invariant-loop-i
invariant-loop-i l = (l.first ≡ bits_of 0 (take (8 * l.i) l.bytes)) × (l.second ≡ bits_of 1 (take (8 * l.i) l.bytes))
