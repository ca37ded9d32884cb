-- `words::word::pairs::spread_part` meets its contract: the bytes passed are those that the words say, eight more a turn.
-- Assumes nothing.
use mathlib.Core.Path.{◌≡◌}
use mathlib.Core.List.{◌++◌}
use Prim.Native.Nat.{◌*◌, ◌-◌}
use lib.ListN.{length, take}
use Rattle.words.specs.Working.Pairs.{pairs_of}
use Rattle.words.proofs.word.pairs.spread_part.Given as goal

abbrev pub invariant-loop-i : goal.invariant-loop-i
invariant-loop-i l = (length l.bytes ≡ length l.initial.bytes) × (take (8 * l.i) l.bytes ++ pairs_of (length l.initial.bytes - 8 * l.i) l.a l.b ≡ pairs_of (length l.initial.bytes) l.first l.second)
