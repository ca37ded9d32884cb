-- `UnitTable::encoded_word` meets its contract. The loop's invariant: the sum is that of the cells passed.
-- Assumes nothing.
use Prim.Native.Nat.{◌≤◌}
use mathlib.Core.Path.{◌≡◌}
use lib.ListN.{length, take}
use Rattle.laws.specs.Digits.{sum_over}
use Rattle.words.specs.Working.Grid.{word_in}
use Rattle.words.specs.Working.Word.{value}
use Rattle.line.proofs.encoding.UnitTable.encoded_word.Given as goal

abbrev pub invariant-loop-a : goal.invariant-loop-a
invariant-loop-a l = (l.a ≤ length l.message) × (value l.sum ≡ sum_over (λ j. word_in l.self.words.now j) (take l.a l.message))
