-- `words::word::sums::sum_with` meets its contract: after j bytes the sum is that of the first 8 j digits, and the rest of the number is what
-- lies above them; where that is 0, so are the digits left.
-- Assumes nothing.
use mathlib.Core.Path.{◌≡◌}
use Prim.Native.Nat.{ℕ, ◌≤◌, ◌-◌, ◌*◌, ◌/◌, ◌^◌}
use lib.Bits.{bit_xor}
use Rattle.laws.specs.Digits.{sum_over, digits}
use Rattle.words.specs.Working.Sums.{ByteSums}
use Rattle.words.proofs.word.sums.sum_with.Given as goal

abbrev pub invariant-loop-rest : goal.invariant-loop-rest
invariant-loop-rest l = (l.j ≤ 8) × (l.rest ≡ l.number / 2 ^ (l.j * 8)) × ((W : ℕ → ℕ) → ByteSums W l.base 8 l.table → l.all ≡ bit_xor l.sum (sum_over W (digits (l.j * 8) l.number)))

abbrev pub decreases-loop-rest : goal.decreases-loop-rest
decreases-loop-rest l = 8 - l.j
