-- `words::word::sums::eight_sum` meets its contract: after j bytes the sum is that of the first 8 j digits, and the rest of the number is what
-- lies above them.
-- Assumes nothing.
use mathlib.Core.Path.{◌≡◌}
use Prim.Native.Nat.{ℕ, ◌*◌, ◌/◌, ◌^◌}
use lib.Bits.{bit_xor}
use Rattle.laws.specs.Digits.{sum_over, digits}
use Rattle.words.specs.Working.Sums.{ByteSums}
use Rattle.words.proofs.word.sums.eight_sum.Given as goal

abbrev pub invariant-loop-j : goal.invariant-loop-j
invariant-loop-j l = (l.rest ≡ l.number / 2 ^ (l.j * 8)) × ((W : ℕ → ℕ) → ByteSums W l.base 8 l.table → l.sum ≡ bit_xor 0 (sum_over W (digits (l.j * 8) l.number)))
