-- Sums by exclusive or over the numbers below a bound.
use Rattle.std.specs.Prelude.{ℕ, zero, suc}
use Rattle.std.specs.Int.Bits.{bit_xor}

-- the sum by exclusive or of F 0, F 1, .. F (k - 1)
unfoldable pub xor_to : ℕ → (ℕ → ℕ) → ℕ
xor_to zero F = 0
xor_to (suc k) F = bit_xor (F 0) (xor_to k (λ i. F (suc i)))
