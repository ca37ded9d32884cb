-- Numbers in decimal.
use Rattle.std.specs.Prelude.{ℕ, zero, suc, ◌+◌, ◌-◌, ◌/◌, ◌%◌, ◌^◌, ◌<◌, ◌≤◌, List, [], ◌∷◌, ◌++◌}

-- the last k decimal digits of a number as characters, the highest first
abbrev pub last_digits : (k number : ℕ) → List ℕ
last_digits zero number = []
last_digits (suc k) number = last_digits k (number / 10) ++ ((48 + number % 10) ∷ [])

-- a number has k decimal digits: at least one, and no zero in front of others
abbrev pub IsDigitCount : (number k : ℕ) → Type 0
IsDigitCount number k = (1 ≤ k) × (number < 10 ^ k) × (1 < k → 10 ^ (k - 1) ≤ number)
