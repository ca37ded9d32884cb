-- Places in an array are small. Assumes nothing.
use Rattle.std.proofs.Common.{ℕ, ◌+◌, ◌*◌, ◌/◌, ◌<◌, ◌≤◌, mul-le-mul, div-le_self, arith}

pub small : (a n : ℕ) → a < n → n ≤ 128 → a * n ≤ 16256
small a n h l = let b : a ≤ 127 = omega arith in mul-le-mul b l

-- as many cells as an array has, or its message
pub square : {a b : ℕ} → 0 < a → a ≤ b → (0 < a * a) × (a * a ≤ b * b)
square {a} {b} h l = (mul-le-mul h h, mul-le-mul l l)

-- where the row of message cell p begins
pub small_row : (k : ℕ) {first p n : ℕ} → first ≤ 14 → p < 12769 → n ≤ 128 → (first + p / k) * n ≤ 1636096
small_row k {first} {p} f h l = let b : first + p / k ≤ 12782 = omega (arith, div-le_self p k) in mul-le-mul b l
