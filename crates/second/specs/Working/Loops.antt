-- Loops over cells, as they run.
use Rattle.std.specs.Prelude.{ℕ, zero, suc, ◌<◌, List, bit_xor, slice_index, slice_set}

-- each number of a list is below a bound
abbrev pub Below : (bound : ℕ) → List ℕ → Type 0
Below bound l = (i : ℕ) → slice_index l i < bound

-- k values written one after the other: g 0 to place p 0, g 1 to place p 1, ..
unfoldable pub written : {A : Type 0} → (place : ℕ → ℕ) (value : ℕ → A) → ℕ → List A → List A
written p g zero m = m
written p g (suc k) m = slice_set (written p g k m) (p k) (g k)

-- the sum by exclusive or of f 0, f 1, .. f (k - 1)
unfoldable pub xored : (ℕ → ℕ) → ℕ → ℕ
xored f zero = 0
xored f (suc k) = bit_xor (xored f k) (f k)
