-- The product of two elements of the field.
use Rattle.std.specs.Prelude.{ℕ, zero, suc, ◌*◌, ◌/◌, ◌%◌}
use Rattle.std.specs.Int.Bits.{bit_xor}
use Rattle.degree.specs.declared.Degree.{Degree}
use Rattle.degree.specs.Degree.{bits}
use Rattle.field.specs.Field.{double}

-- y times the k lowest coefficients of x: the sum of y α^i over the bits i of x
unfoldable pub product_of : Degree → ℕ → ℕ → ℕ → ℕ
product_of d zero x y = 0
product_of d (suc k) x y = bit_xor (x % 2 * y) (product_of d k (x / 2) (double d y))

-- x times y
abbrev pub product : Degree → ℕ → ℕ → ℕ
product d x y = product_of d (bits d) x y
