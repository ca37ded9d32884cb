-- The field of n elements. Document 01, "The code": the field is made by a root α of the polynomial, over two elements.
-- An element is a number below n whose bit i is the coefficient of α^i; the sum of two elements is their exclusive or.
use Rattle.std.specs.Prelude.{ℕ, zero, suc, ◌*◌, ◌/◌, ◌%◌}
use Rattle.std.specs.Int.Bits.{bit_xor}
use Rattle.degree.specs.declared.Degree.{Degree}
use Rattle.degree.specs.Degree.{size}
use Rattle.degree.specs.declared.Degree.TheVariants.{Four, Six, Seven}

-- the polynomial whose root is α, bit i the coefficient of α^i: α^4 + α + 1, α^6 + α + 1, and α^7 + α^3 + 1 (document 02, W-212)
abbrev pub polynomial : Degree → ℕ
polynomial Four = 19
polynomial Six = 67
polynomial Seven = 137

-- x times α: shifted by one, and the polynomial, which is 0, added where α^v came up
unfoldable pub double : Degree → ℕ → ℕ
double d x = bit_xor (x * 2) (x * 2 / size d % 2 * polynomial d)

-- x times α^i: doubled i times
unfoldable pub times_power : Degree → ℕ → ℕ → ℕ
times_power d zero x = x
times_power d (suc i) x = double d (times_power d i x)

-- α^i
abbrev pub power : Degree → ℕ → ℕ
power d i = times_power d i 1
