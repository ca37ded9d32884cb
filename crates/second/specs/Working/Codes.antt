-- The code of n cells: what is fixed for its degree, and the weights, from its polynomial alone.
use Rattle.std.specs.Prelude.{ℕ, zero, suc, ◌+◌, ◌*◌, ◌%◌, cond, List, ◌==◌, bit_xor, nat_lt, slice_index}
use Rattle.second.specs.Working.Loops.{xored}

-- n of a degree
abbrev pub cells_of : (degree : ℕ) → ℕ
cells_of degree = cond (degree == 4) 16 (cond (degree == 6) 64 128)

-- of three numbers, given for degrees 4, 6 and 7, that of the degree with n cells
abbrev pub by_cells : (four six seven n : ℕ) → ℕ
by_cells four six seven n = cond (n == 16) four (cond (n == 64) six seven)

abbrev pub degree_of : (n : ℕ) → ℕ
degree_of = by_cells 4 6 7

-- the polynomial of the field: α^4 + α + 1, α^6 + α + 1, α^7 + α^3 + 1, bit i the coefficient of α^i
abbrev pub polynomial_of : (n : ℕ) → ℕ
polynomial_of = by_cells 19 67 137

-- the generator polynomial, bit i the coefficient of x^i
abbrev pub generator_of : (n : ℕ) → ℕ
generator_of = by_cells 465 5433 17271

-- x times α, a root of the polynomial
abbrev pub times_alpha : (n x : ℕ) → ℕ
times_alpha n x = cond (nat_lt (x * 2) n) (x * 2) (bit_xor (x * 2) (polynomial_of n) % 128)

unfoldable pub power_of : (n exponent : ℕ) → ℕ
power_of n zero = 1
power_of n (suc e) = times_alpha n (power_of n e)

-- what a one in cell i adds to the syndrome
abbrev pub weight_of : (n i : ℕ) → ℕ
weight_of n i = 16384 + 128 * power_of n (3 * i) + power_of n i

-- the sum of the weights of the cells that hold 1
abbrev pub syndrome_of : (n : ℕ) (weights word : List ℕ) → ℕ
syndrome_of n weights word = xored (λ i. cond (slice_index word i == 1) (slice_index weights i) 0) n
