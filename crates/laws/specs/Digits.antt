-- Sums over the cells of a list that hold 1, and the binary digits of a number as such a list.
use Rattle.std.specs.Prelude.{true, false, List, [], ◌∷◌, ℕ, zero, suc, ◌+◌, ◌/◌, ◌%◌, eqb}
use Rattle.std.specs.Int.Bits.{bit_xor}

-- the sum of f i over the cells i that hold 1
unfoldable pub sum_over : (ℕ → ℕ) → List ℕ → ℕ
sum_over f [] = 0
sum_over f (c ∷ cs) = bit_xor (elim (eqb c 1) [ true ↦ f 0 | false ↦ 0 ]) (sum_over (λ i. f (suc i)) cs)

-- the number of cells that hold 1
unfoldable pub ones_in : List ℕ → ℕ
ones_in [] = 0
ones_in (c ∷ cs) = elim (eqb c 1) [ true ↦ 1 | false ↦ 0 ] + ones_in cs

-- a packed word as a list of cells: its k lowest binary digits, the lowest first
unfoldable pub digits : ℕ → ℕ → List ℕ
digits zero w = []
digits (suc k) w = w % 2 ∷ digits k (w / 2)
