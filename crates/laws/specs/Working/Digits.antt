-- A list of binary digits as a number.
use Rattle.std.specs.Prelude.{true, false, List, ℕ, ◌^◌, ltb}
use Rattle.laws.specs.Digits.{sum_over}

-- the number whose bit i is cell i of a word
abbrev pub pack : List ℕ → ℕ
pack w = sum_over (λ i. 2 ^ i) w

-- f at the cells below m, 0 past them
unfoldable pub up_to : ℕ → (ℕ → ℕ) → ℕ → ℕ
up_to m f i = elim (ltb i m) [ true ↦ f i | false ↦ 0 ]
