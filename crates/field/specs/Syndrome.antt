-- The check sums of a list of cells. Document 01, "The code", says of a codeword that all three are 0:
-- the sum of α^i over cells i below n - 1 that hold 1, the sum of α^(3i) over the same cells, and the parity of all n cells.
use Rattle.std.specs.Prelude.{List, ℕ, ◌*◌, ◌%◌, take}
use Rattle.laws.specs.Digits.{sum_over, ones_in}
use Rattle.degree.specs.declared.Degree.{Degree}
use Rattle.degree.specs.Degree.{size, order}
use Rattle.field.specs.Field.{power}

abbrev pub s1 : Degree → List ℕ → ℕ
s1 d cells = sum_over (λ i. power d i) (take (order d) cells)

abbrev pub s3 : Degree → List ℕ → ℕ
s3 d cells = sum_over (λ i. power d (3 * i)) (take (order d) cells)

abbrev pub parity : Degree → List ℕ → ℕ
parity d cells = ones_in (take (size d) cells) % 2
