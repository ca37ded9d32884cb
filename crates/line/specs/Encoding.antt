-- Encoding a line. Document 01, "The code": message cells of a line are 2v to n - 2; all else is check.
use Rattle.std.specs.Prelude.{List, [], ◌∷◌, ◌++◌, ℕ, ◌+◌, ◌-◌, ◌*◌, ◌%◌, get_or}
use Rattle.laws.specs.Digits.{sum_over, ones_in, digits}
use Rattle.degree.specs.declared.Degree.{Degree}
use Rattle.degree.specs.declared.Degree.TheVariants.{Four, Six, Seven}
use Rattle.degree.specs.Degree.{bits, size, order}
use Rattle.field.specs.Field.{power}

-- 2v: the cells below the message cells, which are check cells
abbrev pub check_size : Degree → ℕ
check_size d = bits d + bits d

-- k = n - 1 - 2v: the message cells of a line
abbrev pub message_size : Degree → ℕ
message_size d = order d - check_size d

-- For each of the 2v binary digits of the two check sums (those of s1 first, then those of s3): the check cells whose sums
-- are that one digit, bit i of the entry being cell i.
abbrev pub check_table : Degree → List ℕ
check_table Four = 198 ∷ 93 ∷ 186 ∷ 165 ∷ 199 ∷ 242 ∷ 225 ∷ 95 ∷ []
check_table Six = 1894 ∷ 3788 ∷ 2209 ∷ 1147 ∷ 2294 ∷ 1237 ∷ 1895 ∷ 4034 ∷ 3969 ∷ 3790 ∷ 2749 ∷ 2619 ∷ []
check_table Seven =
    8020 ∷ 16040 ∷ 15911 ∷ 16185 ∷ 15621 ∷ 14717 ∷ 12685 ∷ 8021 ∷ 6306 ∷ 11202 ∷ 16042 ∷ 12612 ∷ 5363 ∷ 15907 ∷ []

module _ (d : Degree) where
  -- what cell i adds to the two check sums, in one number: s1 in the v lowest binary digits, s3 in the next v
  unfoldable pub sums : ℕ → ℕ
  sums i = power d (3 * i) * size d + power d i

  -- the check cells for two check sums in one number: the table's entries at its digits, added up
  unfoldable pub checks_for : ℕ → ℕ
  checks_for s = sum_over (λ j. get_or (check_table d) j 0) (digits (check_size d) s)

  -- the check cells of a message: those with the same two check sums as the message cells, so that over the line both are 0
  unfoldable pub check_cells : List ℕ → List ℕ
  check_cells m = digits (check_size d) (checks_for (sum_over (λ i. sums (check_size d + i)) m))

  -- a line: its check cells, the message, and the parity cell, which makes the number of ones even
  unfoldable pub encode_line : List ℕ → List ℕ
  encode_line m = (check_cells m ++ m) ++ (ones_in (check_cells m ++ m) % 2 ∷ [])
