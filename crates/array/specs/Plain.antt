-- The plain decoding. Document 01, "The array": what demand 3 compares with. It is fed the received array r, the number of
-- iterations l and the filling words w. Its state is an array m, at first r.
use Rattle.std.specs.Prelude.{Bool, ◌&&◌, List, [], ◌∷◌, ℕ, zero, suc, ◌+◌, ◌*◌, ◌<◌, eqb, drop}
use Rattle.laws.specs.Tests.{every}
use Rattle.degree.specs.declared.Degree.{Degree}
use Rattle.degree.specs.Degree.{size}
use Rattle.line.specs.Cells.{filling_word, erasures, distance, designed_distance}
use Rattle.line.specs.Codeword.{is_codeword}
use Rattle.array.specs.Arrays.{line, column}
use Rattle.array.specs.Halves.{row_half, column_half, row_count, column_count}

-- the filling words, lent as two numbers each: document 02, W-212, "low word first"
unfoldable pub fillings : List ℕ → List ℕ
fillings [] = []
fillings (low ∷ []) = []
fillings (low ∷ high ∷ w) = filling_word low high ∷ fillings w

module _ (d : Degree) where
  -- l iterations, each a row half and then a column half, the filling words in order of halves and lines
  unfoldable pub plain : ℕ → List ℕ → List ℕ → List ℕ → List ℕ
  plain zero m r w = m
  plain (suc l) m r w =
      plain l (column_half d (row_half d m r w) r (drop (size d) w)) r (drop (size d + size d) w)

  -- the sum over all 2 l n lines
  unfoldable pub plain_count : ℕ → List ℕ → List ℕ → List ℕ → ℕ
  plain_count zero m r w = 0
  plain_count (suc l) m r w =
      row_count d m r w + column_count d (row_half d m r w) r (drop (size d) w)
      + plain_count l (column_half d (row_half d m r w) r (drop (size d) w)) r (drop (size d + size d) w)

  -- closed, as document 02 has it (W-203): no cell is unsure and each row and each column is a codeword
  unfoldable pub closed : List ℕ → Bool
  closed m =
      eqb (erasures m) 0
      && (every (λ i. is_codeword d (line (size d) m i)) (size d) && every (λ j. is_codeword d (column (size d) m j)) (size d))

  -- the row condition: in each received row twice the wrong bits plus the unsure ones, against the array s, is below 6
  abbrev pub RowCondition : List ℕ → List ℕ → Type 0
  RowCondition r s = (i : ℕ) → i < size d → 2 * distance (line (size d) r i) (line (size d) s i) + erasures (line (size d) r i) < designed_distance
