-- A half of the plain decoding. Document 01, "The array": m is the array before the half, r the received one, w the filling words
-- of its lines in their order.
use Rattle.std.specs.Prelude.{List, ℕ, get_or}
use Rattle.laws.specs.Sums.{sum_to}
use Rattle.degree.specs.declared.Degree.{Degree}
use Rattle.degree.specs.Degree.{size}
use Rattle.line.specs.Bounded.{bounded}
use Rattle.line.specs.Decoding.{messages}
use Rattle.line.specs.Clauses.{count}
use Rattle.array.specs.Arrays.{line, lines, transpose}

module _ (d : Degree) where
  -- a half by rows: each cell k of each line i by one decoding of line i of m with that one cell put back to what the receiver
  -- gave (`messages`), with the next filling word
  unfoldable pub row_half : List ℕ → List ℕ → List ℕ → List ℕ
  row_half m r w = lines (λ i. messages (bounded d) (line (size d) m i) (line (size d) r i) (get_or w i 0)) (size d)

  -- a half by columns
  unfoldable pub column_half : List ℕ → List ℕ → List ℕ → List ℕ
  column_half m r w = transpose (size d) (size d) (row_half (transpose (size d) (size d) m) (transpose (size d) (size d) r) w)

  -- the counts of the lines of a half, as the plain decoding meets them
  unfoldable pub row_count : List ℕ → List ℕ → List ℕ → ℕ
  row_count m r w = sum_to (λ i. count (bounded d) (line (size d) m i) (line (size d) r i) (get_or w i 0)) (size d)

  unfoldable pub column_count : List ℕ → List ℕ → List ℕ → ℕ
  column_count m r w = row_count (transpose (size d) (size d) m) (transpose (size d) (size d) r) w
