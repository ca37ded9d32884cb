-- A half by its lines: line i takes the channel's line i and filling word i.
-- Assumes nothing.
use mathlib.Core.Path.{◌≡◌, ap, ◌∙◌}
use mathlib.Core.List.{List}
use Prim.Native.Nat.{ℕ, ◌*◌, ◌<◌}
use lib.ListN.{length, get_or}
use Rattle.degree.specs.declared.Degree.{Degree}
use Rattle.degree.specs.Degree.{size}
use Rattle.line.specs.Bounded.{bounded}
use Rattle.line.specs.Decoding.{messages}
use Rattle.line.proofs.LineLaw.{messages_line}
use Rattle.array.specs.Arrays.{line, column, transpose}
use Rattle.array.specs.Halves.{row_half, column_half}
use Rattle.array.specs.Working.Steps.{IsArray}
use Rattle.array.proofs.ArrayLaws.{Even, line_cells, length_lines, line_lines, transpose_cells, transpose_transpose}

-- the messages of line i, with filling word i
abbrev pub sent : Degree → List ℕ → List ℕ → List ℕ → ℕ → List ℕ
sent d m r w i = messages (bounded d) (line (size d) m i) (line (size d) r i) (get_or w i 0)

module _ (d : Degree) {m r : List ℕ} (w : List ℕ) (a : IsArray d m) (b : IsArray d r) where
  -- each is a line of n cells
  pub sent_even : Even (size d) (sent d m r w) (size d)
  sent_even i h = (messages_line d (get_or w i 0) (line_cells (size d) (size d) i a h) (line_cells (size d) (size d) i b h)).long

  -- line i of a half by rows
  pub row_line_word : (i : ℕ) → i < size d
      → line (size d) (row_half d m r w) i ≡ messages (bounded d) (line (size d) m i) (line (size d) r i) (get_or w i 0)
  unfolding row_half
  row_line_word i h = line_lines (size d) (sent d m r w) (size d) i sent_even h

  pub row_half_length : length (row_half d m r w) ≡ size d * size d
  unfolding row_half
  row_half_length = length_lines (size d) (sent d m r w) (size d) sent_even

-- column j of a half by columns
pub column_line_word : (d : Degree) {m r : List ℕ} (w : List ℕ) → IsArray d m → IsArray d r → (j : ℕ) → j < size d
    → column (size d) (column_half d m r w) j ≡ messages (bounded d) (column (size d) m j) (column (size d) r j) (get_or w j 0)
unfolding column_half
column_line_word d {m} {r} w a b j h =
    let n = size d in
    let down : IsArray d (transpose n n m) = transpose_cells n n a in
    let across : IsArray d (transpose n n r) = transpose_cells n n b in
    ap (λ (x : List ℕ). line n x j) (transpose_transpose n n (row_half d (transpose n n m) (transpose n n r) w) (row_half_length d w down across))
    ∙ row_line_word d w down across j h
