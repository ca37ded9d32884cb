-- The array theorem: the plain decoding of an array whose rows are near those of a product codeword ends with that codeword,
-- and it is closed. Document 00, demand 3, last sentence. Also what every half and every plain decoding keeps, and the bound
-- of the count.
-- Assumes nothing.
use mathlib.Core.Path.{◌≡◌, refl, ap, ◌∙◌}
use mathlib.Core.Bool.{true}
use mathlib.Core.List.{List}
use Prim.Native.Nat.{ℕ, zero, suc, ◌+◌, ◌*◌, ◌<◌, ◌≤◌}
use native.Mathlib.Omega.{arith}
use lib.ListN.{drop, get_or}
use Rattle.laws.proofs.Sums.{sum_bound}
use Rattle.degree.specs.declared.Degree.{Degree}
use Rattle.degree.specs.Degree.{size}
use Rattle.line.specs.Working.Packed.{IsLine}
use Rattle.line.specs.Cells.{IsWord, erasures}
use Rattle.line.specs.Bounded.{bounded}
use Rattle.line.specs.Clauses.{count}
use Rattle.line.proofs.CellLaws.{word_known}
use Rattle.line.proofs.LineLaw.{messages_line, codeword_messages, received_messages}
use Rattle.line.proofs.CountLaws.{count_le}
use Rattle.array.specs.Arrays.{line, transpose}
use Rattle.array.specs.Halves.{row_half, column_half, row_count, column_count}
use Rattle.array.specs.Plain.{plain, plain_count, closed, RowCondition}
use Rattle.array.specs.Encoding.{ProductCodeword}
use Rattle.array.proofs.ArrayLaws.{each_cell, line_at, line_cells, transpose_cells, length_transpose, transpose_transpose, lines_are}
use Rattle.array.proofs.ClosedLaws.{codewords_closed}
use Rattle.array.proofs.HalfLines.{row_half_length, row_line_word}

module _ (d : Degree) where
  -- n by n cells, each 0, 1 or 2
  abbrev Whole : List ℕ → Type 0
  Whole m = IsLine (size d * size d) m

  row_line : {m : List ℕ} → Whole m → (i : ℕ) → i < size d → IsLine (size d) (line (size d) m i)
  row_line a i h = line_cells (size d) (size d) i a h

  turned : {m : List ℕ} → Whole m → Whole (transpose (size d) (size d) m)
  turned a = transpose_cells (size d) (size d) a

  -- ---- what halves and plain decodings keep: n by n cells, each 0, 1 or 2

  pub row_half_cells : (m r w : List ℕ) → Whole m → Whole r → Whole (row_half d m r w)
  row_half_cells m r w a b = record {
    long = row_half_length d w a b;
    small = each_cell (λ x. x < 3) (size d) (size d) (row_half d m r w) (omega arith) (row_half_length d w a b) small;
  }
    where
      small : (i j : ℕ) → i < size d → j < size d → get_or (row_half d m r w) (i * size d + j) 0 < 3
      small i j p q =
          rw (← line_at (size d) (row_half d m r w) i j q, row_line_word d w a b i p) ((messages_line d (get_or w i 0) (row_line a i p) (row_line b i p)).small j)

  pub column_half_cells : (m r w : List ℕ) → Whole m → Whole r → Whole (column_half d m r w)
  unfolding column_half
  column_half_cells m r w a b =
      turned (row_half_cells (transpose (size d) (size d) m) (transpose (size d) (size d) r) w (turned a) (turned b))

  pub plain_cells : (l : ℕ) (m r w : List ℕ) → Whole m → Whole r → Whole (plain d l m r w)
  unfolding plain
  plain_cells zero m r w a b = a
  plain_cells (suc l) m r w a b =
      plain_cells l (column_half d (row_half d m r w) r (drop (size d) w)) r (drop (size d + size d) w)
      (column_half_cells (row_half d m r w) r (drop (size d) w) (row_half_cells m r w a b) b) b

  -- ---- the count is at most n + 2 a line

  pub row_count_le : (m r w : List ℕ) → Whole m → row_count d m r w ≤ size d * (size d + 2)
  unfolding row_count
  row_count_le m r w a =
      omega (
        arith,
        sum_bound (λ i. count (bounded d) (line (size d) m i) (line (size d) r i) (get_or w i 0)) (size d + 2) (size d)
            (λ i h. count_le d (line (size d) m i) (line (size d) r i) (get_or w i 0) (row_line a i h)),
      )

  pub column_count_le : (m r w : List ℕ) → Whole m → column_count d m r w ≤ size d * (size d + 2)
  unfolding column_count
  column_count_le m r w a = row_count_le (transpose (size d) (size d) m) (transpose (size d) (size d) r) w (turned a)

  pub plain_count_le : (l : ℕ) (m r w : List ℕ) → Whole m → Whole r → plain_count d l m r w ≤ 2 * l * size d * (size d + 2)
  unfolding plain_count
  plain_count_le zero m r w a b = omega arith
  plain_count_le (suc l) m r w a b =
      let half = row_half_cells m r w a b in
      omega (arith, row_count_le m r w a, column_count_le (row_half d m r w) r (drop (size d) w) half, plain_count_le l (column_half d (row_half d m r w) r (drop (size d) w)) r (drop (size d + size d) w) (column_half_cells (row_half d m r w) r (drop (size d) w) half b) b)

  -- ---- a product codeword

  module _ (s : List ℕ) (S : ProductCodeword d s) where
    pub sent_bits : IsWord (size d * size d) s
    sent_bits = record {
      long = S.whole;
      small = each_cell (λ x. x < 2) (size d) (size d) s (omega arith) S.whole (λ i j p q. rw (← line_at (size d) s i j q) ((S.rows i p).word.small j));
    }

    -- it has no unsure cell, and a codeword in each row and in each column, so that it is closed
    pub sent_known : erasures s ≡ 0
    sent_known = word_known s sent_bits.small

    pub sent_closed : closed d s ≡ true
    sent_closed = codewords_closed d s (record { known = sent_known; rows = S.rows; columns = S.columns })

    module _ (r : List ℕ) (R : Whole r) where
      -- each half leaves it as it is, whatever the channel and the filling
      pub row_kept : (w : List ℕ) → row_half d s r w ≡ s
      unfolding row_half
      row_kept w =
          lines_are (size d) _ (size d) s S.whole (λ i h. codeword_messages d (get_or w i 0) (S.rows i h) (row_line R i h))

      pub column_kept : (w : List ℕ) → column_half d s r w ≡ s
      unfolding column_half row_half
      column_kept w =
          ap (transpose (size d) (size d)) (lines_are (size d) _ (size d) (transpose (size d) (size d) s) (length_transpose (size d) (size d) s) (λ j h. codeword_messages d (get_or w j 0) (S.columns j h) (row_line (turned R) j h)))
          ∙ transpose_transpose (size d) (size d) s S.whole

      pub plain_kept : (l : ℕ) (w : List ℕ) → plain d l s r w ≡ s
      unfolding plain
      plain_kept zero w = refl
      plain_kept (suc l) w = rw (row_kept w, column_kept (drop (size d) w)) (plain_kept l (drop (size d + size d) w))

      -- an array whose every row is near the codeword's: the first half by rows gives the codeword
      pub first_half : (w : List ℕ) → RowCondition d r s → row_half d r r w ≡ s
      unfolding row_half
      first_half w c =
          lines_are (size d) _ (size d) s S.whole (λ i h. received_messages d (get_or w i 0) (row_line R i h) (S.rows i h) (c i h))

      -- so the plain decoding ends with it
      pub array_theorem : (l : ℕ) (w : List ℕ) → 0 < l → RowCondition d r s → plain d l r r w ≡ s
      unfolding plain
      array_theorem zero w h c = absurd (omega arith)
      array_theorem (suc l) w h c = rw (first_half w c, column_kept (drop (size d) w)) (plain_kept l (drop (size d + size d) w))
