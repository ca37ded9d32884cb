-- The words of an array's lines, transposed, are the words of its columns.
-- Assumes nothing.
use mathlib.Core.Path.{◌≡◌, sym, ap, ◌∙◌}
use mathlib.Core.Bool.{Bool, false}
use mathlib.Core.List.{List}
use mathlib.Core.Logic.{dite}
use Prim.Native.Nat.{ℕ, ◌*◌, ◌^◌, ◌<◌, ◌≤◌}
use native.Mathlib.Nat.{lt_of_lt_of_le, mul-le-mul_right}
use native.Mathlib.Decide.{dec_lt}
use native.Mathlib.Omega.{arith}
use lib.ListN.{length, take, get_or, length-take, get_or-eq_default, drop_of_length-le}
use lib.Pow.{pow_mono}
use lib.Seq.{take-nil}
use Rattle.laws.specs.Bits.{bit}
use Rattle.laws.specs.Working.Bits.{bit_at}
use Rattle.words.specs.Working.Word.{width}
use Rattle.line.specs.Working.Packed.{pack_by}
use Rattle.line.proofs.PackBits.{pack_by_lt, pack_by_bit}
use Rattle.array.specs.Arrays.{line, transpose}
use Rattle.array.specs.Working.PackedRows.{RowWords}
use Rattle.array.proofs.ArrayLaws.{line_at, length_transpose, transpose_at}
use Rattle.laws.proofs.Bits.{bits_ext}

module _ (n : ℕ) (m : List ℕ) where
  -- a line has at most n cells
  pub length_line_le : (i : ℕ) → length (line n m i) ≤ n
  length_line_le i = rw length-take (omega arith)

  -- past the last cell of a line there is none
  line_over : (i j : ℕ) → n ≤ j → get_or (line n m i) j 0 ≡ 0
  line_over i j h = get_or-eq_default (line n m i) 0 {n = j} (omega (arith, length_line_le i))

  -- nor in a line past the last
  pub line_past : length m ≡ n * n → (i j : ℕ) → n ≤ i → get_or (line n m i) j 0 ≡ 0
  line_past l i j h =
      ap (λ (xs : List ℕ). get_or xs j 0)
      (ap (take n) (drop_of_length-le m {i = i * n} (omega (arith, mul-le-mul_right {m = n} {n = i} n h))) ∙ take-nil n)

-- cell j of column i is cell i of line j, past their ends too
column_cell : (n : ℕ) (m : List ℕ) → length m ≡ n * n → (i j : ℕ) → get_or (line n m j) i 0 ≡ get_or (line n (transpose n n m) i) j 0
column_cell n m l i j =
    dite (dec_lt i n)
    (λ h. dite (dec_lt j n)
    (λ k. line_at n m j i h ∙ sym (transpose_at n n m i j h k) ∙ sym (line_at n (transpose n n m) i j k))
    (λ k. line_past n m l j i (omega arith) ∙ sym (line_over n (transpose n n m) i j (omega arith))))
    (λ h. line_over n m j i (omega arith) ∙ sym (line_past n (transpose n n m) (length_transpose n n m) i j (omega arith)))

-- transposed words pack the columns
pub words_turned : (p : ℕ → Bool) (n : ℕ) (m : List ℕ) (before after : ℕ → ℕ) → p 0 ≡ false → n ≤ width → length m ≡ n * n → RowWords p n m before
    → ((i : ℕ) → i < width → after i < 2 ^ width) → ((i j : ℕ) → i < width → j < width → bit_at (after i) j ≡ bit_at (before j) i)
    → RowWords p n (transpose n n m) after
words_turned p n m before after z few l w small turned i h =
    bits_ext width (after i) (pack_by p column) (small i h) (lt_of_lt_of_le (pack_by_lt p column) (pow_mono fits))
    (λ j k.
    turned i j h k ∙ ap (λ (x : ℕ). bit_at x i) (w j k) ∙ pack_by_bit p z (line n m j) i
    ∙ ap (λ (x : ℕ). bit (p x)) (column_cell n m l i j) ∙ sym (pack_by_bit p z column j))
  where
    column : List ℕ
    column = line n (transpose n n m) i

    fits : length column ≤ width
    fits = omega (arith, length_line_le n (transpose n n m) i)
