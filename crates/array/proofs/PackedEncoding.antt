-- Encoding an array on packed words: row i is the sum of those encoded message rows a whose entry in the table of units has
-- bit i.
-- Assumes nothing.
use mathlib.Core.Path.{◌≡◌, sym, ap, ap₂, ◌∙◌}
use mathlib.Core.List.{List}
use Prim.Native.Nat.{ℕ, ◌+◌, ◌*◌, ◌^◌, ◌<◌}
use native.Mathlib.Nat.{mul_comm, mul_right_comm}
use lib.ListN.{get_or}
use Rattle.laws.specs.Working.Bits.{bit_at}
use Rattle.laws.specs.Digits.{digits}
use Rattle.laws.specs.Working.Digits.{pack}
use Rattle.laws.specs.Working.Sums.{xor_to}
use Rattle.laws.proofs.Bits.{bit_one}
use Rattle.laws.proofs.Linear.{one, times_adds, shift_adds, digits_pack, to_cong, to_swap, to_map, sum_to}
use Rattle.degree.specs.declared.Degree.{Degree}
use Rattle.degree.specs.Degree.{size}
use Rattle.line.specs.Cells.{IsWord}
use Rattle.line.specs.Encoding.{message_size, encode_line}
use Rattle.line.specs.Working.Units.{Units}
use Rattle.line.proofs.LineEncoding.{summed}
use Rattle.line.proofs.UnitLaws.{pack_packs, unit_bit}
use Rattle.array.specs.Arrays.{line, lines}
use Rattle.array.specs.Encoding.{encode_lines, encode_array, ProductCodeword}
use Rattle.array.specs.Working.EncodedRows.{EncodedRows}
use Rattle.words.specs.declared.word.grid.Grid.{Grid}
use Rattle.words.specs.Working.Grid.{word_in}
use Rattle.words.specs.Working.Sums.{chosen_sum}
use Rattle.array.proofs.ArrayLaws.{line_at, lines_are}
use Rattle.array.proofs.ArrayEncoding.{line_coded, encoded_line_lem, cell_rows, encode_codeword}

module _ (d : Degree) (t : Grid) (U : Units d t) (m : List ℕ) (M : IsWord (message_size d * message_size d) m) where
  abbrev array : List ℕ
  array = encode_array d m

  A : ProductCodeword d array
  A = encode_codeword d m M

  -- cell j of encoded message row a
  abbrev Q : ℕ → ℕ → ℕ
  Q a j = get_or (encode_lines d (message_size d) m) (a * size d + j) 0

  abbrev row_of : ℕ → List ℕ
  row_of a = line (message_size d) m a

  pack_row : (a : ℕ) → a < message_size d → pack (encode_line d (row_of a)) ≡ xor_to (size d) (λ j. Q a j * 2 ^ j)
  pack_row a z =
      let c = line_coded d (message_size d) m M a z in
      let e = encoded_line_lem d (message_size d) m M a z in
      sum_to (λ j. 2 ^ j) (encode_line d (row_of a))
      ∙ ap (λ (x : ℕ). xor_to x (λ j. one (get_or (encode_line d (row_of a)) j 0) * 2 ^ j)) c.word.long
      ∙ to_cong (size d) _ _ (λ j q. ap (λ (x : ℕ). x * 2 ^ j)
      (bit_one (c.word.small j) ∙ ap (λ (w : List ℕ). get_or w j 0) (sym e) ∙ line_at (size d) (encode_lines d (message_size d) m) a j q))

  -- row i as a number
  packed_row : (i : ℕ) → i < size d
      → pack (line (size d) array i) ≡ xor_to (message_size d) (λ a. bit_at (word_in t a) i * pack (encode_line d (row_of a)))
  packed_row i h =
      let w = (summed d i h).weight in
      sum_to (λ j. 2 ^ j) (line (size d) array i)
      ∙ ap (λ (x : ℕ). xor_to x (λ j. one (get_or (line (size d) array i) j 0) * 2 ^ j)) (A.rows i h).word.long
      ∙ to_cong (size d) _ _ (λ j q.
      ap (λ (x : ℕ). x * 2 ^ j) (bit_one ((A.rows i h).word.small j) ∙ line_at (size d) array i j q ∙ cell_rows d m M i j h q)
      ∙ to_map (λ x. x * 2 ^ j) (message_size d) (λ a. Q a j * w a) (shift_adds j))
      ∙ to_swap (size d) (message_size d) (λ j a. Q a j * w a * 2 ^ j)
      ∙ to_cong (message_size d) _ _ (λ a z.
      to_cong (size d) _ _ (λ j q. mul_right_comm (Q a j) (w a) (2 ^ j))
      ∙ sym (to_map (λ x. x * w a) (size d) (λ j. Q a j * 2 ^ j) (times_adds ((summed d i h).small a)))
      ∙ ap₂ (λ (x y : ℕ). x * y) (sym (pack_row a z)) (sym (unit_bit d t U i a h z))
      ∙ mul_comm (pack (encode_line d (row_of a))) (bit_at (word_in t a) i))

  -- the rows made from the words of the encoded message rows are the array's
  packed_array : (ws : Grid) → EncodedRows d m ws
      → lines (λ i. digits (size d) (chosen_sum t ws (message_size d) i)) (size d) ≡ array
  unfolding chosen_sum
  packed_array ws W =
      lines_are (size d) _ (size d) array A.whole
      (λ i h.
      let r = line (size d) array i in
      let same : chosen_sum t ws (message_size d) i ≡ pack r =
      to_cong (message_size d) _ _ (λ a z. ap (λ (x : ℕ). bit_at (word_in t a) i * x) ((W.at a z).ones ∙ pack_packs (encode_line d (row_of a))))
      ∙ sym (packed_row i h) in
      ap (digits (size d)) same ∙ ap (λ (x : ℕ). digits x (pack r)) (sym (A.rows i h).word.long) ∙ digits_pack r (A.rows i h).word.small)

-- what the encoder's parts make is the encoded array
pub by_units : (d : Degree) (t : Grid) (m : List ℕ) (ws : Grid) (n k : ℕ) → Units d t → IsWord (message_size d * message_size d) m → EncodedRows d m ws → n ≡ size d → k ≡ message_size d
    → lines (λ i. digits n (chosen_sum t ws k i)) n ≡ encode_array d m
by_units d t m ws n k U M W e f = rw (e, f) (packed_array d t U m M ws W)
