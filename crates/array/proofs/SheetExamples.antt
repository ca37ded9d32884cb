-- Small sheets of degree 4, decoded by an iteration or two: which cells are left, and the count. They say what decode
-- promises in numbers, so that rows and columns, or two of its numbers, can't change places in the definition and in the code alike.
-- Assumes nothing.
use mathlib.Core.Path.{◌≡◌, refl, sym, ◌∙◌}
use mathlib.Core.Bool.{Bool, true, false}
use mathlib.Core.List.{List, [], ◌∷◌, ◌++◌}
use Prim.Native.Nat.{ℕ, ◌+◌, ◌*◌, ◌^◌, ◌<◌}
use native.Mathlib.Nat.{add-zero}
use native.Mathlib.Omega.{arith}
use borrow.Author.Tests.{ltb-true}
use lib.Dec.{ltb}
use lib.ListN.{length, drop, get_or, replicate, set, get_or-replicate}
use Rattle.laws.specs.Digits.{sum_over, ones_in}
use Rattle.laws.specs.Sums.{sum_to}
use Rattle.laws.proofs.Tests.{every_each}
use Rattle.degree.specs.declared.Degree.TheVariants.{Four}
use Rattle.line.specs.Cells.{IsWord, erasures, distance, filled}
use Rattle.line.specs.Codeword.{Codeword, is_codeword}
use Rattle.line.specs.Bounded.{itself, within2, bounded}
use Rattle.line.specs.Decoding.{list_to, decode, message, messages}
use Rattle.line.specs.Clauses.{reach, same, agrees, by_reach, clause, count}
use Rattle.line.specs.Refusals.{refusal, given, some, at_most}
use Rattle.line.proofs.Distances.{is_codeword_lem}
use Rattle.line.proofs.CodeExamples.{four, four_zeros, four_ones}
use Rattle.line.proofs.Examples.{zeros, word_g, p7, p7_messages, p8_messages}
use Rattle.line.proofs.Refusing.{at_most_small, given_taken}
use Rattle.std.specs.Prelude.{Result}
use Rattle.line.specs.declared.refusals.Refusal.{Refusal}
use Rattle.array.specs.declared.report.Report.{Report}
use Rattle.array.specs.Arrays.{line, lines, transpose, column}
use Rattle.array.specs.Halves.{row_half, column_half, row_count, column_count}
use Rattle.array.specs.Plain.{fillings, plain, plain_count, closed, RowCondition}
use Rattle.array.specs.Encoding.{ProductCodeword}
use Rattle.array.specs.Refusals.{decode_tests}
use Rattle.array.specs.Entries.{decode_numbers, DecodeDone}
use Rattle.array.specs.Working.Steps.{IsArray}
use Rattle.array.proofs.ArrayLaws.{line_cells, length_lines, line_lines, lines_are, transpose_cells}
use Rattle.array.proofs.Fillings.{fillings_zeros}
use Rattle.array.proofs.FillingOrder.{one_iteration, count_add}
use Rattle.array.proofs.Theorem.{sent_known, sent_closed, row_kept, column_kept, plain_kept, first_half}

-- the filling words of an iteration, all 0
abbrev pub zero_words : List ℕ
zero_words = replicate 32 0

-- the count of an iteration, from those of its halves
counted : {m : List ℕ} (r w : List ℕ) (a b : ℕ) → row_half Four r r w ≡ m → row_count Four r r w ≡ a → column_count Four m r (drop 16 w) ≡ b
    → plain_count Four 1 r r w ≡ a + b
unfolding plain_count
counted r w a b e p q = rw (e, p, q) (add-zero (a + b))

-- ---- the sheet of zeros, which has a codeword in each row and column

abbrev pub zero_sheet : List ℕ
zero_sheet = replicate 256 0

zero_word : IsWord 256 zero_sheet
unfolding at_most
zero_word = record { long = refl; small = at_most_small 1 zero_sheet refl }

zero_turned : transpose 16 16 zero_sheet ≡ zero_sheet
unfolding transpose list_to
zero_turned = refl

zero_rows : (i : ℕ) → i < 16 → Codeword Four (line 16 zero_sheet i)
unfolding is_codeword sum_over ones_in
zero_rows i h = (is_codeword_lem Four (line_cells 16 16 i zero_word h)).0 (every_each (λ i. is_codeword Four (line 16 zero_sheet i)) 16 refl i h)

pub zero_sent : ProductCodeword Four zero_sheet
zero_sent = record { whole = refl; rows = zero_rows; columns = λ j h. rw zero_turned (zero_rows j h) }

-- received as it is it stays so, with 2 decodings a line in every half: twice as many in two iterations as in one
zero_array : IsArray Four zero_sheet
unfolding at_most
zero_array = record { long = refl; small = at_most_small 2 zero_sheet refl }

zero_once : (w : List ℕ) → plain_count Four 1 zero_sheet zero_sheet w ≡ 64
unfolding row_count column_count sum_to count clause erasures transpose list_to
zero_once w = counted zero_sheet w 32 32 (row_kept Four zero_sheet zero_sent zero_sheet zero_array w) refl refl

pub zero_twice : (w : List ℕ) → plain_count Four 2 zero_sheet zero_sheet w ≡ 128
zero_twice w =
    count_add Four zero_sheet 1 1 zero_sheet w
    ∙ rw (plain_kept Four zero_sheet zero_sent zero_sheet zero_array 1 w, zero_once w, zero_once (drop 32 w)) refl

-- ---- 16 rows that are document 01's P7, ones at 0 and 4 and unsure cells 6 and 7: a tie, which filling bits of 0 decide for zeros and
-- filling bits of 1 for word_g (P8)

abbrev pub tied_rows : List ℕ
tied_rows = lines (λ i. p7) 16

pub tied_array : IsArray Four tied_rows
unfolding at_most lines
tied_array = record { long = refl; small = at_most_small 2 tied_rows refl }

-- a half by rows, where each row has the same filling word
tied_half : (f : ℕ) (c : List ℕ) → messages (bounded Four) p7 p7 f ≡ c → length c ≡ 16 → row_half Four tied_rows tied_rows (replicate 32 f) ≡ lines (λ i. c) 16
unfolding row_half
tied_half f c e l = lines_are 16 _ 16 (lines (λ i. c) 16) (length_lines 16 (λ i. c) 16 (λ i q. l)) row
  where
    row : (i : ℕ) → i < 16 → messages (bounded Four) (line 16 tied_rows i) (line 16 tied_rows i) (get_or (replicate 32 f) i 0) ≡ line 16 (lines (λ i. c) 16) i
    row i h =
        rw (line_lines 16 (λ i. p7) 16 i (λ i q. refl) h, get_or-replicate {A = ℕ} 32 i f 0 (omega arith), e)
        (sym (line_lines 16 (λ i. c) 16 i (λ i q. l) h))

tied_rows_lem : row_half Four tied_rows tied_rows zero_words ≡ zero_sheet
unfolding lines
tied_rows_lem = tied_half 0 zeros p7_messages refl

pub tied_left : plain Four 1 tied_rows tied_rows zero_words ≡ zero_sheet
tied_left =
    one_iteration Four tied_rows tied_rows zero_words
    ∙ rw tied_rows_lem (column_kept Four zero_sheet zero_sent tied_rows tied_array (drop 16 zero_words))

pub tied_count : plain_count Four 1 tied_rows tied_rows zero_words ≡ 64
unfolding row_count column_count sum_to count clause by_reach reach same agrees filled erasures distance bounded within2 itself is_codeword sum_over ones_in transpose list_to lines
tied_count = counted tied_rows zero_words 32 32 tied_rows_lem refl refl

-- the same with ones at bits 6 and 7 of every filling word: 16 rows of word_g, each column of which is all 0 or all 1, a codeword

abbrev one_words : List ℕ
one_words = replicate 32 (2 ^ 6 + 2 ^ 7)

abbrev pub rows_of_g : List ℕ
rows_of_g = lines (λ i. word_g) 16

g_word : IsWord 256 rows_of_g
unfolding at_most lines
g_word = record { long = refl; small = at_most_small 1 rows_of_g refl }

g_rows : (i : ℕ) → i < 16 → Codeword Four (line 16 rows_of_g i)
unfolding lines
g_rows i h = (is_codeword_lem Four (line_cells 16 16 i g_word h)).0 (every_each (λ i. is_codeword Four (line 16 rows_of_g i)) 16 (rw four refl) i h)

g_columns : (j : ℕ) → j < 16 → Codeword Four (column 16 rows_of_g j)
unfolding lines transpose list_to
g_columns j h =
    (is_codeword_lem Four (line_cells 16 16 j (transpose_cells 16 16 g_word) h)).0 (every_each (λ j. is_codeword Four (column 16 rows_of_g j)) 16 (rw (four_zeros, four_ones) refl) j h)

g_sent : ProductCodeword Four rows_of_g
g_sent = record { whole = g_word.long; rows = g_rows; columns = g_columns }

tied_ones : row_half Four tied_rows tied_rows one_words ≡ rows_of_g
tied_ones = tied_half (2 ^ 6 + 2 ^ 7) word_g p8_messages refl

pub ones_left : plain Four 1 tied_rows tied_rows one_words ≡ rows_of_g
ones_left =
    one_iteration Four tied_rows tied_rows one_words
    ∙ rw tied_ones (column_kept Four rows_of_g g_sent tied_rows tied_array (drop 16 one_words))

-- ---- a row of 16 unsure cells above rows of zeros: 30 decodings in the row half, where row 0 fails, and 32 in the column half, where
-- each column has one unsure cell

abbrev pub crowded_row : List ℕ
crowded_row = replicate 16 2 ++ replicate 240 0

crowded_rows : row_half Four crowded_row crowded_row zero_words ≡ crowded_row
unfolding row_half lines messages list_to message decode filled erasures distance bounded within2 itself is_codeword ones_in sum_over
crowded_rows = refl

-- the columns as rows
abbrev crowded_column : List ℕ
crowded_column = lines (λ i. 2 ∷ replicate 15 0) 16

crowded_turned : transpose 16 16 crowded_row ≡ crowded_column
unfolding transpose list_to lines
crowded_turned = refl

crowded_array : IsArray Four crowded_column
unfolding at_most lines
crowded_array = record { long = refl; small = at_most_small 2 crowded_column refl }

-- one unsure cell in each
crowded_near : RowCondition Four crowded_column zero_sheet
unfolding distance erasures lines
crowded_near i h =
    ltb-true (2 * distance (line 16 crowded_column i) (line 16 zero_sheet i) + erasures (line 16 crowded_column i)) 6
    (every_each (λ i. ltb (2 * distance (line 16 crowded_column i) (line 16 zero_sheet i) + erasures (line 16 crowded_column i)) 6) 16 refl i h)

crowded_columns : (w : List ℕ) → column_half Four crowded_row crowded_row w ≡ zero_sheet
unfolding column_half
crowded_columns w =
    rw (crowded_turned, first_half Four zero_sheet zero_sent crowded_column crowded_array w crowded_near) zero_turned

pub crowded_left : plain Four 1 crowded_row crowded_row zero_words ≡ zero_sheet
crowded_left = one_iteration Four crowded_row crowded_row zero_words ∙ rw crowded_rows (crowded_columns (drop 16 zero_words))

pub crowded_count : plain_count Four 1 crowded_row crowded_row zero_words ≡ 62
unfolding row_count column_count sum_to count clause erasures transpose list_to
crowded_count = counted crowded_row zero_words 30 32 crowded_rows refl refl

-- ---- no cell known: nothing is decoded

abbrev pub all_unsure : List ℕ
all_unsure = replicate 256 2

unsure_rows : (w : List ℕ) → row_half Four all_unsure all_unsure w ≡ all_unsure
unfolding row_half lines messages list_to message decode erasures
unsure_rows w = refl

unsure_turned : transpose 16 16 all_unsure ≡ all_unsure
unfolding transpose list_to
unsure_turned = refl

unsure_columns : (w : List ℕ) → column_half Four all_unsure all_unsure w ≡ all_unsure
unfolding column_half
unsure_columns w = rw (unsure_turned, unsure_rows w) unsure_turned

pub unsure_left : plain Four 1 all_unsure all_unsure zero_words ≡ all_unsure
unsure_left = one_iteration Four all_unsure all_unsure zero_words ∙ rw (unsure_rows zero_words) (unsure_columns (drop 16 zero_words))

pub unsure_count : plain_count Four 1 all_unsure all_unsure zero_words ≡ 0
unfolding row_count column_count sum_to count clause erasures transpose list_to
unsure_count = counted all_unsure zero_words 0 0 (unsure_rows zero_words) refl refl

-- ---- what decode promises of them: refusal, count, unsure cells and closed, and the cells

numbers_are : (p : ℕ × ℕ × ℕ × Bool) {a b c : ℕ} {e : Bool} → p.0 ≡ a → p.1 ≡ b → p.2 ≡ c → p.3 ≡ e → p ≡ (a, b, c, e)
numbers_are p h i j k = rw (← h, ← i, ← j, ← k) refl

-- of a taken call, from what the plain decoding leaves and counts
module _ (l : ℕ) (r lent w m : List ℕ) (n : ℕ) (words : fillings lent ≡ w) (left : plain Four l r r w ≡ m) (count : plain_count Four l r r w ≡ n) where
  promised : {before after : List ℕ} {more : List Bool} {a : Result Report Refusal} → refusal (decode_tests 4 l r lent before more) ≡ 0
      → DecodeDone 4 l r lent before more after a → (decode_numbers a ≡ (0, n, erasures m, closed Four m)) × (after ≡ m)
  promised {before} {after} {more} {a} taken h = (numbers_are (decode_numbers a) no sum unsure shut, cells)
    where
      no : (decode_numbers a).0 ≡ 0
      no = h.refusal ∙ taken

      sum : (decode_numbers a).1 ≡ n
      sum = h.count ∙ given_taken (decode_tests 4 l r lent before more) 4 _ 0 (taken, refl) ∙ rw words count

      unsure : (decode_numbers a).2 ≡ erasures m
      unsure = h.erasures ∙ given_taken (decode_tests 4 l r lent before more) 4 _ 0 (taken, refl) ∙ rw (words, left) refl

      shut : (decode_numbers a).3 ≡ closed Four m
      shut = h.closed ∙ given_taken (decode_tests 4 l r lent before more) 4 _ false (taken, refl) ∙ rw (words, left) refl

      cells : after ≡ m
      cells = h.cells ∙ given_taken (decode_tests 4 l r lent before more) 4 _ before (taken, refl) ∙ rw (words, left) refl

-- one that leaves a sheet that has a codeword in each row and column
promised_closed : (l : ℕ) (r lent w m : List ℕ) (n : ℕ) → fillings lent ≡ w → plain Four l r r w ≡ m → plain_count Four l r r w ≡ n → ProductCodeword Four m
    → {before after : List ℕ} {more : List Bool} {a : Result Report Refusal} → refusal (decode_tests 4 l r lent before more) ≡ 0
    → DecodeDone 4 l r lent before more after a → (decode_numbers a ≡ (0, n, 0, true)) × (after ≡ m)
promised_closed l r lent w m n words left count S taken h = rw (sent_known Four m S, sent_closed Four m S) at (promised l r lent w m n words left count taken h)

-- cells to write of the right length, and no further slice of a wrong one
module _ {before after : List ℕ} {more : List Bool} {a : Result Report Refusal} (long : length before ≡ 256) (fit : some more ≡ false) where
  pub tied_promised : DecodeDone 4 1 tied_rows (replicate 64 0) before more after a → (decode_numbers a ≡ (0, 64, 0, true)) × (after ≡ zero_sheet)
  unfolding decode_tests at_most lines
  tied_promised h = promised_closed 1 tied_rows (replicate 64 0) zero_words zero_sheet 64 (fillings_zeros 32) tied_left tied_count zero_sent (rw (long, fit) refl) h

  pub ones_promised : DecodeDone 4 1 tied_rows (lines (λ i. (2 ^ 6 + 2 ^ 7) ∷ 0 ∷ []) 32) before more after a → after ≡ rows_of_g
  unfolding decode_tests at_most lines fillings
  ones_promised h =
      h.cells ∙ given_taken (decode_tests 4 1 tied_rows (lines (λ i. (2 ^ 6 + 2 ^ 7) ∷ 0 ∷ []) 32) before more) 4 _ before (rw (long, fit) refl, refl) ∙ ones_left

  pub twice_promised : DecodeDone 4 2 zero_sheet (replicate 128 0) before more after a → (decode_numbers a ≡ (0, 128, 0, true)) × (after ≡ zero_sheet)
  unfolding decode_tests at_most
  twice_promised h =
      promised_closed 2 zero_sheet (replicate 128 0) (replicate 64 0) zero_sheet 128 (fillings_zeros 64) (plain_kept Four zero_sheet zero_sent zero_sheet zero_array 2 (replicate 64 0)) (zero_twice (replicate 64 0)) zero_sent (rw (long, fit) refl) h

  pub crowded_promised : DecodeDone 4 1 crowded_row (replicate 64 0) before more after a → (decode_numbers a ≡ (0, 62, 0, true)) × (after ≡ zero_sheet)
  unfolding decode_tests at_most
  crowded_promised h = promised_closed 1 crowded_row (replicate 64 0) zero_words zero_sheet 62 (fillings_zeros 32) crowded_left crowded_count zero_sent (rw (long, fit) refl) h

  pub unsure_promised : DecodeDone 4 1 all_unsure (replicate 64 0) before more after a → (decode_numbers a ≡ (0, 0, 256, false)) × (after ≡ all_unsure)
  unfolding decode_tests at_most closed erasures
  unsure_promised h = promised 1 all_unsure (replicate 64 0) zero_words all_unsure 0 (fillings_zeros 32) unsure_left unsure_count (rw (long, fit) refl) h

-- ---- a refused call: its number, zeros and no, and the cells as they were

abbrev Refuses : (l : ℕ) (r : List ℕ) → ℕ → Type 0
Refuses l r n =
    (after : List ℕ) (a : Result Report Refusal) → DecodeDone 4 l r (replicate 64 0) (replicate 256 7) [] after a → (decode_numbers a ≡ (n, 0, 0, false)) × (after ≡ replicate 256 7)

-- no iterations; a cell too few; a cell 3
pub decode_refused : Refuses 0 zero_sheet 2 × Refuses 1 (replicate 255 0) 3 × Refuses 1 (set zero_sheet 9 3) 4
unfolding given decode_tests at_most
decode_refused = (
  λ after a h. (numbers_are (decode_numbers a) h.refusal h.count h.erasures h.closed, h.cells),
  λ after a h. (numbers_are (decode_numbers a) h.refusal h.count h.erasures h.closed, h.cells),
  λ after a h. (numbers_are (decode_numbers a) h.refusal h.count h.erasures h.closed, h.cells),
)
