-- Examples of what is printed: the four numbers in their order and the lines after them, which the checker computes, the whole example of
-- document 01, by the array theorem and the laws of the text, and a whole sheet that zero filling decides.
-- Assumes nothing.
use mathlib.Core.Path.{◌≡◌, refl, sym, ap, ◌∙◌}
use mathlib.Core.Bool.{true}
use mathlib.Core.List.{List, [], ◌∷◌, ◌++◌}
use Prim.Native.Nat.{ℕ, ◌+◌, ◌*◌}
use native.Mathlib.Omega.{arith}
use borrow.Author.Tests.{ltb-true}
use lib.Dec.{ltb}
use lib.ListN.{drop, replicate}
use Rattle.laws.specs.Digits.{sum_over, ones_in}
use Rattle.laws.specs.Sums.{sum_to}
use Rattle.laws.proofs.Tests.{every_each}
use Rattle.degree.specs.declared.Degree.TheVariants.{Four}
use Rattle.std.specs.Prelude.{Some}
use Rattle.degree.specs.Degree.{named}
use Rattle.line.specs.Cells.{erasures, distance, filled}
use Rattle.line.specs.Codeword.{is_codeword}
use Rattle.line.specs.Bounded.{itself, within2, bounded}
use Rattle.line.specs.Clauses.{reach, same, agrees, by_reach, clause, count}
use Rattle.line.specs.Refusals.{refusal, at_most}
use Rattle.line.proofs.Refusing.{at_most_small}
use Rattle.line.specs.Decoding.{list_to}
use Rattle.array.specs.Arrays.{line, lines, transpose}
use Rattle.array.specs.Halves.{row_count, column_count}
use Rattle.array.specs.Plain.{plain, plain_count, RowCondition}
use Rattle.array.specs.Working.Steps.{IsArray}
use Rattle.array.proofs.SheetExamples.{zero_words, zero_sheet, zero_sent, tied_rows, tied_array, tied_left, tied_count}
use Rattle.array.proofs.Theorem.{sent_closed, sent_known, first_half, array_theorem}
use Rattle.text.specs.Text.{first_line, shaped, known, cells_of, sheet_tests, decimal_digits, decimal, number_text, numbers_text, line_text, array_text, report_text, refusal_text, decoded_text, printed}
use Rattle.text.proofs.SheetLaws.{printed_taken}
use Rattle.text.proofs.ReadBack.{read_back}

-- one unsure cell, count 64, 3 unsure cells and closed: "0 64 3 1", and the line "?"
pub numbers_and_lines : report_text 1 (2 ∷ []) 64 3 true ≡ 48 ∷ 32 ∷ 54 ∷ 52 ∷ 32 ∷ 51 ∷ 32 ∷ 49 ∷ 10 ∷ 63 ∷ 10 ∷ []
unfolding report_text numbers_text number_text decimal decimal_digits array_text line_text lines
numbers_and_lines = refl

-- refused as 3: "3 0 0 0"
pub refused_as_three : refusal_text 3 ≡ 51 ∷ 32 ∷ 48 ∷ 32 ∷ 48 ∷ 32 ∷ 48 ∷ 10 ∷ []
unfolding refusal_text numbers_text number_text decimal decimal_digits
refused_as_three = refl

-- ---- sheets of degree 4 that come out as zeros

-- k lines 0000000000000000
abbrev zero_lines : ℕ → List ℕ
zero_lines k = lines (λ i. replicate 16 48 ++ (10 ∷ [])) k

-- what is printed then, with a count of 64: "0 64 0 1", and the lines
abbrev pub output : List ℕ
output = 48 ∷ 32 ∷ 54 ∷ 52 ∷ 32 ∷ 48 ∷ 32 ∷ 49 ∷ 10 ∷ zero_lines 16

-- a text whose lines are those of the array r, which decoding with filling words of 0 leaves as zeros
printed_zeros : (input r : List ℕ) → (refusal (sheet_tests input) ≡ 0) × (named (first_line input) ≡ Some Four)
    → IsArray Four r → drop 2 input ≡ array_text 16 r → plain Four 1 r r zero_words ≡ zero_sheet → plain_count Four 1 r r zero_words ≡ 64 → printed input ≡ output
unfolding decoded_text report_text numbers_text number_text decimal decimal_digits array_text line_text lines
printed_zeros input r taken array lines_read left counted =
    sym (printed_taken input Four taken) ∙ ap (decoded_text Four) (ap (cells_of 16) lines_read ∙ read_back 16 array)
    ∙ rw (left, counted, sent_known Four zero_sheet zero_sent, sent_closed Four zero_sheet zero_sent) refl

-- ---- document 01: "Input 4, then 1000100000000000, then fifteen lines 0000000000000000: it prints 0 64 0 1, then sixteen lines
-- 0000000000000000."

abbrev pub input : List ℕ
input = 52 ∷ 10 ∷ 49 ∷ 48 ∷ 48 ∷ 48 ∷ 49 ∷ (replicate 11 48 ++ (10 ∷ zero_lines 15))

-- the array that is read
abbrev received : List ℕ
received = 1 ∷ 0 ∷ 0 ∷ 0 ∷ 1 ∷ replicate 251 0

received_array : IsArray Four received
unfolding at_most
received_array = record { long = refl; small = at_most_small 2 received refl }

lines_read : drop 2 input ≡ array_text 16 received
unfolding array_text line_text lines
lines_read = refl

-- two wrong bits in row 0, none elsewhere
near : RowCondition Four received zero_sheet
unfolding distance erasures
near i h =
    ltb-true (2 * distance (line 16 received i) (line 16 zero_sheet i) + erasures (line 16 received i)) 6
    (every_each (λ i. ltb (2 * distance (line 16 received i) (line 16 zero_sheet i) + erasures (line 16 received i)) 6) 16 refl i h)

decoded : plain Four 1 received received zero_words ≡ zero_sheet
decoded = array_theorem Four zero_sheet zero_sent received received_array 1 zero_words (omega arith) near

-- 2 decodings a line, in 16 rows and 16 columns
rows_counted : row_count Four received received zero_words ≡ 32
unfolding row_count sum_to count clause erasures
rows_counted = refl

columns_counted : column_count Four zero_sheet received (drop 16 zero_words) ≡ 32
unfolding column_count row_count sum_to count clause erasures by_reach reach same agrees filled distance bounded within2 itself is_codeword sum_over ones_in transpose list_to
columns_counted = refl

all_counted : plain_count Four 1 received received zero_words ≡ 64
unfolding plain_count
all_counted =
    rw (first_half Four zero_sheet zero_sent received received_array zero_words near, rows_counted, columns_counted) refl

taken : (refusal (sheet_tests input) ≡ 0) × (named (first_line input) ≡ Some Four)
unfolding sheet_tests shaped known lines
taken = (refl, refl)

pub whole_example : printed input ≡ output
whole_example = printed_zeros input received taken received_array lines_read decoded all_counted

-- ---- "with zero filling": sixteen lines 100010??00000000, document 01's P7, which filling bits of 0 lead to zeros and those of 1 to word_g

abbrev pub tied_input : List ℕ
tied_input = 52 ∷ 10 ∷ lines (λ i. 49 ∷ 48 ∷ 48 ∷ 48 ∷ 49 ∷ 48 ∷ 63 ∷ 63 ∷ (replicate 8 48 ++ (10 ∷ []))) 16

tied_taken : (refusal (sheet_tests tied_input) ≡ 0) × (named (first_line tied_input) ≡ Some Four)
unfolding sheet_tests shaped known lines
tied_taken = (refl, refl)

tied_read : drop 2 tied_input ≡ array_text 16 tied_rows
unfolding array_text line_text lines
tied_read = refl

pub tied_example : printed tied_input ≡ output
tied_example = printed_zeros tied_input tied_rows tied_taken tied_array tied_read tied_left tied_count
