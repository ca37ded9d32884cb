-- What encode, extract and the look-up of a row promise, in numbers, by calls of degree 4: so that a promise and its code can't be changed
-- alike. What decode promises is in SheetExamples.
-- Assumes nothing.
use mathlib.Core.Path.{◌≡◌, refl}
use mathlib.Core.List.{List, [], ◌∷◌}
use Prim.Native.Nat.{ℕ}
use lib.ListN.{replicate, set}
use Rattle.line.specs.Refusals.{given, at_most}
use Rattle.array.specs.Arrays.{lines}
use Rattle.array.specs.Encoding.{extracted}
use Rattle.array.specs.Refusals.{coding_tests, row_tests}
use Rattle.array.specs.Entries.{Encoded, Extracted, row_refusal, row_part}

-- so many zeros
abbrev blank : ℕ → List ℕ
blank n = replicate n 0

-- ---- encode: the refusal, and the cells of a refused call

abbrev EncodeTells : (message : List ℕ) → ℕ → Type 0
EncodeTells message n = (after : List ℕ) (no : ℕ) → Encoded 4 message (replicate 256 7) after no → (no ≡ n) × (after ≡ replicate 256 7)

-- ones are taken
pub encode_taken : (after : List ℕ) (no : ℕ) → Encoded 4 (replicate 49 1) (replicate 256 7) after no → no ≡ 0
unfolding coding_tests at_most
encode_taken after n h = h.refusal

-- a 2 in the message; a cell too many, alone and with a 2
pub encode_refused : EncodeTells (set (blank 49) 48 2) 4 × EncodeTells (blank 50) 3 × EncodeTells (set (blank 50) 0 2) 3
unfolding given coding_tests at_most
encode_refused = (λ after n h. (h.refusal, h.cells), λ after n h. (h.refusal, h.cells), λ after n h. (h.refusal, h.cells))

-- ---- extract: the refusal and the message

abbrev ExtractTells : (cells : List ℕ) → ℕ → List ℕ → Type 0
ExtractTells cells n message = (after : List ℕ) (no : ℕ) → Extracted 4 cells (replicate 49 7) after no → (no ≡ n) × (after ≡ message)

-- unsure cells are taken: cell (8, 8) of the array is the first of the message and cell (14, 13) its last but one; cell (7, 8) is a check
-- cell. A cell 3 is not.
pub extract_numbers :
    ExtractTells (set (set (set (blank 256) 136 2) 237 1) 120 2) 0 (2 ∷ set (blank 48) 46 1)
    × ExtractTells (set (blank 256) 0 3) 4 (replicate 49 7)
    × ExtractTells (set (blank 255) 0 3) 3 (replicate 49 7)
unfolding given coding_tests at_most extracted lines
extract_numbers = (λ after n h. (h.refusal, h.message), λ after n h. (h.refusal, h.message), λ after n h. (h.refusal, h.message))

-- ---- the look-up of a row: row 3, row 16, and row 3 where a cell is 3

abbrev dotted : List ℕ
dotted = set (set (blank 256) 48 1) 63 2

pub row_numbers :
    (row_refusal 4 dotted 3 ≡ 0) × (row_part 4 dotted 3 ≡ set (set (blank 16) 0 1) 15 2)
    × (row_refusal 4 dotted 16 ≡ 3) × (row_part 4 dotted 16 ≡ [])
    × (row_refusal 4 (set dotted 255 3) 3 ≡ 4) × (row_part 4 (set dotted 255 3) 3 ≡ [])
unfolding given row_tests at_most
row_numbers = (refl, refl, refl, refl, refl, refl)
