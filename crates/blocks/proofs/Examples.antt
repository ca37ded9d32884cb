-- Examples that tie the definitions down: sums of known texts, where rows, cells and the sheet number stand in a file, and files with one
-- fault and with several.
-- Assumes nothing.
use mathlib.Core.Path.{◌≡◌, refl}
use mathlib.Core.Bool.{Bool, true, ◌&&◌}
use mathlib.Core.List.{List, [], ◌∷◌, ◌++◌, map}
use Prim.Native.Nat.{ℕ, ◌+◌, ◌*◌, ◌/◌, ◌%◌}
use lib.Dec.{T, eqb}
use lib.ListN.{take, replicate, set}
use Rattle.line.specs.Cells.{cell}
use Rattle.line.specs.Refusals.{refusal, at_most}
use Rattle.array.specs.Arrays.{lines}
use Rattle.std.specs.Prelude.{Result}
use Rattle.line.specs.declared.refusals.Refusal.{Refusal}
use Rattle.blocks.specs.Blocks.{packed, content, fletcher, block_of, file_of, is_file, formed, summed, sound, unpacked, sheet_in}
use Rattle.blocks.specs.Entries.{read_tests, write_tests, read_numbers, ReadDone, WriteDone}

-- ---- sums of texts that are commonly used to test Fletcher's: "abcde" has 240 and 200, "abcdefgh" 39 and 6. No sum is 255.

pub known_sums : map (fletcher 0 0) ((97 ∷ 98 ∷ 99 ∷ 100 ∷ 101 ∷ []) ∷ (97 ∷ 98 ∷ 99 ∷ 100 ∷ 101 ∷ 102 ∷ 103 ∷ 104 ∷ []) ∷ (255 ∷ []) ∷ [])
    ≡ (240, 200) ∷ (39, 6) ∷ (0, 0) ∷ []
unfolding fletcher
known_sums = refl

-- ---- four cells

pub one_byte : packed 1 (1 ∷ 2 ∷ 0 ∷ 1 ∷ []) ≡ 73 ∷ []
unfolding packed
one_byte = refl

pub four_cells : unpacked (73 ∷ []) ≡ 1 ∷ 2 ∷ 0 ∷ 1 ∷ []
unfolding unpacked
four_cells = refl

-- ---- a sheet of zeros but for five cells, with the number 4660, which is 18 and 52: where they stand in its blocks

abbrev dotted : List ℕ
dotted = set (set (set (set (set (replicate 4096 0) 1 1) (30 * 64 + 63) 2) (31 * 64) 1) (62 * 64 + 4) 2) (63 * 64 + 63) 1

-- block b has x at byte p
abbrev has : ℕ × ℕ × ℕ → Bool
has (b, p, x) = eqb (cell (block_of b 4660 dotted) p) x

abbrev all : List (ℕ × ℕ × ℕ) → Bool
all [] = true
all (t ∷ ts) = has t && all ts

-- the four bytes before the rows; row 0; the last byte of row 30; row 31; rows 62 and 63, and the zero after them; the sums
pub dotted_bytes : T
    (all
    ((0, 0, 0) ∷ (1, 0, 1) ∷ (2, 0, 2) ∷ (2, 1, 6) ∷ (0, 2, 18) ∷ (2, 3, 52)
    ∷ (0, 4, 4) ∷ (0, 499, 128) ∷ (0, 500, 0) ∷ (1, 4, 1) ∷ (2, 5, 2) ∷ (2, 35, 64) ∷ (2, 36, 0)
    ∷ (0, 510, 208) ∷ (0, 511, 174) ∷ (1, 510, 78) ∷ (1, 511, 53) ∷ (2, 510, 144) ∷ (2, 511, 102) ∷ []))
unfolding block_of content packed fletcher
dotted_bytes = tt

-- ---- files of a sheet of zeros, with faults

-- a block by its number and the sheet's, with x put to byte p, and its two last bytes
abbrev faulty : (b s p x a c : ℕ) → List ℕ
faulty b s p x a c = set (b ∷ 6 ∷ s / 256 ∷ s % 256 ∷ replicate 506 0) p x ++ (a ∷ c ∷ [])

-- the blocks of sheet 0
abbrev first : List ℕ
first = faulty 0 0 0 0 6 249

abbrev second : List ℕ
second = faulty 1 0 0 1 7 249

abbrev third : List ℕ
third = faulty 2 0 0 2 8 249

abbrev blank : List ℕ
blank = replicate 4096 0

abbrev reading : List ℕ → List (ℕ × Bool)
reading f = read_tests f blank []

abbrev calls : List (List (ℕ × Bool))
calls =
    -- no fault; a byte too few; no byte, and a cell too few; none of the cells' old values is tested
    reading (first ++ (second ++ third))
    ∷ reading (take 1535 (first ++ (second ++ third)))
    ∷ read_tests [] (take 4095 blank) []
    ∷ read_tests (first ++ (second ++ third)) (set blank 0 9) []
    -- blocks in each other's place; byte 1 of block 2; a sheet number in block 1; with sums that are right
    ∷ reading (second ++ (first ++ third))
    ∷ reading (first ++ (second ++ faulty 2 0 1 7 9 248))
    ∷ reading (first ++ (faulty 1 1 0 1 8 246 ++ third))
    -- sum A of block 0, sum B of block 2; sheet 249, whose sum A in block 0 is 0; and 255 in its place
    ∷ reading (faulty 0 0 0 0 7 249 ++ (second ++ third))
    ∷ reading (first ++ (second ++ faulty 2 0 0 2 8 250))
    ∷ reading (faulty 0 249 0 0 0 12 ++ (faulty 1 249 0 1 1 12 ++ faulty 2 249 0 2 2 12))
    ∷ reading (faulty 0 249 0 0 255 12 ++ (faulty 1 249 0 1 1 12 ++ faulty 2 249 0 2 2 12))
    -- a cell of 3; byte 36 is a row's in block 0, and filler in block 2; byte 509
    ∷ reading (faulty 0 0 4 3 9 237 ++ (second ++ third))
    ∷ reading (faulty 0 0 36 1 7 213 ++ (second ++ third))
    ∷ reading (first ++ (second ++ faulty 2 0 36 1 9 213))
    ∷ reading (first ++ (faulty 1 0 509 1 8 250 ++ third))
    -- a sum of block 0 and byte 1 of block 2; a cell of 3 in block 0 and a sum of block 2
    ∷ reading (faulty 0 0 0 0 7 249 ++ (second ++ faulty 2 0 1 7 9 248))
    ∷ reading (faulty 0 0 4 3 9 237 ++ (second ++ faulty 2 0 0 2 8 250))
    -- writing: a cell too few, a byte too many, a cell of 3, and all of these
    ∷ write_tests (take 4095 blank) (replicate 1536 0)
    ∷ write_tests blank (replicate 1537 0)
    ∷ write_tests (set blank 4095 3) (replicate 1536 0)
    ∷ write_tests (set (take 4095 blank) 0 3) (replicate 1537 0)
    ∷ write_tests (set blank 4095 2) (replicate 1536 255)
    ∷ []

pub table : map refusal calls ≡ 0 ∷ 5 ∷ 3 ∷ 0 ∷ 5 ∷ 5 ∷ 5 ∷ 6 ∷ 6 ∷ 0 ∷ 6 ∷ 7 ∷ 0 ∷ 7 ∷ 7 ∷ 5 ∷ 6 ∷ 3 ∷ 3 ∷ 4 ∷ 3 ∷ 0 ∷ []
unfolding read_tests write_tests is_file formed summed sound fletcher unpacked at_most
table = refl

-- ---- what the reader and the writer promise: the refusal and the sheet number, and every cell or byte

abbrev ReadTells : (f : List ℕ) → ℕ × ℕ → List ℕ → Type 0
ReadTells f n left = (after : List ℕ) (a : Result ℕ Refusal) → ReadDone f (replicate 4096 7) [] after a → (read_numbers a ≡ n) × (after ≡ left)

-- the file of a sheet of zeros with the number 4660, which is 18 and 52
abbrev blank_file : List ℕ
blank_file = faulty 0 4660 0 0 76 57 ++ (faulty 1 4660 0 1 77 57 ++ faulty 2 4660 0 2 78 57)

-- that file; a cell of 3; no byte
pub read_numbers_lem :
    ReadTells blank_file (0, 4660) blank
    × ReadTells (faulty 0 0 4 3 9 237 ++ (second ++ third)) (7, 0) (replicate 4096 7)
    × ReadTells [] (5, 0) (replicate 4096 7)
unfolding read_tests is_file formed summed sound fletcher unpacked at_most sheet_in lines
read_numbers_lem = (λ after a h. (rw (← h.refusal, ← h.number) refl, h.cells), λ after a h. (rw (← h.refusal, ← h.number) refl, h.cells), λ after a h. (rw (← h.refusal, ← h.number) refl, h.cells))

abbrev WriteTells : (cells : List ℕ) → ℕ → (left : List ℕ) → Type 0
WriteTells cells n left = (after : List ℕ) (no : ℕ) → WriteDone 4660 cells (replicate 1536 7) after no → (no ≡ n) × (after ≡ left)

-- that file; a cell of 3; a cell too few
pub write_numbers :
    WriteTells blank 0 blank_file
    × WriteTells (set blank 4095 3) 4 (replicate 1536 7)
    × WriteTells (take 4095 blank) 3 (replicate 1536 7)
unfolding write_tests at_most file_of block_of content packed fletcher lines
write_numbers = (λ after n h. (h.refusal, h.bytes), λ after n h. (h.refusal, h.bytes), λ after n h. (h.refusal, h.bytes))
