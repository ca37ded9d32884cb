-- Sheets in three blocks of 512 bytes, byte by byte, as document 02 sets them out.
use Rattle.std.specs.Prelude.{◌≡◌, ℕ, zero, suc, ◌+◌, ◌-◌, ◌*◌, ◌/◌, ◌%◌, ◌^◌, ◌<◌, Bool, true, cond, not, ◌&&◌, List, length, ◌==◌, nat_lt, slice_index, slice_set}
use Rattle.laws.specs.Tests.{every}
use Rattle.second.specs.Working.Loops.{written}
use Rattle.second.specs.Working.Arrays.{all_below}

-- bytes 0 to 3 of a block: its number, 6, and the sheet number, high byte first
abbrev pub head_byte : (number block p : ℕ) → ℕ
head_byte number block p = cond (p == 0) block (cond (p == 1) 6 (cond (p == 2) (number / 256 % 256) (number % 256)))

-- the row of byte p of a block, from byte 4 on: 31 rows of 16 bytes
abbrev pub row_of : (block p : ℕ) → ℕ
row_of block p = 31 * block + (p - 4) / 16

-- four cells from cell i on, two bits a cell, the first lowest
abbrev pub packed : (cells : List ℕ) (i : ℕ) → ℕ
packed cells i = slice_index cells i % 4 + 4 * (slice_index cells (i + 1) % 4) + 16 * (slice_index cells (i + 2) % 4) + 64 * (slice_index cells (i + 3) % 4)

-- byte q of a row; 0 after row 63
abbrev pub row_byte : (cells : List ℕ) (row q : ℕ) → ℕ
row_byte cells row q = cond (nat_lt row 64) (packed cells (64 * row + 4 * q)) 0

-- byte p of a block; its sums are 0 here
abbrev pub block_byte : (number : ℕ) (cells : List ℕ) (block p : ℕ) → ℕ
block_byte number cells block p =
    cond (nat_lt p 4) (head_byte number block p) (cond (nat_lt p 500) (row_byte cells (row_of block p) ((p - 4) % 16)) 0)

-- the file with all bytes of the sheet, and 0 for each sum
abbrev pub with_bytes : (number : ℕ) (cells file : List ℕ) → List ℕ
with_bytes number cells file = written (λ at. at) (λ at. block_byte number cells (at / 512) (at % 512)) 1536 file

-- byte p of a block of a file
abbrev pub byte_in : (file : List ℕ) (block p : ℕ) → ℕ
byte_in file block p = slice_index file (512 * block + p)

-- the sums A and B modulo 255 of k bytes: each byte is added to A, then A, with that byte, to B
unfoldable pub sum_a : (byte : ℕ → ℕ) → ℕ → ℕ
sum_a byte zero = 0
sum_a byte (suc k) = (sum_a byte k + byte k) % 255

unfoldable pub sum_b : (byte : ℕ → ℕ) → ℕ → ℕ
sum_b byte zero = 0
sum_b byte (suc k) = (sum_b byte k + (sum_a byte k + byte k) % 255) % 255

-- a block with its sums
unfoldable pub with_sums : (block : ℕ) (file : List ℕ) → List ℕ
with_sums block file = slice_set (slice_set file (512 * block + 510) (sum_a (byte_in file block) 510)) (512 * block + 511) (sum_b (byte_in file block) 510)

-- k blocks with their sums
unfoldable pub summed : ℕ → List ℕ → List ℕ
summed zero file = file
summed (suc k) file = with_sums k (summed k file)

-- the sheet number of a file
abbrev pub number_in : (file : List ℕ) → ℕ
number_in file = 256 * slice_index file 2 + slice_index file 3

-- the tests of a file: bytes 0 to 3 of each block are as they should be, with the sheet number of block 0
abbrev pub head_right : (file : List ℕ) → ℕ → Bool
head_right file i = byte_in file (i / 4) (i % 4) == head_byte (number_in file) (i / 4) (i % 4)

unfoldable pub heads_right : (file : List ℕ) → Bool
heads_right file = every (head_right file) 12

-- the sums of a block
abbrev pub sums_right : (file : List ℕ) → ℕ → Bool
sums_right file block = byte_in file block 510 == sum_a (byte_in file block) 510 && byte_in file block 511 == sum_b (byte_in file block) 510

unfoldable pub all_sums_right : (file : List ℕ) → Bool
all_sums_right file = every (sums_right file) 3

-- no cell of four is 3
abbrev pub no_three : (byte : ℕ) → Bool
no_three byte = not (byte % 4 == 3) && (not (byte / 4 % 4 == 3) && (not (byte / 16 % 4 == 3) && not (byte / 64 == 3)))

-- no cell of a byte of a row is 3, and a filler byte, which one after row 63 is, is 0
abbrev pub row_byte_right : (row byte : ℕ) → Bool
row_byte_right row byte = cond (nat_lt row 64) (no_three byte) (byte == 0)

-- byte p of a block: no cell is 3, and a filler byte is 0; the others are tested before
abbrev pub byte_right : (block p byte : ℕ) → Bool
byte_right block p byte =
    cond (nat_lt p 4) true (cond (nat_lt p 500) (row_byte_right (row_of block p) byte) (cond (nat_lt p 510) (byte == 0) true))

abbrev pub byte_right_at : (file : List ℕ) → ℕ → Bool
byte_right_at file at = byte_right (at / 512) (at % 512) (slice_index file at)

unfoldable pub all_bytes_right : (file : List ℕ) → Bool
all_bytes_right file = every (byte_right_at file) (length file)

-- the refusal number of a file of 1,536 bytes
abbrev pub content_refusal : (file : List ℕ) → ℕ
content_refusal file = cond (heads_right file) (cond (all_sums_right file) (cond (all_bytes_right file) 0 7) 6) 5

-- of a call that reads a file into so many cells
abbrev pub read_refusal : (long : ℕ) (file : List ℕ) → ℕ
read_refusal long file = cond (long == 4096) (cond (length file == 1536) (content_refusal file) 5) 3

-- of a call that writes cells into so many bytes
abbrev pub write_refusal : (cells : List ℕ) (long : ℕ) → ℕ
write_refusal cells long = cond (length cells == 4096) (cond (long == 1536) (cond (all_below 3 cells) 0 4) 3) 3

-- cell k of a byte
abbrev pub cell_in : (byte k : ℕ) → ℕ
cell_in byte k = byte / 2 ^ (2 * k) % 4

-- cell i of a file: row i / 64 is in block i / 64 / 31
abbrev pub file_cell : (file : List ℕ) (i : ℕ) → ℕ
file_cell file i = cell_in (slice_index file (512 * (i / 64 / 31) + 4 + 16 * (i / 64 % 31) + i % 64 / 4)) (i % 4)

-- what a call that reads leaves: the file's number and all its cells, or 0 and the cells as they came
abbrev pub ReadOrKept : (file before : List ℕ) (refusal number : ℕ) (after : List ℕ) → Type 0
ReadOrKept file before refusal number after =
    (refusal ≡ 0 → (number ≡ number_in file) × (after ≡ written (λ i. i) (file_cell file) (length before) before)) × (0 < refusal → (number ≡ 0) × (after ≡ before))

-- what a call that writes leaves: all bytes and sums, or the file as it came
abbrev pub WrittenOrKept : (number : ℕ) (cells before : List ℕ) (refusal : ℕ) (after : List ℕ) → Type 0
WrittenOrKept number cells before refusal after =
    (refusal ≡ 0 → after ≡ summed 3 (with_bytes number cells before)) × (0 < refusal → after ≡ before)
