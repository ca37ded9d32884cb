-- Sheets in blocks. Document 02, W-201: "The recorder keeps a degree 6 sheet as three blocks of 512 bytes." A file is a list of bytes,
-- and its sheet 64 rows of 64 cells in one list, row after row.
use Rattle.std.specs.Prelude.{Bool, cond, ◌&&◌, List, [], ◌∷◌, ◌++◌, ℕ, zero, suc, ◌+◌, ◌-◌, ◌*◌, ◌/◌, ◌%◌, eqb, length, take, drop, replicate}
use Rattle.laws.specs.Tests.{every}
use Rattle.line.specs.Cells.{cell as byte}
use Rattle.line.specs.Refusals.{at_most}
use Rattle.array.specs.Arrays.{line, lines}

-- ---- what is written

-- the rows that block b holds: 31, but "block 2 holds rows 62 and 63"
abbrev pub rows_in : ℕ → ℕ
rows_in b = cond (eqb b 2) 2 31

-- n bytes of cells, "two bits a cell, cell 0 lowest"
unfoldable pub packed : ℕ → List ℕ → List ℕ
packed zero m = []
packed (suc n) m = (byte m 0 + 4 * byte m 1 + 16 * byte m 2 + 64 * byte m 3) ∷ packed n (drop 4 m)

-- bytes 0 to 509 of block b of sheet m, whose number is s. "Byte 0 is the block's number, 0 to 2; byte 1 is 6; bytes 2 and 3 are the sheet
-- number, high byte first. Bytes 4 to 499 hold 31 rows of 16 bytes", those from row 31 b on; block 2 holds two "and then zeros. Bytes
-- 500 to 509 are zero."
unfoldable pub content : (b s : ℕ) → List ℕ → List ℕ
content b s m =
    b ∷ 6 ∷ s / 256 ∷ s % 256
    ∷ (packed (rows_in b * 16) (drop (31 * b * 64) m) ++ (replicate (496 - rows_in b * 16) 0 ++ replicate 10 0))

-- "the two Fletcher sums A and B modulo 255": of the bytes after those whose sums are a and b, "each byte is added to A, then A to B"
unfoldable pub fletcher : (a b : ℕ) → List ℕ → ℕ × ℕ
fletcher a b [] = (a, b)
fletcher a b (x ∷ xs) = fletcher ((a + x) % 255) ((b + (a + x) % 255) % 255) xs

-- "both starting at 0"
abbrev pub sum_a : List ℕ → ℕ
sum_a xs = (fletcher 0 0 xs).0

abbrev pub sum_b : List ℕ → ℕ
sum_b xs = (fletcher 0 0 xs).1

-- "Bytes 510 and 511 are the two Fletcher sums A and B modulo 255 of bytes 0 to 509"
unfoldable pub block_of : (b s : ℕ) → List ℕ → List ℕ
block_of b s m = content b s m ++ (sum_a (content b s m) ∷ sum_b (content b s m) ∷ [])

-- the file of sheet m with number s: its three blocks
unfoldable pub file_of : (s : ℕ) → List ℕ → List ℕ
file_of s m = lines (λ b. block_of b s m) 3

-- ---- what is read

-- block b of a file
abbrev pub block : List ℕ → ℕ → List ℕ
block f b = line 512 f b

-- the sheet number in a block, and that of a file, which all its blocks have
abbrev pub number_in : List ℕ → ℕ
number_in k = byte k 2 * 256 + byte k 3

abbrev pub sheet_number : List ℕ → ℕ
sheet_number f = number_in (block f 0)

-- 5: "a file to read whose length is not 1,536 .. or a wrong byte 0 or 1, or sheet numbers that differ"
unfoldable pub formed : List ℕ → ℕ → Bool
formed f b =
    eqb (byte (block f b) 0) b && (eqb (byte (block f b) 1) 6 && eqb (number_in (block f b)) (sheet_number f))

unfoldable pub is_file : List ℕ → Bool
is_file f = eqb (length f) 1536 && every (formed f) 3

-- 6: "a sum that fails"; sums are compared as bytes, so 255 is no 0
unfoldable pub summed : List ℕ → Bool
summed k = eqb (byte k 510) (sum_a (take 510 k)) && eqb (byte k 511) (sum_b (take 510 k))

-- the bytes of the rows of block b, and those after them, which are filler: bytes 500 to 509, and in block 2 all after row 63
abbrev pub row_bytes : List ℕ → ℕ → List ℕ
row_bytes k b = take (rows_in b * 16) (drop 4 k)

abbrev pub filler : List ℕ → ℕ → List ℕ
filler k b = drop (4 + rows_in b * 16) (take 510 k)

-- the cells of bytes
unfoldable pub unpacked : List ℕ → List ℕ
unpacked [] = []
unpacked (x ∷ xs) = x % 4 ∷ x / 4 % 4 ∷ x / 16 % 4 ∷ x / 64 % 4 ∷ unpacked xs

-- 7: "a cell of 3 or a filler byte not zero"
unfoldable pub sound : List ℕ → ℕ → Bool
sound k b = at_most 2 (unpacked (row_bytes k b)) && at_most 0 (filler k b)

-- the sheet that a good file holds
unfoldable pub sheet_in : List ℕ → List ℕ
sheet_in f = lines (λ b. unpacked (row_bytes (block f b) b)) 3
