-- The blocks of a file: what is in a block that was written, and the two laws: reading what was written yields the sheet and its number,
-- and writing what was read yields the file's own bytes.
-- Assumes nothing.
use mathlib.Core.Path.{◌≡◌, refl, sym, ap, ap₂, ◌∙◌}
use mathlib.Core.Bool.{Bool, true, false, cond, ◌&&◌}
use mathlib.Core.List.{List, [], ◌∷◌, ◌++◌, append_assoc, append-nil}
use Prim.Native.Nat.{ℕ, zero, suc, ◌+◌, ◌-◌, ◌*◌, ◌/◌, ◌%◌, ◌<◌, ◌≤◌}
use native.Mathlib.Omega.{arith}
use lib.Dec.{eqb, leb}
use lib.ListN.{length, take, drop, replicate, length-append, length-drop, length-replicate, replicate-append-replicate, take-append-drop, drop_of_length-le}
use lib.Seq.{take_at, drop_at, get_or_at, get_or-append-add, get_or-take, get_or-drop, length-take-le, take-take, take_all, take-add, drop-cons}
use borrow.Author.Tests.{eqb-true, eq-eqb, leb-true, le-leb, not-false}
use Rattle.laws.specs.Tests.{every}
use Rattle.laws.proofs.Tests.{and_true, every_true, every_each}
use Rattle.line.specs.Cells.{cell, Cells}
use Rattle.line.specs.Refusals.{refusal, at_most}
use Rattle.line.proofs.Refusing.{none_applies}
use Rattle.array.specs.Arrays.{lines}
use Rattle.array.proofs.ArrayLaws.{Even, length_line, length_lines, line_lines, lines_are, line_small}
use Rattle.words.proofs.PairLaws.{bytes_take, bytes_drop}
use Rattle.blocks.specs.Blocks.{rows_in, packed, content, sum_a, sum_b, block_of, file_of, block, number_in, sheet_number, formed, is_file, summed, row_bytes, filler, unpacked, sound, sheet_in}
use Rattle.blocks.specs.Entries.{read_tests, ReadsBack}
use Rattle.blocks.specs.Working.Adding.{Bytes}
use Rattle.blocks.proofs.PackedCells.{length_packed, length_unpacked, unpacked_packed, packed_unpacked}
use Rattle.blocks.proofs.Parts.{small_part, drop_take}
use Rattle.blocks.proofs.Passing.{take_four}

-- ---- three blocks, and their rows

-- what holds of 0, 1 and 2
pub of_three : (P : ℕ → Type 0) → P 0 → P 1 → P 2 → (b : ℕ) → b < 3 → P b
of_three P p q r zero h = p
of_three P p q r (suc zero) h = q
of_three P p q r (suc (suc zero)) h = r
of_three P p q r (suc (suc (suc b))) h = absurd (omega arith)

pub rows_few : (b : ℕ) → rows_in b ≤ 31
rows_few b = go (eqb b 2)
  where
    go : (t : Bool) → cond t 2 31 ≤ 31
    go true = omega arith
    go false = omega arith

-- the rows of a block are among the sheet's
pub rows_within : (b : ℕ) → b < 3 → 31 * b * 64 + rows_in b * 64 ≤ 4096
rows_within = of_three (λ b. 31 * b * 64 + rows_in b * 64 ≤ 4096) (omega arith) (omega arith) (omega arith)

-- ---- cells and bytes within a bound

pub small_at_most : (bound : ℕ) (l : List ℕ) → ((i : ℕ) → cell l i < suc bound) → at_most bound l ≡ true
unfolding at_most
small_at_most bound [] h = refl
small_at_most bound (c ∷ l) h = ap₂ ◌&&◌ (le-leb c bound (omega (arith, h 0))) (small_at_most bound l (λ i. h (suc i)))

at_most_zeros : (n : ℕ) → at_most 0 (replicate n 0) ≡ true
unfolding at_most
at_most_zeros zero = refl
at_most_zeros (suc n) = at_most_zeros n

all_zeros : (l : List ℕ) → at_most 0 l ≡ true → l ≡ replicate (length l) 0
unfolding at_most
all_zeros [] e = refl
all_zeros (c ∷ l) e =
    let h = and_true (leb c 0) (at_most 0 l) e in
    ap₂ {C = List ℕ} (λ x xs. x ∷ xs) (omega (arith, leb-true c 0 h.0)) (all_zeros l h.1)

-- ---- the parts of a block of 512 bytes

module _ (b : ℕ) (k : List ℕ) where
  pub rows_long : length k ≡ 512 → length (row_bytes k b) ≡ rows_in b * 16
  rows_long l = length-take-le (rows_in b * 16) (drop 4 k) (rw (length-drop 4 k) (omega (arith, rows_few b)))

  pub filler_long : length k ≡ 512 → length (filler k b) ≡ 506 - rows_in b * 16
  filler_long l = rw (length-drop (4 + rows_in b * 16) (take 510 k), length-take-le 510 k (omega arith)) (omega arith)

  pub parts_whole : take 4 k ++ (row_bytes k b ++ filler k b) ≡ take 510 k
  parts_whole =
      sym (append_assoc (take 4 k) (row_bytes k b) (filler k b))
      ∙ ap (λ (r : List ℕ). r ++ filler k b) (sym (take-add 4 (rows_in b * 16) k) ∙ sym (take-take (4 + rows_in b * 16) 510 k (omega (arith, rows_few b))))
      ∙ take-append-drop (4 + rows_in b * 16) (take 510 k)

-- ---- a block that is written

module _ (b s : ℕ) (m : List ℕ) where
  abbrev rows : List ℕ
  rows = packed (rows_in b * 16) (drop (31 * b * 64) m)

  abbrev zeros : List ℕ
  zeros = replicate (496 - rows_in b * 16) 0 ++ replicate 10 0

  abbrev sums : List ℕ
  sums = sum_a (content b s m) ∷ sum_b (content b s m) ∷ []

  pub zeros_are : zeros ≡ replicate (506 - rows_in b * 16) 0
  zeros_are =
      let e : 496 - rows_in b * 16 + 10 ≡ 506 - rows_in b * 16 = omega (arith, rows_few b) in
      replicate-append-replicate (496 - rows_in b * 16) 10 0 ∙ ap (λ (n : ℕ). replicate n 0) e

  rows_length : length rows ≡ rows_in b * 16
  rows_length = length_packed (rows_in b * 16) (drop (31 * b * 64) m)

  zeros_length : length zeros ≡ 506 - rows_in b * 16
  zeros_length = ap length zeros_are ∙ length-replicate (506 - rows_in b * 16) 0

  content_length : length (content b s m) ≡ 510
  unfolding content
  content_length = omega (arith, length-append rows zeros, rows_length, zeros_length, rows_few b)

  pub block_length : length (block_of b s m) ≡ 512
  unfolding block_of
  block_length = length-append (content b s m) sums ∙ omega (arith, content_length)

  block_content : take 510 (block_of b s m) ≡ content b s m
  unfolding block_of
  block_content = take_at (content b s m) sums 510 content_length

  block_number : number_in (block_of b s m) ≡ s
  unfolding block_of content
  block_number = omega arith

  block_first : cell (block_of b s m) 0 ≡ b
  unfolding block_of content
  block_first = refl

  block_degree : cell (block_of b s m) 1 ≡ 6
  unfolding block_of content
  block_degree = refl

  first_sum : cell (block_of b s m) 510 ≡ sum_a (content b s m)
  unfolding block_of
  first_sum = get_or_at (content b s m) (sum_a (content b s m)) (sum_b (content b s m) ∷ []) 0 510 content_length

  second_sum : cell (block_of b s m) 511 ≡ sum_b (content b s m)
  unfolding block_of
  second_sum = let e : length (content b s m) + 1 ≡ 511 = omega (arith, content_length) in rw e at (get_or-append-add (content b s m) sums 1 0)

  block_summed : summed (block_of b s m) ≡ true
  unfolding summed
  block_summed =
      rw block_content
      (ap₂ ◌&&◌ (eq-eqb (cell (block_of b s m) 510) (sum_a (content b s m)) first_sum) (eq-eqb (cell (block_of b s m) 511) (sum_b (content b s m)) second_sum))

  block_rows : row_bytes (block_of b s m) b ≡ rows
  unfolding block_of content
  block_rows = ap (take (rows_in b * 16)) (append_assoc rows zeros sums) ∙ take_at rows (zeros ++ sums) (rows_in b * 16) rows_length

  block_filler : filler (block_of b s m) b ≡ zeros
  unfolding content
  block_filler =
      ap (drop (4 + rows_in b * 16)) block_content
      ∙ drop_at (b ∷ 6 ∷ s / 256 ∷ s % 256 ∷ rows) zeros (4 + rows_in b * 16) (omega (arith, rows_length))

  block_cells : b < 3 → Cells 3 4096 m → unpacked (row_bytes (block_of b s m) b) ≡ take (rows_in b * 16 * 4) (drop (31 * b * 64) m)
  block_cells h c =
      ap unpacked block_rows
      ∙ unpacked_packed (rows_in b * 16) (drop (31 * b * 64) m) (λ i. rw (get_or-drop (31 * b * 64) m i 0) (omega (arith, c.small (31 * b * 64 + i)))) (rw (length-drop (31 * b * 64) m) (omega (arith, c.long, rows_within b h)))

-- ---- reading what was written

module _ (s : ℕ) (m : List ℕ) (hs : s < 65536) (c : Cells 3 4096 m) where
  even : Even 512 (λ b. block_of b s m) 3
  even b h = block_length b s m

  file_length : length (file_of s m) ≡ 1536
  unfolding file_of
  file_length = length_lines 512 (λ b. block_of b s m) 3 even

  block_is : (b : ℕ) → b < 3 → block (file_of s m) b ≡ block_of b s m
  unfolding file_of
  block_is b h = line_lines 512 (λ b. block_of b s m) 3 b even h

  number_is : sheet_number (file_of s m) ≡ s
  number_is = ap number_in (block_is 0 (omega arith)) ∙ block_number 0 s m

  all_formed : every (formed (file_of s m)) 3 ≡ true
  unfolding formed
  all_formed = every_true (formed (file_of s m)) 3 (λ b h.
      rw (block_is b h)
      (ap₂ ◌&&◌ (eq-eqb (cell (block_of b s m) 0) b (block_first b s m))
      (ap₂ ◌&&◌ (eq-eqb (cell (block_of b s m) 1) 6 (block_degree b s m)) (eq-eqb (number_in (block_of b s m)) (sheet_number (file_of s m)) (block_number b s m ∙ sym number_is)))))

  all_summed : every (λ b. summed (block (file_of s m) b)) 3 ≡ true
  all_summed = every_true (λ b. summed (block (file_of s m) b)) 3 (λ b h. ap summed (block_is b h) ∙ block_summed b s m)

  all_sound : every (λ b. sound (block (file_of s m) b) b) 3 ≡ true
  unfolding sound
  all_sound = every_true (λ b. sound (block (file_of s m) b) b) 3 (λ b h.
      rw (block_is b h, block_cells b s m h c, block_filler b s m)
      (ap₂ ◌&&◌ (small_at_most 2 (take (rows_in b * 16 * 4) (drop (31 * b * 64) m)) (small_part 3 (rows_in b * 16 * 4) (31 * b * 64) m c.small))
      (ap (at_most 0) (zeros_are b s m) ∙ at_most_zeros (506 - rows_in b * 16))))

  cells_at : (b : ℕ) → b < 3 → unpacked (row_bytes (block (file_of s m) b) b) ≡ take (rows_in b * 16 * 4) (drop (31 * b * 64) m)
  cells_at b h = ap (λ (k : List ℕ). unpacked (row_bytes k b)) (block_is b h) ∙ block_cells b s m h c

  cells_are : sheet_in (file_of s m) ≡ m
  unfolding sheet_in lines
  cells_are =
      ap₂ (λ (x y : List ℕ). x ++ y) (ap₂ (λ (x y : List ℕ). x ++ y) (cells_at 0 (omega arith)) (cells_at 1 (omega arith))) (cells_at 2 (omega arith))
      ∙ ap (λ (l : List ℕ). l ++ take 128 (drop 3968 m)) (sym (take-add 1984 1984 m))
      ∙ sym (take-add 3968 128 m)
      ∙ take_all 4096 m (omega (arith, c.long))

  -- "reading what was written yields the sheet", and its number
  pub read_back : ReadsBack s m (file_of s m)
  unfolding read_tests is_file
  read_back old l = (
    rw (eq-eqb (length old) 4096 l, eq-eqb (length (file_of s m)) 1536 file_length, all_formed, all_summed, all_sound) refl,
    cells_are,
    number_is,
  )

-- ---- writing what was read

-- a block of 512 bytes by its bytes 0 to 509 and its last two
block_split : (k : List ℕ) → length k ≡ 512 → take 510 k ++ (cell k 510 ∷ cell k 511 ∷ []) ≡ k
block_split k l =
    let last : drop 510 k ≡ cell k 510 ∷ cell k 511 ∷ [] =
    drop-cons k 510 0 (omega arith) ∙ ap {B = List ℕ} (λ r. cell k 510 ∷ r) (drop-cons k 511 0 (omega arith) ∙ ap {B = List ℕ} (λ r. cell k 511 ∷ r) (drop_of_length-le k {i = 512} (omega arith))) in
    ap (λ (r : List ℕ). take 510 k ++ r) (sym last) ∙ take-append-drop 510 k

-- bytes 0 to 509 by their parts
content_split : (b : ℕ) (k : List ℕ) → length k ≡ 512 → cell k 0 ∷ cell k 1 ∷ cell k 2 ∷ cell k 3 ∷ (row_bytes k b ++ filler k b) ≡ take 510 k
content_split b k l = ap (λ (r : List ℕ). r ++ (row_bytes k b ++ filler k b)) (sym (take_four k (omega arith))) ∙ parts_whole b k

prefixed : {a b c e a' b' c' e' : ℕ} {l l' : List ℕ} → a ≡ a' → b ≡ b' → c ≡ c' → e ≡ e' → l ≡ l' → a ∷ b ∷ c ∷ e ∷ l ≡ a' ∷ b' ∷ c' ∷ e' ∷ l'
prefixed p q r s t =
    ap₂ {C = List ℕ} (λ x l. x ∷ l) p (ap₂ {C = List ℕ} (λ x l. x ∷ l) q (ap₂ {C = List ℕ} (λ x l. x ∷ l) r (ap₂ {C = List ℕ} (λ x l. x ∷ l) s t)))

number_bytes : (x y n : ℕ) → y < 256 → x * 256 + y ≡ n → (n / 256 ≡ x) × (n % 256 ≡ y)
number_bytes x y n h e = (omega arith, omega arith)

module _ (f : List ℕ) (lf : length f ≡ 1536) (ef : every (formed f) 3 ≡ true) (es : every (λ b. summed (block f b)) 3 ≡ true)
    (eo : every (λ b. sound (block f b) b) 3 ≡ true) (small : (b : ℕ) → b < 3 → Bytes (take 510 (block f b))) where
  long : (b : ℕ) → b < 3 → length (block f b) ≡ 512
  long b h = length_line 3 512 f b h lf

  abbrev cells_of_lem : ℕ → List ℕ
  cells_of_lem b = unpacked (row_bytes (block f b) b)

  cells_length_of : (b : ℕ) → b < 3 → length (cells_of_lem b) ≡ rows_in b * 64
  cells_length_of b h = length_unpacked (row_bytes (block f b) b) ∙ omega (arith, rows_long b (block f b) (long b h))

  -- the cells from those of block b on
  rest : ℕ → List ℕ
  rest b = cond (eqb b 0) (cells_of_lem 1 ++ cells_of_lem 2) (cond (eqb b 1) (cells_of_lem 2) [])

  from_block : (b : ℕ) → b < 3 → drop (31 * b * 64) (sheet_in f) ≡ cells_of_lem b ++ rest b
  unfolding sheet_in lines rest
  from_block = of_three (λ b. drop (31 * b * 64) (sheet_in f) ≡ cells_of_lem b ++ rest b)
      (append_assoc (cells_of_lem 0) (cells_of_lem 1) (cells_of_lem 2))
      (ap (drop 1984) (append_assoc (cells_of_lem 0) (cells_of_lem 1) (cells_of_lem 2)) ∙ drop_at (cells_of_lem 0) (cells_of_lem 1 ++ cells_of_lem 2) 1984 (cells_length_of 0 (omega arith)))
      (drop_at (cells_of_lem 0 ++ cells_of_lem 1) (cells_of_lem 2) 3968 (length-append (cells_of_lem 0) (cells_of_lem 1) ∙ omega (arith, cells_length_of 0 (omega arith), cells_length_of 1 (omega arith)))
      ∙ sym (append-nil (cells_of_lem 2)))

  rows_back : (b : ℕ) → b < 3 → packed (rows_in b * 16) (drop (31 * b * 64) (sheet_in f)) ≡ row_bytes (block f b) b
  rows_back b h =
      let k = block f b in
      let bytes : Bytes (row_bytes k b) = rw (take_drop_less k) at (bytes_take (rows_in b * 16) (drop 4 (take 510 k)) (bytes_drop 4 (take 510 k) (small b h))) in
      ap₂ packed (sym (rows_long b (block f b) (long b h))) (from_block b h) ∙ packed_unpacked (row_bytes k b) (rest b) bytes
    where
      take_drop_less : (k : List ℕ) → take (rows_in b * 16) (drop 4 (take 510 k)) ≡ take (rows_in b * 16) (drop 4 k)
      take_drop_less k = ap (take (rows_in b * 16)) (drop_take 4 506 k) ∙ take-take (rows_in b * 16) 506 (drop 4 k) (omega (arith, rows_few b))

  filler_back : (b : ℕ) → b < 3 → replicate (496 - rows_in b * 16) 0 ++ replicate 10 0 ≡ filler (block f b) b
  unfolding sound
  filler_back b h =
      let k = block f b in
      let z = (and_true (at_most 2 (unpacked (row_bytes k b))) (at_most 0 (filler k b)) (every_each (λ b. sound (block f b) b) 3 eo b h)).1 in
      zeros_are b (sheet_number f) (sheet_in f) ∙ ap (λ (n : ℕ). replicate n 0) (sym (filler_long b k (long b h))) ∙ sym (all_zeros (filler k b) z)

  block_back : (b : ℕ) → b < 3 → block_of b (sheet_number f) (sheet_in f) ≡ block f b
  unfolding block_of content formed summed
  block_back b h =
      let k = block f b in
      let s = sheet_number f in
      let t = and_true (eqb (cell k 0) b) (eqb (cell k 1) 6 && eqb (number_in k) s) (every_each (formed f) 3 ef b h) in
      let u = and_true (eqb (cell k 1) 6) (eqb (number_in k) s) t.1 in
      let three : cell k 3 < 256 = rw (get_or-take 510 k 3 0 (omega arith)) at (small b h 3) in
      let n = number_bytes (cell k 2) (cell k 3) s three (eqb-true (number_in k) s u.1) in
      let body : content b s (sheet_in f) ≡ take 510 k =
      prefixed (sym (eqb-true (cell k 0) b t.0)) (sym (eqb-true (cell k 1) 6 u.0)) n.0 n.1 (ap₂ (λ (x y : List ℕ). x ++ y) (rows_back b h) (filler_back b h))
      ∙ content_split b k (long b h) in
      let v = and_true (eqb (cell k 510) (sum_a (take 510 k))) (eqb (cell k 511) (sum_b (take 510 k))) (every_each (λ b. summed (block f b)) 3 es b h) in
      ap (λ (l : List ℕ). l ++ (sum_a l ∷ sum_b l ∷ [])) body
      ∙ ap₂ (λ (x y : ℕ). take 510 k ++ (x ∷ y ∷ [])) (sym (eqb-true (cell k 510) (sum_a (take 510 k)) v.0)) (sym (eqb-true (cell k 511) (sum_b (take 510 k)) v.1))
      ∙ block_split k (long b h)

  -- "writing what was read yields the file's own bytes"
  pub written_back : file_of (sheet_number f) (sheet_in f) ≡ f
  unfolding file_of
  written_back = lines_are 512 (λ b. block_of b (sheet_number f) (sheet_in f)) 3 f lf block_back

-- the same of every file that is not refused
pub file_back : (f cells : List ℕ) (more : List Bool) → Bytes f → refusal (read_tests f cells more) ≡ 0 → file_of (sheet_number f) (sheet_in f) ≡ f
unfolding read_tests is_file
file_back f cells more h z =
    let n = none_applies (read_tests f cells more) tt z in
    let t = and_true (eqb (length f) 1536) (every (formed f) 3) (not-false (is_file f) n.1.0) in
    written_back f (eqb-true (length f) 1536 t.0) t.1
    (not-false (every (λ b. summed (block f b)) 3) n.1.1.0)
    (not-false (every (λ b. sound (block f b) b) 3) n.1.1.1.0)
    (λ b q. bytes_take 510 (block f b) (line_small 256 512 f b h))
