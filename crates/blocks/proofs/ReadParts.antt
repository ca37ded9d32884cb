-- The parts of a block that is read, header, rows and filler: their sums are those of bytes 0 to 509. And the three blocks of a file.
-- Assumes nothing.
use mathlib.Core.Path.{◌≡◌, refl, sym, ap, ap₂, subst, ◌∙◌}
use mathlib.Core.Bool.{Bool, true, false, ◌&&◌, and_assoc, and-true}
use mathlib.Core.List.{List, [], ◌∷◌, ◌++◌}
use Prim.Native.Nat.{ℕ, zero, suc, ◌+◌, ◌-◌, ◌*◌, ◌/◌, ◌%◌, ◌<◌}
use native.Mathlib.Omega.{arith}
use borrow.Author.Tests.{eq-eqb}
use borrow.Rule.Slice.PartMut.{put_mid}
use lib.Dec.{eqb}
use lib.ListN.{length, take, drop, length-append}
use lib.Seq.{length-take-le}
use Rattle.line.specs.Cells.{cell}
use Rattle.array.specs.Arrays.{lines}
use Rattle.array.proofs.ArrayLaws.{length_line}
use Rattle.array.proofs.WrittenLines.{part_at}
use Rattle.blocks.specs.declared.reading.Found.{Found}
use Rattle.blocks.specs.Blocks.{rows_in, fletcher, block, number_in, sheet_number, formed, summed, row_bytes, filler, unpacked, sound, sheet_in}
use Rattle.blocks.specs.Working.Adding.{Bytes, added, Room}
use Rattle.blocks.specs.Working.Found.{BlockRead, PartRead, FileRead}
use Rattle.blocks.proofs.AddingLaws.{added_append, room_start, room_fewer, room_added, sums_reduced}
use Rattle.blocks.proofs.PackedCells.{length_unpacked}
use Rattle.blocks.proofs.Parts.{drop_take, three_parts}
use Rattle.blocks.proofs.FileLaws.{of_three, rows_few, rows_long, filler_long, parts_whole}

bytes_append : (xs ys : List ℕ) → Bytes xs → Bytes ys → Bytes (xs ++ ys)
bytes_append [] ys h g i = g i
bytes_append (x ∷ xs) ys h g zero = h 0
bytes_append (x ∷ xs) ys h g (suc i) = bytes_append xs ys (λ j. h (suc j)) g i

-- ---- a block

module _ (b : ℕ) (k : List ℕ) (long : length k ≡ 512) where
  -- the parts as they are lent, where x cells take the rows
  module _ {x : ℕ} (e : x ≡ rows_in b * 64) where
    pub rows_part : take (4 + x / 4 - 4) (drop 4 k) ≡ row_bytes k b
    rows_part = let f : 4 + x / 4 - 4 ≡ rows_in b * 16 = omega arith in ap (λ (n : ℕ). take n (drop 4 k)) f

    pub filler_part : take (510 - (4 + x / 4)) (drop (4 + x / 4) k) ≡ filler k b
    filler_part =
        let f : 4 + x / 4 ≡ 4 + rows_in b * 16 = omega arith in
        let g : 4 + rows_in b * 16 + (510 - (4 + rows_in b * 16)) ≡ 510 = omega (arith, rows_few b) in
        rw f (sym (drop_take (4 + rows_in b * 16) (510 - (4 + rows_in b * 16)) k) ∙ ap (λ (n : ℕ). drop (4 + rows_in b * 16) (take n k)) g)

  -- the sums after the header, after the rows and after the filler
  module _ {h : ℕ × ℕ} (eh : h ≡ added (0, 0) (take 4 k)) (sh : Bytes (take 4 k)) where
    header_room : Room 506 h
    header_room = rw eh (room_added 506 (0, 0) (take 4 k) sh (room_fewer (length (take 4 k) + 506) 510 (0, 0) (omega (arith, length-take-le 4 k (omega arith))) room_start))

    pub rows_room : Room (length (row_bytes k b)) h
    rows_room = room_fewer (length (row_bytes k b)) 506 h (omega (arith, rows_long b k long, rows_few b)) header_room

    module _ {s : ℕ × ℕ} (es : s ≡ added h (row_bytes k b)) (sr : Bytes (row_bytes k b)) where
      pub filler_room : Room (length (filler k b)) s
      filler_room =
          rw es
          (room_added (length (filler k b)) h (row_bytes k b) sr
          (room_fewer (length (row_bytes k b) + length (filler k b)) 506 h (omega (arith, rows_long b k long, filler_long b k long, rows_few b)) header_room))

      module _ {t : ℕ × ℕ} (et : t ≡ added s (filler k b)) (sf : Bytes (filler k b)) where
        pub block_sums : t ≡ added (0, 0) (take 510 k)
        block_sums =
            et
            ∙ ap (λ (u : ℕ × ℕ). added u (filler k b)) es
            ∙ sym (added_append h (row_bytes k b) (filler k b))
            ∙ ap (λ (u : ℕ × ℕ). added u (row_bytes k b ++ filler k b)) eh
            ∙ sym (added_append (0, 0) (take 4 k) (row_bytes k b ++ filler k b))
            ∙ ap (added (0, 0)) (parts_whole b k)

        pub block_small : Bytes (take 510 k)
        block_small =
            rw (parts_whole b k) at (bytes_append (take 4 k) (row_bytes k b ++ filler k b) sh (bytes_append (row_bytes k b) (filler k b) sr sf))

        pub block_tested : (eqb (cell k 510) (t.0 % 255) && eqb (cell k 511) (t.1 % 255)) ≡ summed k
        unfolding summed
        block_tested =
            let e : (t.0 % 255, t.1 % 255) ≡ fletcher 0 0 (take 510 k) = ap (λ (u : ℕ × ℕ). (u.0 % 255, u.1 % 255)) block_sums ∙ sym (sums_reduced (0, 0) (take 510 k)) in
            ap (λ (u : ℕ × ℕ). eqb (cell k 510) u.0 && eqb (cell k 511) u.1) e

-- ---- three blocks

pub three_all : (x y z : Bool) → ((x && y) && z) ≡ (z && (y && (x && true)))
three_all true true true = refl
three_all true true false = refl
three_all true false true = refl
three_all true false false = refl
three_all false true true = refl
three_all false true false = refl
three_all false false true = refl
three_all false false false = refl

-- a block of the file with its bytes 0 and 1 as they should be, and the number of the first
pub formed_is : (f : List ℕ) (b : ℕ) {p : Bool} {n m : ℕ} → p ≡ (eqb (cell (block f b) 0) b && eqb (cell (block f b) 1) 6) → n ≡ number_in (block f b) → m ≡ sheet_number f
    → (p && eqb n m) ≡ formed f b
unfolding formed
formed_is f b e en em = rw (e, en, em) (and_assoc (eqb (cell (block f b) 0) b) (eqb (cell (block f b) 1) 6) (eqb (number_in (block f b)) (sheet_number f)))

pub formed_first : (f : List ℕ) {p : Bool} → p ≡ (eqb (cell (block f 0) 0) 0 && eqb (cell (block f 0) 1) 6) → p ≡ formed f 0
formed_first f {p} e =
    sym (and-true p) ∙ ap (λ (q : Bool). p && q) (sym (eq-eqb (sheet_number f) (sheet_number f) refl)) ∙ formed_is f 0 e refl refl

-- ---- the file that was read

-- a block and its cells as they are lent, where n is the number of its rows
pub part_read : (b : ℕ) (f old : List ℕ) {n : ℕ} {y : List ℕ} {r : Found} → n ≡ rows_in b → BlockRead b (take (512 * b + 512 - 512 * b) (drop (512 * b) f)) y r
    → PartRead b f old (put_mid (1984 * b) (1984 * b + 64 * n - 1984 * b) old y) r
part_read b f old {n} {y} {r} e w =
    let place : 512 * b ≡ b * 512 = omega arith in
    let here : BlockRead b (block f b) y r = rw (part_at (512 * b) 512 f place) at w in
    let many : 1984 * b + 64 * n - 1984 * b ≡ rows_in b * 64 = omega arith in
    record {
      read = subst (λ (c : List ℕ). BlockRead b (block f b) c r) here.cells here;
      put = ap₂ (λ (x : ℕ) (c : List ℕ). put_mid (1984 * b) x old c) many here.cells;
    }

module _ (f old : List ℕ) (lf : length f ≡ 1536) (lo : length old ≡ 4096) {c1 c2 c3 : List ℕ} {r1 r2 r3 : Found}
    (one : PartRead 0 f old c1 r1) (two : PartRead 1 f c1 c2 r2) (three : PartRead 2 f c2 c3 r3) where
  abbrev cells : ℕ → List ℕ
  cells b = unpacked (row_bytes (block f b) b)

  cells_long : (b : ℕ) → b < 3 → length (cells b) ≡ rows_in b * 64
  cells_long b h = length_unpacked (row_bytes (block f b) b) ∙ omega (arith, rows_long b (block f b) (length_line 3 512 f b h lf))

  left_is : c3 ≡ (cells 0 ++ cells 1) ++ cells 2
  left_is =
      three.put
      ∙ ap (λ (x : List ℕ). put_mid 3968 128 x (cells 2)) (two.put ∙ ap (λ (x : List ℕ). put_mid 1984 1984 x (cells 1)) one.put)
      ∙ three_parts 1984 1984 128 old (cells 0) (cells 1) (cells 2) (cells_long 0 (omega arith)) (cells_long 1 (omega arith)) (cells_long 2 (omega arith)) lo

  pub left_long : length c3 ≡ length old
  left_long =
      ap length left_is ∙ length-append (cells 0 ++ cells 1) (cells 2)
      ∙ omega (arith, length-append (cells 0) (cells 1), cells_long 0 (omega arith), cells_long 1 (omega arith), cells_long 2 (omega arith), lo)

  pub file_read : {r : Found} → r.number ≡ r1.number
      → r.formed ≡ ((r1.formed && (r2.formed && eqb r2.number r1.number)) && (r3.formed && eqb r3.number r1.number))
      → r.summed ≡ ((r1.summed && r2.summed) && r3.summed) → r.sound ≡ ((r1.sound && r2.sound) && r3.sound) → FileRead f c3 r
  unfolding sheet_in lines
  file_read en ef es eo =
      let x = one.read in
      let y = two.read in
      let z = three.read in
      record {
        number = en ∙ x.number;
        formed =
            ef
            ∙ ap₂ ◌&&◌ (ap₂ ◌&&◌ (formed_first f x.formed) (formed_is f 1 y.formed y.number x.number)) (formed_is f 2 z.formed z.number x.number)
            ∙ three_all (formed f 0) (formed f 1) (formed f 2);
        summed =
            es
            ∙ ap₂ ◌&&◌ (ap₂ ◌&&◌ x.summed y.summed) z.summed
            ∙ three_all (summed (block f 0)) (summed (block f 1)) (summed (block f 2));
        sound =
            eo
            ∙ ap₂ ◌&&◌ (ap₂ ◌&&◌ x.sound y.sound) z.sound
            ∙ three_all (sound (block f 0) 0) (sound (block f 1) 1) (sound (block f 2) 2);
        cells = left_is;
        bytes = of_three (λ b. Bytes (take 510 (block f b))) x.bytes y.bytes z.bytes;
      }
