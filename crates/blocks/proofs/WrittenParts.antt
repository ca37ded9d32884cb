-- The parts of a block that is written: header, rows and end.
-- Assumes nothing.
use mathlib.Core.Path.{◌≡◌, refl, sym, ap, ap₂, ◌∙◌}
use mathlib.Core.List.{List, [], ◌∷◌, ◌++◌, append_assoc}
use Prim.Native.Nat.{ℕ, ◌+◌, ◌-◌, ◌*◌, ◌%◌, ◌<◌, ◌≤◌}
use native.Mathlib.Omega.{arith}
use borrow.Rule.Slice.PartMut.{put_mid}
use lib.ListN.{length, get_or, take, drop, replicate, length-append, length-drop, length-replicate}
use lib.Seq.{take_all, length-take-le}
use Rattle.line.specs.Cells.{Cells}
use Rattle.blocks.specs.Blocks.{rows_in, packed, content, fletcher, block_of}
use Rattle.blocks.specs.Working.Adding.{Bytes, added, Room, head_of, end_of}
use Rattle.blocks.proofs.AddingLaws.{added_append, four_small, room_start, room_fewer, room_added, sums_reduced}
use Rattle.blocks.proofs.PackedCells.{length_packed, packed_bytes}
use Rattle.blocks.proofs.Parts.{small_part, put_behind, put_last}
use Rattle.blocks.proofs.FileLaws.{rows_few, rows_within, zeros_are}

-- a block of sheet m and number s, which has r rows, is written into `old`
module _ (b s r : ℕ) (m old : List ℕ) (hb : b < 3) (hs : s < 65536) (c : Cells 3 4096 m) (er : r ≡ rows_in b) (lo : length old ≡ 512) where
  head_small : Bytes (head_of b s)
  head_small = four_small (omega arith) (omega arith) (omega arith) (omega arith)

  few : r ≤ 31
  few = omega (arith, rows_few b)

  -- the cells that are lent: those from the first row on
  abbrev cells : List ℕ
  cells = take (length m - 31 * b * 64) (drop (31 * b * 64) m)

  cells_is : cells ≡ drop (31 * b * 64) m
  cells_is = take_all (length m - 31 * b * 64) (drop (31 * b * 64) m) (omega (arith, length-drop (31 * b * 64) m))

  enough : r * 64 ≤ length cells
  enough = rw (cells_is, length-drop (31 * b * 64) m) (omega (arith, c.long, rows_within b hb))

  cells_small : (i : ℕ) → get_or cells i 0 < 4
  cells_small i = omega (arith, small_part 3 (length m - 31 * b * 64) (31 * b * 64) m c.small i)

  -- the header is written
  module _ {one : List ℕ} (e1 : one ≡ head_of b s ++ drop 4 old) where
    one_long : length one ≡ 512
    one_long = ap length e1 ∙ length-append (head_of b s) (drop 4 old) ∙ omega (arith, length-drop 4 old)

    pub part_fits : 4 + 16 * r ≤ length one
    part_fits = omega (arith, one_long, few)

    abbrev part : List ℕ
    part = take (4 + 16 * r - 4) (drop 4 one)

    part_long : length part ≡ r * 16
    part_long = length-take-le (4 + 16 * r - 4) (drop 4 one) (rw (length-drop 4 one) (omega (arith, one_long, few))) ∙ omega arith

    module _ {h : ℕ × ℕ} (sh : h ≡ added (0, 0) (head_of b s)) where
      head_room : Room 506 h
      head_room = rw sh (room_added 506 (0, 0) (head_of b s) head_small room_start)

      pub rows_asked : Room (length part) h × (length part * 4 ≤ length cells) × ((i : ℕ) → get_or cells i 0 < 4)
      rows_asked = (room_fewer (length part) 506 h (omega (arith, part_long, few)) head_room, omega (arith, enough, part_long), cells_small)

      -- the rows are written
      module _ {rows : List ℕ} {w : ℕ × ℕ} (es : rows ≡ packed (length part) cells) (sw : w ≡ added h rows) where
        rows_long : length rows ≡ r * 16
        rows_long = ap length es ∙ length_packed (length part) cells ∙ part_long

        rows_same : rows ≡ packed (rows_in b * 16) (drop (31 * b * 64) m)
        rows_same = let e : r * 16 ≡ rows_in b * 16 = omega arith in es ∙ ap₂ packed (part_long ∙ e) cells_is

        abbrev two : List ℕ
        two = put_mid 4 (4 + 16 * r - 4) one rows

        two_is : two ≡ (head_of b s ++ rows) ++ drop (4 + 16 * r) old
        two_is =
            let n : 4 + (4 + 16 * r - 4) ≡ 4 + 16 * r = omega arith in
            ap (λ (x : List ℕ). put_mid 4 (4 + 16 * r - 4) x rows) e1
            ∙ put_behind (head_of b s) old rows 4 refl (4 + 16 * r - 4) (rows_long ∙ omega arith)
            ∙ ap (λ (x : ℕ). (head_of b s ++ rows) ++ drop x old) n

        front_long : length (head_of b s ++ rows) ≡ 4 + 16 * r
        front_long = length-append (head_of b s) rows ∙ omega (arith, rows_long)

        two_long : length two ≡ 512
        two_long = ap length two_is ∙ length-append (head_of b s ++ rows) (drop (4 + 16 * r) old) ∙ omega (arith, front_long, few, length-drop (4 + 16 * r) old)

        abbrev last : List ℕ
        last = take (length two - (4 + 16 * r)) (drop (4 + 16 * r) two)

        last_long : length last - 2 ≡ 506 - rows_in b * 16
        last_long =
            let e : length last ≡ length two - (4 + 16 * r) = length-take-le (length two - (4 + 16 * r)) (drop (4 + 16 * r) two) (omega (arith, length-drop (4 + 16 * r) two)) in
            omega (arith, two_long, few)

        pub end_asked : (2 ≤ length last) × Room (length last - 2) w
        end_asked = (
          omega (arith, last_long, few),
          rw sw
              (room_added (length last - 2) h rows (rw es (packed_bytes (length part) cells cells_small))
              (room_fewer (length rows + (length last - 2)) 506 h (omega (arith, rows_long, last_long, few)) head_room)),
        )

        abbrev zeros : List ℕ
        zeros = replicate (506 - rows_in b * 16) 0

        body_is : (head_of b s ++ rows) ++ zeros ≡ content b s m
        unfolding content
        body_is = append_assoc (head_of b s) rows zeros ∙ ap₂ (λ (x y : List ℕ). head_of b s ++ (x ++ y)) rows_same (sym (zeros_are b s m))

        sums_same : ((added w zeros).0 % 255, (added w zeros).1 % 255) ≡ fletcher 0 0 (content b s m)
        sums_same =
            let all : added w zeros ≡ added (0, 0) (content b s m) =
            ap (λ (u : ℕ × ℕ). added u zeros) (sw ∙ ap (λ (u : ℕ × ℕ). added u rows) sh ∙ sym (added_append (0, 0) (head_of b s) rows))
            ∙ sym (added_append (0, 0) (head_of b s ++ rows) zeros) ∙ ap (added (0, 0)) body_is in
            ap (λ (u : ℕ × ℕ). (u.0 % 255, u.1 % 255)) all ∙ sym (sums_reduced (0, 0) (content b s m))

        -- the end is written
        pub block_written : (end : List ℕ) → end ≡ end_of w (length last - 2) → put_mid (4 + 16 * r) (length two - (4 + 16 * r)) two end ≡ block_of b s m
        unfolding block_of
        block_written end e =
            let is : end ≡ end_of w (506 - rows_in b * 16) = e ∙ ap (end_of w) last_long in
            let long : length old ≡ 4 + 16 * r + length (end_of w (506 - rows_in b * 16)) =
            omega (arith, lo, few, length-append zeros ((added w zeros).0 % 255 ∷ (added w zeros).1 % 255 ∷ []), length-replicate {A = ℕ} (506 - rows_in b * 16) 0) in
            ap₂ (λ (x y : List ℕ). put_mid (4 + 16 * r) (length x - (4 + 16 * r)) x y) two_is is
            ∙ put_last (head_of b s ++ rows) old (end_of w (506 - rows_in b * 16)) (4 + 16 * r) front_long long
            ∙ sym (append_assoc (head_of b s ++ rows) zeros ((added w zeros).0 % 255 ∷ (added w zeros).1 % 255 ∷ []))
            ∙ ap₂ (λ (x : List ℕ) (u : ℕ × ℕ). x ++ (u.0 ∷ u.1 ∷ [])) body_is sums_same
