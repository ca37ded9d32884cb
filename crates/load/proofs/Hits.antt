-- "So exactly D and E cells are hit": what the promise says of a sheet and what became of it.
-- Assumes nothing.
use Rattle.std.proofs.Common.{ℕ, ◌+◌, ◌*◌, ◌≤◌, List, length, take, drop, arith, length-take}
use native.Mathlib.Nat.{min-le_left}
use Rattle.degree.specs.declared.Degree.{Degree}
use Rattle.degree.specs.Degree.{size}
use Rattle.line.specs.Cells.{IsWord}
use Rattle.array.proofs.ArrayLaws.{line_room}
use Rattle.load.specs.Load.{damaged}
use Rattle.load.specs.Entries.{EachOnce, in_row, Hit}
use Rattle.load.proofs.Places.{sum_times_le}
use Rattle.load.proofs.Damages.{part_wrong, part_unsure, wrong_cells, unsure_cells, first_inverted, next_erased, others_own}

-- a row has no more of some places than they are
in_row_le : (n i k : ℕ) (places : List ℕ) → in_row n i (take k places) ≤ k
unfolding in_row
in_row_le n i k places = omega (arith, sum_times_le (i * n) n (take k places), length-take k places, min-le_left k (length places))

pub all_hit : (d : Degree) (wrong unsure : ℕ) {places sheet : List ℕ} → EachOnce (size d * size d) places → IsWord (size d * size d) sheet → wrong + unsure ≤ size d * size d
    → Hit d wrong unsure places sheet (damaged wrong unsure places sheet)
unfolding in_row
all_hit d wrong unsure {places} {sheet} e w h = record {
  inverted = first_inverted wrong unsure e w h;
  erased = next_erased wrong unsure e w h;
  own = others_own wrong unsure e w;
  all_wrong = wrong_cells wrong unsure e w h;
  all_unsure = unsure_cells wrong unsure e w h;
  row_wrong = λ i l. part_wrong wrong unsure e w (i * size d) (size d) (line_room (size d) (size d) i l);
  row_unsure = λ i l. part_unsure wrong unsure e w (i * size d) (size d) (line_room (size d) (size d) i l);
  near = λ few i l.
      omega (arith, part_wrong wrong unsure e w (i * size d) (size d) (line_room (size d) (size d) i l), part_unsure wrong unsure e w (i * size d) (size d) (line_room (size d) (size d) i l), in_row_le (size d) i wrong places, in_row_le (size d) i unsure (drop wrong places));
}
