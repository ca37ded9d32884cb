-- Packed rows of an array: the first lines of an array replaced, a line looked up and written, the words transposed, and the rows
-- packed one after the other.
-- Assumes nothing.
use mathlib.Core.Path.{◌≡◌, refl, sym, ap, ap₂, ◌∙◌}
use mathlib.Core.Bool.{Bool, false}
use mathlib.Core.List.{List, [], ◌∷◌, ◌++◌, append_assoc, append-nil}
use mathlib.Core.Logic.{dite}
use Prim.Native.Nat.{ℕ, suc, ◌+◌, ◌-◌, ◌*◌, ◌%◌, ◌<◌, ◌≤◌}
use native.Mathlib.Nat.{suc-mul, zero-mul, lt_of_lt_of_le}
use native.Mathlib.Numerals.{add-one}
use native.Mathlib.Omega.{arith}
use native.Mathlib.Decide.{dec_lt, ℕ_discrete}
use borrow.Rule.Slice.PartMut.{put_mid}
use lib.ListN.{length, take, drop, get_or, length-append, length-drop, replicate, length-replicate, drop_of_length-le}
use lib.Pow.{pow_mono}
use lib.Seq.{length-take-le, drop-drop, drop_at, take_at, take-take, take-add, drop-append-le, take-append-le}
use Rattle.degree.specs.declared.Degree.{Degree}
use Rattle.degree.specs.Degree.{size}
use Rattle.laws.specs.Bits.{bit}
use Rattle.laws.proofs.Lists.{zeros_at}
use Rattle.line.specs.Working.Packed.{IsLine, is_one, pack_by, Packs}
use Rattle.line.specs.Cells.{is_erased}
use Rattle.line.specs.declared.packed.Line.{Line}
use Rattle.words.specs.Working.Word.{value, width}
use Rattle.line.proofs.PackBits.{pack_by_lt}
use Rattle.line.proofs.RowLaws.{size_room, size_eights}
use Rattle.words.specs.declared.word.grid.Grid.{Grid}
use Rattle.words.specs.Working.Grid.{word_in, WordPut, Within, GridTurned}
use Rattle.array.specs.declared.packing.PackedRows.{PackedRows}
use Rattle.array.specs.Arrays.{line, lines}
use Rattle.array.specs.Working.PackedRows.{with_line, RowWords, Held, Empty, LineIn, LinePut, RowsTurned}
use Rattle.array.specs.Working.Steps.{IsArray}
use Rattle.array.proofs.ArrayLaws.{Even, line_room, line_small, line_cells, transpose_cells, each_cell, line_at, length_lines, lines_are}
use Rattle.array.proofs.WrittenLines.{part_at}
use Rattle.array.proofs.WordLaws.{length_line_le, line_past, words_turned}

-- ---- lines of parts

-- a line below a cut is not touched by it
line_take : (n k a : ℕ) (m : List ℕ) → k * n + n ≤ a → k * n ≤ length m → line n (take a m) k ≡ line n m k
line_take n k a m h l =
    let j : ℕ = k * n in
    let e : a ≡ j + (a - j) = omega arith in
    ap (take n)
    (ap (λ (x : ℕ). drop j (take x m)) e ∙ ap (drop j) (take-add j (a - j) m)
    ∙ drop_at (take j m) (take (a - j) (drop j m)) j (length-take-le j m l))
    ∙ take-take n (a - j) (drop j m) (omega arith)

-- line i of m replaced by y
module _ (n i : ℕ) (m y : List ℕ) (fits : i * n + n ≤ length m) (same : length y ≡ n) where
  abbrev at : ℕ
  at = i * n

  head_length : length (take at m ++ y) ≡ at + n
  head_length = rw (length-append, length-take-le at m (omega arith), same)

  -- what stands behind it stays
  put_drop : drop (at + n) (with_line n m i y) ≡ drop (at + n) m
  put_drop = rw (← append_assoc) (drop_at (take at m ++ y) (drop n (drop at m)) (at + n) head_length ∙ drop-drop n at m)

  put_length : length (with_line n m i y) ≡ length m
  put_length = simp (length-append, length-drop, length-take-le at m (omega arith), same) (omega arith)

  -- line i is y
  put_same_line : line n (with_line n m i y) i ≡ y
  put_same_line =
      ap (take n) (drop_at (take at m) (y ++ drop n (drop at m)) at (length-take-le at m (omega arith)))
      ∙ take_at y (drop n (drop at m)) n same

  put_below : (k : ℕ) → k < i → line n (with_line n m i y) k ≡ line n m k
  put_below k h =
      let q : k * n + n ≤ at = line_room i n k h in
      let lt : length (take at m) ≡ at = length-take-le at m (omega arith) in
      ap (take n) (drop-append-le (k * n) (take at m) (y ++ drop n (drop at m)) (omega arith))
      ∙ take-append-le n (drop (k * n) (take at m)) (y ++ drop n (drop at m)) (rw length-drop (omega arith))
      ∙ line_take n k at m q (omega arith)

  put_above : (k : ℕ) → i < k → line n (with_line n m i y) k ≡ line n m k
  put_above k h =
      let q : at + n ≤ k * n = line_room k n i h in
      let e : at + n + (k * n - (at + n)) ≡ k * n = omega arith in
      ap (take n)
      (ap (λ (x : ℕ). drop x (with_line n m i y)) (sym e) ∙ sym (drop-drop (k * n - (at + n)) (at + n) (with_line n m i y))
      ∙ ap (drop (k * n - (at + n))) put_drop ∙ drop-drop (k * n - (at + n)) (at + n) m ∙ ap (λ (x : ℕ). drop x m) e)

  -- the other lines stay
  put_other_line : (k : ℕ) → (k ≡ i → ⊥) → line n (with_line n m i y) k ≡ line n m k
  put_other_line k ne = dite (dec_lt k i) (λ h. put_below k h) (λ h. put_above k (omega (arith, h, ne)))

-- the cells stay below 3
with_line_cells : (n i : ℕ) (m y : List ℕ) → IsLine (n * n) m → i < n → IsLine n y → IsLine (n * n) (with_line n m i y)
with_line_cells n i m y a h b = record { long = long; small = each_cell (λ x. x < 3) n n (with_line n m i y) (omega arith) long cells }
  where
    room : i * n + n ≤ length m
    room = omega (arith, line_room n n i h, a.long)

    long : length (with_line n m i y) ≡ n * n
    long = put_length n i m y room b.long ∙ a.long

    cells : (k j : ℕ) → k < n → j < n → get_or (with_line n m i y) (k * n + j) 0 < 3
    cells k j p q =
        rw (← line_at n (with_line n m i y) k j q)
        (dite (ℕ_discrete k i)
        (λ e. rw (e, put_same_line n i m y room b.long) (b.small j))
        (λ e. rw (put_other_line n i m y room b.long k e) ((line_cells n n k a p).small j)))

-- the first lines of an array replaced
abbrev pub so_far : ℕ → (ℕ → List ℕ) → List ℕ → ℕ → List ℕ
so_far n g m i = lines g i ++ drop (i * n) m

module _ (n : ℕ) (g : ℕ → List ℕ) (m : List ℕ) where
  pub far_start : m ≡ so_far n g m 0
  unfolding lines
  far_start = sym (ap (λ (x : ℕ). drop x m) (zero-mul n))

  module _ (i : ℕ) (e : Even n g i) where
    -- line i is still what it was
    pub far_line : line n (so_far n g m i) i ≡ line n m i
    far_line = ap (take n) (drop_at (lines g i) (drop (i * n) m) (i * n) (length_lines n g i e))

    -- line i replaced too
    pub far_next : with_line n (so_far n g m i) i (g i) ≡ so_far n g m (suc i)
    unfolding lines
    far_next =
        let len = length_lines n g i e in
        rw (take_at (lines g i) (drop (i * n) m) (i * n) len, drop_at (lines g i) (drop (i * n) m) (i * n) len, drop-drop n (i * n) m, suc-mul, append_assoc)

  -- all k lines replaced
  pub far_end : (k : ℕ) → length m ≡ k * n → so_far n g m k ≡ lines g k
  far_end k l = ap (λ (x : List ℕ). lines g k ++ x) (drop_of_length-le m {i = k * n} (omega arith)) ∙ append-nil (lines g k)

-- ---- an array and its packed rows

-- there is a word for each line; n is the code's number for `size d`
pub index_room : (d : Degree) {n i : ℕ} → n ≡ size d → i < n → i < width
index_room d e h = omega (arith, size_room d)

-- line i of m is lent as the part from `at` to `at + n`, and comes back as y
module _ (n i at : ℕ) (m : List ℕ) (e : at ≡ i * n) where
  same : at + n - at ≡ n
  same = omega arith

  pub line_back : (y : List ℕ) → put_mid at (at + n - at) m y ≡ with_line n m i y
  line_back y = rw (same, e)

-- row i lies within the array
pub row_within : (n i : ℕ) (m : List ℕ) → length m ≡ n * n → i < n → i * n + n ≤ length m
row_within n i m l h = omega (arith, line_room n n i h)

-- one word made another where one line is another
words_put : (p : ℕ → Bool) (n i : ℕ) (m m' : List ℕ) (before after : ℕ → ℕ) → RowWords p n m before → after i ≡ pack_by p (line n m' i)
    → ((k : ℕ) → k < width → (k ≡ i → ⊥) → after k ≡ before k) → ((k : ℕ) → (k ≡ i → ⊥) → line n m' k ≡ line n m k) → RowWords p n m' after
words_put p n i m m' before after w e others same k h =
    dite (ℕ_discrete k i) (λ q. rw q e) (λ q. others k h q ∙ w k h ∙ ap (pack_by p) (sym (same k q)))

-- the words of line i pack row i
pub held_line : (rows : PackedRows) (i : ℕ) (l : Line) → value l.ones ≡ word_in rows.ones i → value l.erased ≡ word_in rows.erased i → LineIn rows i l
held_line rows i l e f n m k h =
    let q : i < width = omega (arith, k.room) in
    record { room = k.room; cells = line_cells n n i k.array h; ones = e ∙ k.ones i q; erased = f ∙ k.erased i q }

-- the words of line i made those of l
pub held_put : (before after : PackedRows) (i : ℕ) (l : Line) → WordPut before.ones i (value l.ones) after.ones → WordPut before.erased i (value l.erased) after.erased → LinePut before i l after
held_put before after i l one two n m y k h p = record {
  room = k.room;
  array = with_line_cells n i m y k.array h p.cells;
  ones = words_put is_one n i m (with_line n m i y) (λ j. word_in before.ones j) (λ j. word_in after.ones j) k.ones
      (one.here ∙ p.ones ∙ ap (pack_by is_one) here) (λ j q ne. one.others j ne) elsewhere;
  erased = words_put is_erased n i m (with_line n m i y) (λ j. word_in before.erased j) (λ j. word_in after.erased j) k.erased
      (two.here ∙ p.erased ∙ ap (pack_by is_erased) here) (λ j q ne. two.others j ne) elsewhere;
}
  where
    room : i * n + n ≤ length m
    room = row_within n i m k.array.long h

    here : y ≡ line n (with_line n m i y) i
    here = sym (put_same_line n i m y room p.cells.long)

    elsewhere : (j : ℕ) → (j ≡ i → ⊥) → line n (with_line n m i y) j ≡ line n m j
    elsewhere = put_other_line n i m y room p.cells.long

-- ---- transposed

pack_by_none : (p : ℕ → Bool) → p 0 ≡ false → (xs : List ℕ) → ((i : ℕ) → get_or xs i 0 ≡ 0) → pack_by p xs ≡ 0
unfolding pack_by
pack_by_none p z [] h = refl
pack_by_none p z (x ∷ xs) h = ap₂ (λ (w : ℕ) (b : Bool). w * 2 + bit b) (pack_by_none p z xs (λ i. h (suc i))) (ap p (h 0) ∙ z)

-- the words of an array's lines have no bits past its n by n cells
held_within : (p : ℕ → Bool) → p 0 ≡ false → (n : ℕ) (m : List ℕ) (g : Grid) → length m ≡ n * n → RowWords p n m (λ i. word_in g i) → Within n g
held_within p z n m g l w = record {
  short = λ i h. rw (w i h) (lt_of_lt_of_le (pack_by_lt p (line n m i)) (pow_mono {i = length (line n m i)} {j = n} (length_line_le n m i)));
  none = λ i h q. w i q ∙ pack_by_none p z (line n m i) (λ j. line_past n m l i j h);
}

-- both grids transposed hold the transposed array
pub held_turned : (n : ℕ) (before after : PackedRows) → (Within n before.ones → GridTurned before.ones after.ones) → (Within n before.erased → GridTurned before.erased after.erased)
    → RowsTurned n before after
held_turned n before after one two m k = record {
  room = k.room;
  array = transpose_cells n n k.array;
  ones = words_turned is_one n m (λ i. word_in before.ones i) (λ i. word_in after.ones i) refl k.room k.array.long k.ones (λ i h. first.small i) first.bits;
  erased = words_turned is_erased n m (λ i. word_in before.erased i) (λ i. word_in after.erased i) refl k.room k.array.long k.erased (λ i h. second.small i) second.bits;
}
  where
    first : GridTurned before.ones after.ones
    first = one (held_within is_one refl n m before.ones k.array.long k.ones)

    second : GridTurned before.erased after.erased
    second = two (held_within is_erased refl n m before.erased k.array.long k.erased)

-- ---- the rows packed, a row a turn

-- an array of cells that are 0
abbrev blank : ℕ → List ℕ
blank n = replicate (n * n) 0

-- words that are 0 hold it
blank_held : (n : ℕ) → n ≤ width → (rows : PackedRows) → Empty rows → Held n (blank n) rows
blank_held n few rows e = record {
  room = few;
  array = record { long = length-replicate {A = ℕ} (n * n) 0; small = λ i. rw (zeros_at (n * n) i) (omega arith) };
  ones = λ i h. e.0 i ∙ sym (none is_one refl i);
  erased = λ i h. e.1 i ∙ sym (none is_erased refl i);
}
  where
    none : (p : ℕ → Bool) → p 0 ≡ false → (i : ℕ) → pack_by p (line n (blank n) i) ≡ 0
    none p z i = pack_by_none p z (line n (blank n) i) (λ j. omega (arith, line_small 1 n (blank n) i (λ q. rw (zeros_at (n * n) q) (omega arith)) j))

-- the first i rows are packed; the words after them are 0
pub record Packing (n : ℕ) (m : List ℕ) (rows : PackedRows) (i : ℕ) : Type 0 where
  pub low : i ≤ n
  pub held : Held n (so_far n (line n m) (blank n) i) rows

pub packing_start : (d : Degree) {n : ℕ} (m : List ℕ) {rows : PackedRows} → n ≡ size d → Empty rows → Packing n m rows 0
packing_start d {n} m {rows} e z = record {
  low = omega arith;
  held = rw (← far_start n (line n m) (blank n)) (blank_held n (omega (arith, size_room d)) rows z);
}

module _ (d : Degree) {m : List ℕ} {rows : PackedRows} {i n : ℕ} (a : IsArray d m) (k : Packing n m rows i) (e : n ≡ size d) where
  array : IsLine (n * n) m
  array = rw e a

  -- the row that is lent lies within
  pub packing_room : i < n → i * n + n ≤ length m
  packing_room h = row_within n i m array.long h

  -- and is line i
  lent : take (i * n + n - i * n) (drop (i * n) m) ≡ line n m i
  lent = part_at (i * n) n m refl

  pub packing_lent : i < n → (length (take (i * n + n - i * n) (drop (i * n) m)) ≤ width) × (length (take (i * n + n - i * n) (drop (i * n) m)) % 8 ≡ 0) × ((j : ℕ) → get_or (take (i * n + n - i * n) (drop (i * n) m)) j 0 < 3)
  packing_lent h =
      let l : IsLine n (line n m i) = line_cells n n i array h in
      rw lent (rw (l.long, e) (size_room d), rw (l.long, e) (size_eights d), l.small)

  even : (j : ℕ) → j < n → length (line n m j) ≡ n
  even j h = (line_cells n n j array h).long

  pub packing_next : {l : Line} {rows' : PackedRows} → i < n → Packs (length (take (i * n + n - i * n) (drop (i * n) m))) (take (i * n + n - i * n) (drop (i * n) m)) l
      → LinePut rows i l rows' → Packing n m rows' (i + 1)
  packing_next {l} {rows'} h p put =
      let q : Packs n (line n m i) l = rw (lent, even i h) at p in
      record {
        low = omega arith;
        held = rw (add-one, ← far_next n (line n m) (blank n) i (λ j g. even j (omega arith))) (put n _ (line n m i) k.held h q);
      }

  pub packing_end : n ≤ i → Held (size d) m rows
  packing_end h =
      let z : i ≡ n = omega (arith, k.low) in
      let all : so_far n (line n m) (blank n) n ≡ m = far_end n (line n m) (blank n) n (length-replicate {A = ℕ} (n * n) 0) ∙ lines_are n (line n m) n m array.long (λ j g. refl) in
      rw (z, all, e) at k.held
