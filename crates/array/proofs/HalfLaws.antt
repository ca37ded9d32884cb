-- A half, a line a turn, for rows and for columns alike; and the rows written after the columns.
-- Assumes nothing.
use mathlib.Core.Path.{◌≡◌, refl, ap, ap₂, ◌∙◌}
use mathlib.Core.List.{List}
use Prim.Native.Nat.{ℕ, ◌+◌, ◌-◌, ◌*◌, ◌%◌, ◌<◌, ◌≤◌}
use native.Mathlib.Numerals.{add-one}
use native.Mathlib.Omega.{arith}
use borrow.Rule.Slice.PartMut.{put_mid, same_len_mid}
use lib.ListN.{length, take, drop, get_or}
use Rattle.laws.specs.Sums.{sum_to}
use Rattle.degree.specs.declared.Degree.{Degree}
use Rattle.degree.specs.Degree.{size}
use Rattle.line.specs.Bounded.{bounded}
use Rattle.line.specs.Decoding.{messages}
use Rattle.line.specs.Clauses.{count as count_of}
use Rattle.line.specs.Working.Packed.{Packs}
use Rattle.line.specs.Working.Rows.{Updated}
use Rattle.line.specs.Working.SentRows.{SentRow}
use Rattle.line.specs.declared.packed.Line.{Line}
use Rattle.line.specs.declared.tally.Tally.{Tally}
use Rattle.line.proofs.RowLaws.{size_room, size_eights}
use Rattle.array.specs.Arrays.{line, transpose}
use Rattle.array.specs.declared.packing.PackedRows.{PackedRows}
use Rattle.array.specs.Working.PackedRows.{with_line, Held, LineIn, LinePut, RowsTurned}
use Rattle.array.specs.Halves.{row_half, row_count, column_half, column_count}
use Rattle.array.specs.Working.Steps.{IsArray, StepDone}
use Rattle.array.proofs.ArrayLaws.{Even, length_line, lines_are}
use Rattle.array.proofs.HalfLines.{sent, sent_even}
use Rattle.array.proofs.PackedLaws.{so_far, far_start, far_line, far_next, far_end, line_back, row_within}
use Rattle.array.proofs.WrittenLines.{part_at}

-- ---- a half

-- the count of line i in a half of m, with channel r and filling words w
abbrev messages_count : Degree → List ℕ → List ℕ → List ℕ → ℕ → ℕ
messages_count d m r w i = count_of (bounded d) (line (size d) m i) (line (size d) r i) (get_or w i 0)

-- i lines of m are done: the array s, packed, and the count
pub record HalfAt (d : Degree) (m r w s : List ℕ) (rows : PackedRows) (count i : ℕ) : Type 0 where
  pub source : IsArray d m
  pub channel : IsArray d r
  pub cells : s ≡ so_far (size d) (sent d m r w) m i
  pub held : Held (size d) s rows
  pub sum : count ≡ sum_to (messages_count d m r w) i

half_start : {d : Degree} {m r : List ℕ} {rows : PackedRows} (w : List ℕ) → Held (size d) m rows → IsArray d r → HalfAt d m r w m rows 0 0
unfolding sum_to
half_start {d} {m} {r} w k a = record { source = k.array; channel = a; cells = far_start (size d) (sent d m r w) m; held = k; sum = refl }

module _ {d : Degree} {m r w s : List ℕ} {rows : PackedRows} {count i : ℕ} (k : HalfAt d m r w s rows count i) where
  module _ (h : i < size d) where
    even : Even (size d) (sent d m r w) i
    even j q = sent_even d w k.source k.channel j (omega arith)

    -- the line at hand is still m's
    half_line : line (size d) s i ≡ line (size d) m i
    half_line = rw k.cells (far_line (size d) (sent d m r w) m i even)

    -- it is done: its messages, packed, and its count
    half_next : {v : Tally Line} {rows' : PackedRows} → Packs (size d) (sent d m r w i) v.value → v.count ≡ messages_count d m r w i → LinePut rows i v.value rows'
        → HalfAt d m r w (with_line (size d) s i (sent d m r w i)) rows' (count + v.count) (i + 1)
    unfolding sum_to
    half_next p c put = record {
      source = k.source;
      channel = k.channel;
      cells = rw (k.cells, add-one) (far_next (size d) (sent d m r w) m i even);
      held = put (size d) s (sent d m r w i) k.held h p;
      sum = rw add-one (ap₂ (λ (x y : ℕ). x + y) k.sum c);
    }

  half_end : i ≡ size d → StepDone (size d) (row_half d m r w) (row_count d m r w) s rows count
  unfolding row_half row_count
  half_end z =
      let e : s ≡ row_half d m r w = k.cells ∙ rw z (far_end (size d) (sent d m r w) m (size d) k.source.long) in
      record { cells = e; held = rw (← e) k.held; sum = k.sum ∙ rw z }

-- ---- the row half: line i is lent as a part of the array

-- i rows of m, which rows₀ hold, are done. The count is small whatever the words hold.
pub record RowsAt (d : Degree) (m : List ℕ) (rows₀ channel : PackedRows) (w s : List ℕ) (rows : PackedRows) (count i : ℕ) : Type 0 where
  pub low : i ≤ size d
  pub long : length s ≡ size d * size d
  pub small : count ≤ 258 * i
  pub done : (r : List ℕ) → Held (size d) m rows₀ → Held (size d) r channel → HalfAt d m r w s rows count i

pub rows_start : {d : Degree} (m : List ℕ) (rows channel : PackedRows) (w : List ℕ) → length m ≡ size d * size d → RowsAt d m rows channel w m rows 0 0
rows_start {d} m rows channel w l = record {
  low = omega arith;
  long = l;
  small = omega arith;
  done = λ r k c. half_start w k c.array;
}

-- n is the code's number for `size d`
module _ {d : Degree} {m : List ℕ} {rows₀ channel : PackedRows} {w s : List ℕ} {rows : PackedRows} {count i n : ℕ} (k : RowsAt d m rows₀ channel w s rows count i) (e : n ≡ size d) where
  module _ (h : i < n) where
    inside : i < size d
    inside = omega arith

    -- the row lies within
    pub rows_room : i * n + n ≤ length s
    rows_room = rw e (row_within (size d) i s k.long inside)

    lent : take (i * n + n - i * n) (drop (i * n) s) ≡ line (size d) s i
    lent = rw e (part_at (i * size d) (size d) s refl)

    -- and is made of whole parts of eight cells
    pub rows_lent : length (take (i * n + n - i * n) (drop (i * n) s)) % 8 ≡ 0
    rows_lent = rw (lent, length_line (size d) (size d) s i inside k.long) (size_eights d)

    pub rows_next : {o l : Line} {y : List ℕ} {rows' : PackedRows} {v : Tally Line} → LineIn rows i o → LineIn channel i l
        → SentRow d o l (get_or w i 0) (take (i * n + n - i * n) (drop (i * n) s)) y v → LinePut rows i v.value rows'
        → RowsAt d m rows₀ channel w (put_mid (i * n) (i * n + n - i * n) s y) rows' (count + v.count) (i + 1)
    rows_next {o} {l} {y} {rows'} {v} f g q put = record {
      low = omega arith;
      long = same_len_mid (i * n) (i * n + n - i * n) s y q.long ∙ k.long;
      small = omega (arith, k.small, q.most);
      done = λ r held channel.
          let t = k.done r held channel in
          let is : take (i * n + n - i * n) (drop (i * n) s) ≡ line (size d) m i = lent ∙ half_line t inside in
          let x : Packs (size d) (take (i * n + n - i * n) (drop (i * n) s)) o = rw lent (f (size d) s t.held inside) in
          let p : Packs (size d) (line (size d) r i) l = g (size d) r channel inside in
          let a : y ≡ sent d m r w i = rw is at (q.cells (line (size d) r i) x p) in
          let b : Packs (size d) (sent d m r w i) v.value = rw is at (q.line (line (size d) r i) x p) in
          let c : v.count ≡ messages_count d m r w i = rw is at (q.count (line (size d) r i) x p) in
          rw (e, a, line_back (size d) i (i * size d) s refl) (half_next t inside b c put);
    }

  pub rows_end : n ≤ i → (count ≤ 33024) × ((r : List ℕ) → Held (size d) m rows₀ → Held (size d) r channel → StepDone (size d) (row_half d m r w) (row_count d m r w) s rows count)
  rows_end h =
      let z : i ≡ size d = omega (arith, k.low) in
      (omega (arith, k.small, size_room d), λ r held channel. half_end (k.done r held channel) z)

-- ---- the columns: no array is at hand but the words

-- i lines of what columns₀ hold are done
pub record ColumnsAt (d : Degree) (columns₀ channel : PackedRows) (w : List ℕ) (columns : PackedRows) (count i : ℕ) : Type 0 where
  pub low : i ≤ size d
  pub small : count ≤ 258 * i
  pub done : (m r : List ℕ) → Held (size d) m columns₀ → Held (size d) r channel → HalfAt d m r w (so_far (size d) (sent d m r w) m i) columns count i

again : {d : Degree} {m r w s : List ℕ} {rows : PackedRows} {count i : ℕ} → HalfAt d m r w s rows count i → HalfAt d m r w (so_far (size d) (sent d m r w) m i) rows count i
again k = rw (← k.cells) k

pub columns_start : {d : Degree} (columns channel : PackedRows) (w : List ℕ) → ColumnsAt d columns channel w columns 0 0
columns_start columns channel w = record { low = omega arith; small = omega arith; done = λ m r k c. again (half_start w k c.array) }

module _ {d : Degree} {columns₀ channel : PackedRows} {w : List ℕ} {columns : PackedRows} {count i n : ℕ} (k : ColumnsAt d columns₀ channel w columns count i) (e : n ≡ size d) where
  pub columns_next : {y l : Line} {columns' : PackedRows} {v : Tally Line} → i < n → LineIn columns i y → LineIn channel i l
      → (v.count ≤ 258) × ((ys rs : List ℕ) → Packs (size d) ys y → Packs (size d) rs l → Packs (size d) (messages (bounded d) ys rs (get_or w i 0)) v.value × (v.count ≡ count_of (bounded d) ys rs (get_or w i 0)))
      → LinePut columns i v.value columns' → ColumnsAt d columns₀ channel w columns' (count + v.count) (i + 1)
  columns_next {y} {l} {columns'} {v} h f g q put = record {
    low = omega arith;
    small = omega (arith, k.small, q.0);
    done = λ m r held channel.
        let inside : i < size d = omega arith in
        let t = k.done m r held channel in
        let p : Packs (size d) (line (size d) m i) y = rw (half_line t inside) at (f (size d) _ t.held inside) in
        let b = q.1 (line (size d) m i) (line (size d) r i) p (g (size d) r channel inside) in
        again (half_next t inside {v = v} b.0 b.1 put);
  }

  pub columns_end : n ≤ i → (count ≤ 33024)
      × ((m r : List ℕ) → Held (size d) m columns₀ → Held (size d) r channel → Held (size d) (row_half d m r w) columns × (count ≡ row_count d m r w))
  columns_end h =
      let z : i ≡ size d = omega (arith, k.low) in
      (omega (arith, k.small, size_room d), λ m r held channel. let t = half_end (k.done m r held channel) z in (t.held, t.sum))

-- ---- the rows written, a row a turn

-- of the array m₀ the first i rows hold the new ones, where m₀ is held by the old packed rows
pub record Writing (n : ℕ) (m₀ : List ℕ) (old rows : PackedRows) (m : List ℕ) (i : ℕ) : Type 0 where
  pub low : i ≤ n
  pub start : length m₀ ≡ n * n
  pub long : length m ≡ length m₀
  pub done : (t : List ℕ) → Held n m₀ old → Held n t rows → m ≡ so_far n (line n t) m₀ i

pub writing_start : {n n' : ℕ} (m : List ℕ) (old rows : PackedRows) → n ≡ n' → length m ≡ n' * n' → Writing n m old rows m 0
writing_start {n} m old rows e l = record { low = omega arith; start = rw e l; long = refl; done = λ t k q. far_start n (line n t) m }

module _ {m₀ : List ℕ} {old rows : PackedRows} {m : List ℕ} {i n : ℕ} (k : Writing n m₀ old rows m i) where
  square : length m ≡ n * n
  square = k.long ∙ k.start

  -- the row that is lent lies within
  pub writing_room : i < n → i * n + n ≤ length m
  writing_room h = row_within n i m square h

  row_is : take (i * n + n - i * n) (drop (i * n) m) ≡ line n m i
  row_is = part_at (i * n) n m refl

  -- and is made of whole parts of eight cells
  pub writing_lent : (d : Degree) → n ≡ size d → i < n → length (take (i * n + n - i * n) (drop (i * n) m)) % 8 ≡ 0
  writing_lent d e h = rw (row_is, length_line n n m i h square, e) (size_eights d)

  pub writing_next : {a b : Line} {y : List ℕ} → i < n → LineIn old i a → LineIn rows i b → Updated a b (take (i * n + n - i * n) (drop (i * n) m)) y
      → Writing n m₀ old rows (put_mid (i * n) (i * n + n - i * n) m y) (i + 1)
  writing_next {a} {b} {y} h f g u = record {
    low = omega arith;
    start = k.start;
    long = same_len_mid (i * n) (i * n + n - i * n) m y u.long ∙ k.long;
    done = λ t was new.
        let even : Even n (line n t) i = λ j q. length_line n n t j (omega arith) new.array.long in
        let still : take (i * n + n - i * n) (drop (i * n) m) ≡ line n m₀ i = row_is ∙ ap (λ (x : List ℕ). line n x i) (k.done t was new) ∙ far_line n (line n t) m₀ i even in
        let c : y ≡ line n t i = u.cells n (line n t i) (rw still (f n m₀ was h)) (g n t new h) in
        line_back n i (i * n) m refl y ∙ rw (c, k.done t was new, add-one) (far_next n (line n t) m₀ i even);
  }

  pub writing_end : {n' : ℕ} → n ≡ n' → n ≤ i → (t : List ℕ) → Held n' m₀ old → Held n' t rows → m ≡ t
  writing_end {n'} e h t was new =
      let z : i ≡ n = omega (arith, k.low) in
      let p : Held n m₀ old = rw e was in
      let q : Held n t rows = rw e new in
      k.done t p q ∙ rw z (far_end n (line n t) m₀ n p.array.long) ∙ lines_are n (line n t) n t q.array.long (λ j g. refl)

-- ---- the column half, from its parts

pub columns_done : (d : Degree) (w : List ℕ) {m : List ℕ} {rows channel columns sent rows' : PackedRows} {after : List ℕ} {count : ℕ} → RowsTurned (size d) rows columns
    → (count ≤ 33024) × ((m r : List ℕ) → Held (size d) m columns → Held (size d) r channel → Held (size d) (row_half d m r w) sent × (count ≡ row_count d m r w))
    → RowsTurned (size d) sent rows' → ((t : List ℕ) → Held (size d) m rows → Held (size d) t rows' → after ≡ t)
    → (count ≤ 33024)
    × ((r : List ℕ) → Held (size d) m rows → Held (size d) (transpose (size d) (size d) r) channel → StepDone (size d) (column_half d m r w) (column_count d m r w) after rows' count)
unfolding column_half column_count
columns_done d w {m} s q t e = (
  q.0,
  λ r held channel.
      let h = q.1 _ _ (s m held) channel in
      let k = t _ h.0 in
      record { cells = e _ held k; held = k; sum = h.1 },
)
