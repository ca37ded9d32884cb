-- The report: unsure cells counted line by line, and rows and columns that are codewords.
-- Assumes nothing.
use mathlib.Core.Path.{◌≡◌, refl, sym, ap, ap₂, ◌∙◌}
use mathlib.Core.Bool.{Bool, true, false, ◌&&◌, true≢false, not-eq-not}
use mathlib.Core.Logic.{◌⊎◌, inl, inr}
use mathlib.Core.List.{List, [], ◌∷◌, ◌++◌}
use Prim.Native.Nat.{ℕ, ◌+◌, ◌*◌, ◌<◌, ◌≤◌}
use native.Mathlib.Nat.{suc-mul, zero-mul, add_assoc, zero-add}
use native.Mathlib.Numerals.{add-one}
use native.Mathlib.Omega.{arith}
use borrow.Author.Tests.{eq-eqb, ne_eqb}
use lib.ListN.{take}
use lib.Seq.{take-add, take_all}
use Rattle.laws.specs.Tests.{every}
use Rattle.laws.proofs.Tests.{and_true, every_more, every_fewer}
use Rattle.degree.specs.declared.Degree.{Degree}
use Rattle.degree.specs.Degree.{size}
use Rattle.line.specs.Cells.{bit, is_erased, erasures}
use Rattle.line.specs.Codeword.{is_codeword}
use Rattle.line.specs.Working.Packed.{Packs, PacksWord}
use Rattle.line.specs.declared.packed.Line.{Line}
use Rattle.words.specs.declared.word.Word.{Word}
use Rattle.words.specs.Working.Word.{value}
use Rattle.line.proofs.RowLaws.{size_room}
use Rattle.array.specs.declared.report.Report.{Report}
use Rattle.array.specs.Arrays.{line, transpose}
use Rattle.array.specs.declared.packing.PackedRows.{PackedRows}
use Rattle.array.specs.Working.PackedRows.{Held, LineIn, RowsTurned}
use Rattle.array.specs.Plain.{plain, plain_count, closed}
use Rattle.array.specs.Working.Steps.{StepDone}
use Rattle.array.specs.Working.Runs.{IsFull, Started, Told, DecodingDone, row_test, column_test, lines_to}
use Rattle.array.proofs.ArrayLaws.{line_cells, transpose_cells}
use Rattle.array.proofs.ClosedLaws.{no_erasures}

-- ---- erasures, a line a turn

erasures_append : (xs ys : List ℕ) → erasures (xs ++ ys) ≡ erasures xs + erasures ys
unfolding erasures
erasures_append [] ys = sym (zero-add (erasures ys))
erasures_append (x ∷ xs) ys =
    ap (λ (n : ℕ). bit (is_erased x) + n) (erasures_append xs ys) ∙ sym (add_assoc (bit (is_erased x)) (erasures xs) (erasures ys))

-- the sum over the first i lines
pub record Counting (n : ℕ) (rows : PackedRows) (sum i : ℕ) : Type 0 where
  pub low : i ≤ n
  pub small : sum ≤ 128 * i
  pub done : (m : List ℕ) → Held n m rows → sum ≡ erasures (take (i * n) m)

pub counting_start : (n : ℕ) (rows : PackedRows) → Counting n rows 0 0
unfolding erasures
counting_start n rows = record { low = omega arith; small = omega arith; done = λ m k. rw zero-mul }

pub counting_next : {n : ℕ} {rows : PackedRows} {sum i k : ℕ} {l : Line} → Counting n rows sum i → i < n → LineIn rows i l
    → (k ≤ 128) × ((n : ℕ) (cs : List ℕ) → Packs n cs l → k ≡ erasures cs) → Counting n rows (sum + k) (i + 1)
counting_next {n} {rows} {sum} {i} c h f b = record {
  low = omega arith;
  small = omega (arith, c.small);
  done = λ m q.
      ap₂ (λ (x y : ℕ). x + y) (c.done m q) (b.1 n (line n m i) (f n m q h))
      ∙ sym (erasures_append (take (i * n) m) (line n m i)) ∙ rw (add-one, suc-mul) (ap erasures (sym (take-add (i * n) n m)));
}

pub counting_end : {n n' : ℕ} {rows : PackedRows} {sum i : ℕ} → Counting n rows sum i → n ≡ n' → n ≤ i → (m : List ℕ) → Held n' m rows → sum ≡ erasures m
counting_end {n} {n'} {rows} {sum} {i} c e h m k' =
    let k : Held n m rows = rw e k' in
    let z : i ≡ n = omega (arith, c.low) in
    c.done m k ∙ ap erasures (take_all (i * n) m (rw z (omega (arith, k.array.long))))

-- ---- codewords, a row and a column a turn

-- the first i rows and columns
pub record Testing (d : Degree) (rows columns : PackedRows) (all : Bool) (i : ℕ) : Type 0 where
  pub low : i ≤ size d
  pub done : (m : List ℕ) → IsFull d m → Held (size d) m rows → Held (size d) (transpose (size d) (size d) m) columns → all ≡ lines_to d m i

pub testing_start : (d : Degree) (rows columns : PackedRows) → Testing d rows columns true 0
testing_start d rows columns = record { low = omega arith; done = λ m a h k. refl }

-- what the test of one packed line says
abbrev Tested : Degree → Bool → Word → Type 0
Tested d b w = (ws : List ℕ) → PacksWord (size d) ws (value w) → b ≡ is_codeword d ws

line_tested : (d : Degree) {rows : PackedRows} {m : List ℕ} {i : ℕ} {l : Line} {w : Word} {b : Bool} → IsFull d m → Held (size d) m rows → i < size d → LineIn rows i l → w ≡ l.ones → Tested d b w
    → b ≡ is_codeword d (line (size d) m i)
line_tested d {rows} {m} {i} a h p f o t =
    t (line (size d) m i) (record { room = size_room d; cells = line_cells (size d) (size d) i a p; ones = ap value o ∙ (f (size d) m h p).ones })

pub testing_next : {d : Degree} {rows columns : PackedRows} {across down : Bool} {i n : ℕ} {v w : Word} {k l : Line} → Testing d rows columns true i → n ≡ size d → i < n
    → LineIn rows i k → v ≡ k.ones → Tested d across v → LineIn columns i l → w ≡ l.ones → Tested d down w → Testing d rows columns (across && down) (i + 1)
testing_next {d} {rows} {columns} {across} {down} {i} c e h f o s g p t = record {
  low = omega arith;
  done = λ m a u v.
      let inside : i < size d = omega arith in
      let so = and_true (every (row_test d m) i) (every (column_test d m) i) (sym (c.done m a u v)) in
      ap₂ ◌&&◌ (every_more (row_test d m) i (line_tested d a u inside f o s) so.0) (every_more (column_test d m) i (line_tested d (transpose_cells (size d) (size d) a) v inside g p t) so.1);
}

-- at the end all are looked at, or the last that was is none
pub testing_end : {d : Degree} {rows columns : PackedRows} {all : Bool} {i n : ℕ} → Testing d rows columns all i → n ≡ size d → (all ≡ false) ⊎ (n ≤ i)
    → (m : List ℕ) → IsFull d m → Held (size d) m rows → Held (size d) (transpose (size d) (size d) m) columns → all ≡ lines_to d m (size d)
testing_end {d} {rows} {columns} {all} {i} c e (inr h) m a u v =
    let z : i ≡ size d = omega (arith, c.low) in
    rw z at (c.done m a u v)
testing_end {d} {rows} {columns} {all} {i} c e (inl f) m a u v =
    f ∙ sym (not-eq-not.0 (λ t. true≢false (sym (fewer t) ∙ (sym (c.done m a u v) ∙ f))))
  where
    fewer : lines_to d m (size d) ≡ true → lines_to d m i ≡ true
    fewer t =
        let so = and_true (every (row_test d m) (size d)) (every (column_test d m) (size d)) t in
        ap₂ ◌&&◌ (every_fewer (row_test d m) c.low so.0) (every_fewer (column_test d m) c.low so.1)

-- ---- the state of an array

-- with cells unsure it is open
pub told_open : (d : Degree) {rows : PackedRows} {t k : ℕ} → ((m : List ℕ) → Held (size d) m rows → k ≡ erasures m) → (k ≡ 0 → ⊥)
    → (m : List ℕ) → Held (size d) m rows → Told d m t (record { count = t; erasures = k; closed = false })
unfolding closed
told_open d e z m h =
    let q = e m h in
    record { count = refl; erasures = q; closed = sym (ap (λ (b : Bool). b && lines_to d m (size d)) (ne_eqb (erasures m) 0 (λ y. z (q ∙ y)))) }

-- with none it is closed where all rows and columns are codewords
pub told_full : (d : Degree) {rows columns : PackedRows} {t k : ℕ} {b : Bool} → ((m : List ℕ) → Held (size d) m rows → k ≡ erasures m) → k ≡ 0
    → RowsTurned (size d) rows columns → ((m : List ℕ) → IsFull d m → Held (size d) m rows → Held (size d) (transpose (size d) (size d) m) columns → b ≡ lines_to d m (size d))
    → (m : List ℕ) → Held (size d) m rows → Told d m t (record { count = t; erasures = k; closed = b })
unfolding closed
told_full d {rows} {columns} {t} {k} {b} e z s f m h =
    let q = e m h in
    let full : IsFull d m = record { long = h.array.long; small = no_erasures m h.array.small (sym q ∙ z) } in
    record { count = refl; erasures = q; closed = f m full h (s m h) ∙ sym (ap (λ (b : Bool). b && lines_to d m (size d)) (eq-eqb (erasures m) 0 (sym q ∙ z))) }

-- ---- the whole decoding

-- the iterations start from the array that is the channel's, its rows and columns packed; what they leave is told
pub decoded : (d : Degree) (l : ℕ) (r w : List ℕ) {m s : List ℕ} {rows across down left : PackedRows} {count : ℕ} {t : Report} → m ≡ r → Held (size d) r across → RowsTurned (size d) across down → rows ≡ across
    → ((r : List ℕ) → Started (size d) m r rows across down → StepDone (size d) (plain d l m r w) (plain_count d l m r w) s left count)
    → ((m : List ℕ) → Held (size d) m left → Told d m count t) → DecodingDone d l r w s t
decoded d l r w {m} e h turned same run told =
    let k = run r (record { held = rw (e, same) h; across = h; down = turned r h }) in
    let f = rw e at k.cells in
    let tell = told _ k.held in
    record { cells = f; count = tell.count ∙ rw e at k.sum; erasures = rw e at tell.erasures; closed = rw e at tell.closed }
