-- Closed says no less and no more than document 02: no cell is unsure, and each row and each column is a codeword.
-- Assumes nothing.
use mathlib.Core.Path.{◌≡◌, sym, ap, ap₂, ◌∙◌}
use mathlib.Core.Bool.{true, false, ◌&&◌, true≢false, not-eq-not}
use mathlib.Core.Logic.{◌↔◌, ◌⊎◌, inl, inr, ◌≢◌}
use mathlib.Core.List.{List, [], ◌∷◌}
use Prim.Native.Nat.{ℕ, zero, suc, ◌<◌}
use native.Mathlib.Omega.{arith}
use borrow.Author.Tests.{eq-eqb, eqb-true}
use lib.Dec.{eqb}
use Rattle.laws.specs.Tests.{every}
use Rattle.laws.proofs.Tests.{and_true, every_each, every_true}
use Rattle.degree.specs.declared.Degree.{Degree}
use Rattle.degree.specs.Degree.{size}
use Rattle.line.specs.Cells.{cell, bit, is_erased, erasures}
use Rattle.line.specs.Codeword.{Codeword, is_codeword}
use Rattle.line.proofs.CellLaws.{erased_or_known}
use Rattle.line.proofs.Distances.{is_codeword_lem}
use Rattle.array.specs.Arrays.{line, column}
use Rattle.array.specs.Plain.{closed}
use Rattle.array.specs.Working.Steps.{IsArray}
use Rattle.array.specs.Working.Runs.{IsFull, row_test, column_test, lines_to}
use Rattle.array.proofs.ArrayLaws.{line_cells, transpose_cells}

-- a list with no erasure is a word
pub no_erasures : (m : List ℕ) → ((i : ℕ) → cell m i < 3) → erasures m ≡ 0 → (i : ℕ) → cell m i < 2
unfolding erasures
no_erasures [] h e i = omega arith
no_erasures (c ∷ cs) h e zero = pick (erased_or_known c)
  where
    pick : ((c ≡ 2) × (bit (is_erased c) ≡ 1)) ⊎ ((c ≢ 2) × (bit (is_erased c) ≡ 0)) → c < 2
    pick (inl p) = absurd (omega (arith, p.1, e))
    pick (inr p) = omega (arith, h 0, p.0)
no_erasures (c ∷ cs) h e (suc i) = no_erasures cs (λ j. h (suc j)) (omega arith) i

-- an unsure cell is counted
unsure_counted : (m : List ℕ) (i : ℕ) → cell m i ≡ 2 → erasures m ≡ 0 → ⊥
unfolding erasures
unsure_counted [] i e z = omega arith
unsure_counted (c ∷ cs) zero e z = omega (arith, ap (λ (x : ℕ). bit (is_erased x)) e)
unsure_counted (c ∷ cs) (suc i) e z = unsure_counted cs i e (omega arith)

module _ (d : Degree) (m : List ℕ) where
  -- what a closed array has passed
  record Passed : Type 0 where
    known : erasures m ≡ 0
    rows : (i : ℕ) → i < size d → is_codeword d (line (size d) m i) ≡ true
    columns : (j : ℕ) → j < size d → is_codeword d (column (size d) m j) ≡ true

  closed_passed : closed d m ≡ true → Passed
  unfolding closed
  closed_passed e =
      let p = and_true (eqb (erasures m) 0) (lines_to d m (size d)) e in
      let q = and_true (every (row_test d m) (size d)) (every (column_test d m) (size d)) p.1 in
      record { known = eqb-true (erasures m) 0 p.0; rows = every_each (row_test d m) (size d) q.0; columns = every_each (column_test d m) (size d) q.1 }

  -- a row that is no codeword leaves the array open
  pub bad_row : (i : ℕ) → i < size d → is_codeword d (line (size d) m i) ≡ false → closed d m ≡ false
  bad_row i h e = not-eq-not.0 (λ c. true≢false (sym ((closed_passed c).rows i h) ∙ e))

  -- so does a column
  pub bad_column : (j : ℕ) → j < size d → is_codeword d (column (size d) m j) ≡ false → closed d m ≡ false
  bad_column j h e = not-eq-not.0 (λ c. true≢false (sym ((closed_passed c).columns j h) ∙ e))

  -- and so does an unsure cell
  pub unsure_cell : (i : ℕ) → cell m i ≡ 2 → closed d m ≡ false
  unsure_cell i e = not-eq-not.0 (λ c. unsure_counted m i e (closed_passed c).known)

  -- no cell is unsure and each row and each column is a codeword
  pub record IsClosed : Type 0 where
    pub known : erasures m ≡ 0
    pub rows : (i : ℕ) → i < size d → Codeword d (line (size d) m i)
    pub columns : (j : ℕ) → j < size d → Codeword d (column (size d) m j)

  -- such an array is closed
  pub codewords_closed : IsClosed → closed d m ≡ true
  unfolding closed
  codewords_closed p =
      ap₂ ◌&&◌ (eq-eqb (erasures m) 0 p.known) (ap₂ ◌&&◌ (every_true (row_test d m) (size d) (λ i h. tested (p.rows i h))) (every_true (column_test d m) (size d) (λ j h. tested (p.columns j h))))
    where
      tested : {c : List ℕ} → Codeword d c → is_codeword d c ≡ true
      tested k = (is_codeword_lem d k.word).1 k

  -- and no other is
  pub closed_exactly : IsArray d m → (closed d m ≡ true) ↔ IsClosed
  closed_exactly a = (to, codewords_closed)
    where
      to : closed d m ≡ true → IsClosed
      to e =
          let t = closed_passed e in
          let full : IsFull d m = record { long = a.long; small = no_erasures m a.small t.known } in
          record {
            known = t.known;
            rows = λ i h. (is_codeword_lem d (line_cells (size d) (size d) i full h)).0 (t.rows i h);
            columns = λ j h. (is_codeword_lem d (line_cells (size d) (size d) j (transpose_cells (size d) (size d) full) h)).0 (t.columns j h);
          }
