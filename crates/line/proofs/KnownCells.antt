-- The cells of a line where they are known, and those of another line elsewhere.
-- Assumes nothing.
use mathlib.Core.Path.{◌≡◌, refl, sym, ap, ap₂, ◌∙◌}
use mathlib.Core.Bool.{Bool, true, false, cond}
use mathlib.Core.List.{List}
use Prim.Native.Nat.{ℕ, ◌^◌, ◌<◌}
use native.Mathlib.Omega.{arith}
use lib.Bits.{bit_and, bit_or, or_lt, and_lt}
use lib.ListN.{length}
use Rattle.laws.specs.Bits.{bit}
use Rattle.laws.specs.Working.Bits.{bit_at}
use Rattle.laws.proofs.Bits.{or_at, and_at, bits_ext}
use Rattle.words.specs.declared.word.Word.{Word}
use Rattle.words.specs.Working.Word.{value}
use Rattle.line.specs.declared.packed.Line.{Line}
use Rattle.line.specs.Cells.{Cells, cell, is_erased}
use Rattle.line.specs.Working.Packed.{is_one, pack_by, Packs, known_else}
use Rattle.line.proofs.LineLaw.{list_to_cell, list_to_cells}
use Rattle.line.proofs.PackBits.{pack_by_lt, pack_by_bit, cell_ind}
use Rattle.line.proofs.Packing.{one_at, erased_at, ones_lt, erased_lt}

-- ---- cell by cell

module _ (cs es : List ℕ) (k : ℕ) (h : k < length cs) where
  pub known_cell : cell (known_else cs es) k ≡ cond (is_erased (cell cs k)) (cell es k) (cell cs k)
  unfolding known_else
  known_cell = list_to_cell (λ i. cond (is_erased (cell cs i)) (cell es i) (cell cs i)) (length cs) k h

  -- where both lines have one cell, it is that
  pub known_equal : cell es k ≡ cell cs k → cell (known_else cs es) k ≡ cell es k
  known_equal e = known_cell ∙ go (is_erased (cell cs k))
    where
      go : (t : Bool) → cond t (cell es k) (cell cs k) ≡ cell es k
      go true = refl
      go false = sym e

  -- where the first line's cell is known, it is that
  pub known_first : is_erased (cell cs k) ≡ false → cell (known_else cs es) k ≡ cell cs k
  known_first e = known_cell ∙ ap (λ (t : Bool). cond t (cell es k) (cell cs k)) e

-- ---- packed

-- the cells of two lines, c and e, and their bits
one_bit : {c e : ℕ} → c < 3 → e < 3 → bit_or (bit (is_one c)) (bit_and (bit (is_erased c)) (bit (is_one e))) ≡ bit (is_one (cond (is_erased c) e c))
one_bit {e} hc he =
    cell_ind (λ (c : ℕ). bit_or (bit (is_one c)) (bit_and (bit (is_erased c)) (bit (is_one e))) ≡ bit (is_one (cond (is_erased c) e c)))
    (cell_ind (λ (e : ℕ). bit_or 0 (bit_and 0 (bit (is_one e))) ≡ 0) refl refl refl he)
    (cell_ind (λ (e : ℕ). bit_or 1 (bit_and 0 (bit (is_one e))) ≡ 1) refl refl refl he)
    (cell_ind (λ (e : ℕ). bit_or 0 (bit_and 1 (bit (is_one e))) ≡ bit (is_one e)) refl refl refl he) hc

erased_bit : {c e : ℕ} → c < 3 → e < 3 → bit_and (bit (is_erased c)) (bit (is_erased e)) ≡ bit (is_erased (cond (is_erased c) e c))
erased_bit {e} hc he =
    cell_ind (λ (c : ℕ). bit_and (bit (is_erased c)) (bit (is_erased e)) ≡ bit (is_erased (cond (is_erased c) e c)))
    (cell_ind (λ (e : ℕ). bit_and 0 (bit (is_erased e)) ≡ 0) refl refl refl he)
    (cell_ind (λ (e : ℕ). bit_and 0 (bit (is_erased e)) ≡ 0) refl refl refl he)
    (cell_ind (λ (e : ℕ). bit_and 1 (bit (is_erased e)) ≡ bit (is_erased e)) refl refl refl he) hc

module _ {n : ℕ} {cs es : List ℕ} {a b : Line} (p : Packs n cs a) (q : Packs n es b) where
  known_cells : Cells 3 n (known_else cs es)
  unfolding known_else
  known_cells =
      rw (← p.cells.long)
      (list_to_cells (λ i. cond (is_erased (cell cs i)) (cell es i) (cell cs i)) (length cs) (omega arith) (λ k h. go (is_erased (cell cs k)) (p.cells.small k) (q.cells.small k)))
    where
      go : (t : Bool) {c e : ℕ} → c < 3 → e < 3 → cond t e c < 3
      go true hc he = he
      go false hc he = hc

  -- a number whose bits are those of the cells
  by_bits : (test : ℕ → Bool) → test 0 ≡ false → (v : ℕ) → v < 2 ^ n → ((k : ℕ) → bit_at v k ≡ bit (test (cond (is_erased (cell cs k)) (cell es k) (cell cs k)))) → v ≡ pack_by test (known_else cs es)
  by_bits test z v l h =
      bits_ext n v (pack_by test (known_else cs es)) l (rw (← known_cells.long) (pack_by_lt test (known_else cs es)))
      (λ k hk. h k ∙ ap (λ (c : ℕ). bit (test c)) (sym (known_cell cs es k (rw p.cells.long hk))) ∙ sym (pack_by_bit test z (known_else cs es) k))

  pub known_packed : {o e : Word} → value o ≡ bit_or (value a.ones) (bit_and (value a.erased) (value b.ones)) → value e ≡ bit_and (value a.erased) (value b.erased)
      → Packs n (known_else cs es) (record { ones = o; erased = e })
  known_packed eo ee = record {
    room = p.room;
    cells = known_cells;
    ones = eo
        ∙ by_bits is_one refl _ (or_lt n _ _ (ones_lt p) (and_lt n _ _ (erased_lt p) (ones_lt q)))
        (λ k. or_at (value a.ones) (bit_and (value a.erased) (value b.ones)) k
        ∙ ap₂ bit_or (one_at k p) (and_at (value a.erased) (value b.ones) k ∙ ap₂ bit_and (erased_at k p) (one_at k q)) ∙ one_bit (p.cells.small k) (q.cells.small k));
    erased = ee
        ∙ by_bits is_erased refl _ (and_lt n _ _ (erased_lt p) (erased_lt q))
        (λ k. and_at (value a.erased) (value b.erased) k ∙ ap₂ bit_and (erased_at k p) (erased_at k q) ∙ erased_bit (p.cells.small k) (q.cells.small k));
  }
