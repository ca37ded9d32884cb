-- Masks of a line: the messages of the cells that they leave out are the cells of the line that the messages start from.
-- Assumes nothing.
use mathlib.Core.Path.{◌≡◌, refl, sym, ap₂, ◌∙◌}
use mathlib.Core.Bool.{Bool, true, false, ◌&&◌, not}
use mathlib.Core.Logic.{◌≢◌}
use mathlib.Core.List.{List}
use Prim.Native.Nat.{ℕ, ◌+◌, ◌*◌, ◌≤◌, ◌<◌}
use native.Mathlib.Omega.{arith}
use lib.Bits.{bit_and, bit_or, bit_xor, or_lt, xor_lt, and_lt}
use lib.Dec.{eqb}
use lib.Pow.{pow_pos}
use borrow.Author.Tests.{eq-eqb, ne_eqb}
use Rattle.laws.specs.Bits.{bit}
use Rattle.laws.specs.Working.Bits.{bit_at}
use Rattle.laws.proofs.Xor.{bit_ind, xor_eq}
use Rattle.laws.proofs.Bits.{bit_at_lt, or_at, xor_at, and_at}
use Rattle.degree.specs.declared.Degree.{Degree}
use Rattle.degree.specs.Degree.{size}
use Rattle.line.specs.declared.clause.Clause.TheVariants.{Channel}
use Rattle.line.specs.declared.packed.Line.{Line}
use Rattle.words.specs.Working.Word.{value}
use Rattle.line.specs.Cells.{cell, is_erased, erasures, few, designed_distance}
use Rattle.line.specs.Working.Packed.{Packs}
use Rattle.line.specs.Bounded.{bounded}
use Rattle.line.specs.Decoding.{message}
use Rattle.line.specs.Clauses.{cost, clause}
use Rattle.line.specs.Working.Settled.{settled}
use Rattle.line.specs.Working.Fillings.{Masks, start}
use Rattle.line.proofs.Packing.{erased_at, cell_of_line, ones_lt, erased_lt}
use Rattle.line.proofs.Choosing.{is_few, is_many}
use Rattle.line.proofs.ClauseLaws.{clause_settles}
use Rattle.line.proofs.Reaching.{equal_clause, many_clause}
use Rattle.line.proofs.Starting.{equal_start}

-- ---- which cells a mask leaves out

-- two pairs of bits
none_differ : {a b c e : ℕ} → a < 2 → b < 2 → c < 2 → e < 2 → bit_or (bit_xor a b) (bit_xor c e) ≡ 0 → (a ≡ b) × (c ≡ e)
none_differ {a} {b} {c} {e} ha hb hc he =
    bit_ind (λ (a : ℕ). bit_or (bit_xor a b) (bit_xor c e) ≡ 0 → (a ≡ b) × (c ≡ e))
    (bit_ind (λ (b : ℕ). bit_or (bit_xor 0 b) (bit_xor c e) ≡ 0 → (0 ≡ b) × (c ≡ e)) (λ z. (refl, xor_eq z)) (λ z. absurd (more hc he z)) hb)
    (bit_ind (λ (b : ℕ). bit_or (bit_xor 1 b) (bit_xor c e) ≡ 0 → (1 ≡ b) × (c ≡ e)) (λ z. absurd (more hc he z)) (λ z. (refl, xor_eq z)) hb) ha
  where
    more : {c e : ℕ} → c < 2 → e < 2 → bit_or 1 (bit_xor c e) ≡ 0 → ⊥
    more {c} {e} hc he =
        bit_ind (λ (c : ℕ). bit_or 1 (bit_xor c e) ≡ 0 → ⊥)
        (bit_ind (λ (e : ℕ). bit_or 1 (bit_xor 0 e) ≡ 0 → ⊥) (λ z. omega arith) (λ z. omega arith) he)
        (bit_ind (λ (e : ℕ). bit_or 1 (bit_xor 1 e) ≡ 0 → ⊥) (λ z. omega arith) (λ z. omega arith) he) hc

not_fresh : (a c : Bool) → bit_xor (bit a) (bit_and (bit a) (bit c)) ≡ 0 → (a && not c) ≡ false
not_fresh true true e = refl
not_fresh true false e = let z : ⊥ = omega arith in elim z [ ]
not_fresh false c e = refl

module _ (d : Degree) (ys rs : List ℕ) (f : ℕ) {y r : Line} (p : Packs (size d) ys y) (q : Packs (size d) rs r) {e : ℕ} (h : e ≡ erasures ys) where
  -- cells without a bit are equal
  cells_equal : (k : ℕ) → bit_at (bit_or (bit_xor (value y.ones) (value r.ones)) (bit_xor (value y.erased) (value r.erased))) k ≡ 0 → cell ys k ≡ cell rs k
  cells_equal k z =
      let s = none_differ (bit_at_lt (value y.ones) k) (bit_at_lt (value r.ones) k) (bit_at_lt (value y.erased) k) (bit_at_lt (value r.erased) k)
      (sym (or_at (bit_xor (value y.ones) (value r.ones)) (bit_xor (value y.erased) (value r.erased)) k ∙ ap₂ bit_or (xor_at (value y.ones) (value r.ones) k) (xor_at (value y.erased) (value r.erased) k)) ∙ z) in
      sym (cell_of_line k p) ∙ ap₂ (λ (a b : ℕ). a + 2 * b) s.0 s.1 ∙ cell_of_line k q

  -- a cell that the mask leaves out
  abbrev LeftOut : ℕ → Type 0
  LeftOut k = (cell (start d ys rs f) k ≡ message (bounded d) ys rs f k) × (cost (clause (bounded d) ys rs f k) ≡ 0)

  -- the message of a cell that is the channel's
  pub equal_outside : (k : ℕ) → k < size d → few ys ≡ true → cell ys k ≡ cell rs k → LeftOut k
  unfolding settled
  equal_outside k hk e g =
      rw (clause_settles d ys rs f k p.cells q.cells hk, ← equal_clause d ys rs f k p.cells q.cells hk e g) (equal_start d ys rs f e k (rw q.cells.long hk) g, refl)

  -- with 6 or more erasures, the message of a cell that is settled by the clause channel
  channel_outside : (k : ℕ) → k < size d → few ys ≡ false → Channel ≡ clause (bounded d) ys rs f k → LeftOut k
  unfolding start settled
  channel_outside k hk m c = rw (clause_settles d ys rs f k p.cells q.cells hk, ← c, m) (refl, refl)

  pub few_mask : e < designed_distance → Masks d ys rs f (bit_or (bit_xor (value y.ones) (value r.ones)) (bit_xor (value y.erased) (value r.erased)))
  few_mask l =
      record {
        small = or_lt (size d) _ _ (xor_lt (size d) _ _ (ones_lt p) (ones_lt q)) (xor_lt (size d) _ _ (erased_lt p) (erased_lt q));
        rest = λ k hk z. equal_outside k hk (is_few ys e h l) (cells_equal k z);
      }

  known_there : (k : ℕ) → bit_at (bit_xor (value y.erased) (bit_and (value y.erased) (value r.erased))) k ≡ 0 → (eqb (cell ys k) 2 && not (eqb (cell rs k) 2)) ≡ false
  known_there k z =
      not_fresh (is_erased (cell ys k)) (is_erased (cell rs k))
      (sym (xor_at (value y.erased) (bit_and (value y.erased) (value r.erased)) k
      ∙ ap₂ bit_xor (erased_at k p) (and_at (value y.erased) (value r.erased) k ∙ ap₂ bit_and (erased_at k p) (erased_at k q))) ∙ z)

  channel_rest : designed_distance ≤ e → (k : ℕ) → k < size d → (eqb (erasures ys) designed_distance && (eqb (cell ys k) 2 && not (eqb (cell rs k) 2))) ≡ false → LeftOut k
  channel_rest l k hk z =
      let many = is_many ys e h l in
      channel_outside k hk many (many_clause d ys rs f k p.cells q.cells hk many false z)

  pub six_mask : designed_distance ≤ e → e ≡ designed_distance → Masks d ys rs f (bit_xor (value y.erased) (bit_and (value y.erased) (value r.erased)))
  six_mask l s =
      record {
        small = xor_lt (size d) _ _ (erased_lt p) (and_lt (size d) _ _ (erased_lt p) (erased_lt q));
        rest = λ k hk z. channel_rest l k hk (rw (eq-eqb (erasures ys) designed_distance (sym h ∙ s)) (known_there k z));
      }

  pub more_mask : designed_distance ≤ e → e ≢ designed_distance → Masks d ys rs f 0
  more_mask l s = record { small = pow_pos (size d); rest = λ k hk z. channel_rest l k hk (rw (ne_eqb (erasures ys) designed_distance (λ g. s (h ∙ g)))) }
