-- What a filling says at a cell, and the clause there.
-- Assumes nothing.
use mathlib.Core.Path.{◌≡◌, refl, sym, ap, ap₂, ◌∙◌}
use mathlib.Core.Bool.{Bool, true, false, cond, ◌&&◌, ◌||◌, not, or-true, and-false}
use mathlib.Core.Logic.{◌≢◌, ◌⊎◌, inl, inr}
use mathlib.Core.List.{List}
use Prim.Native.Nat.{ℕ, ◌+◌, ◌≤◌, ◌<◌}
use native.Mathlib.Omega.{arith}
use lib.Dec.{ltb, leb, eqb}
use lib.ListN.{set}
use borrow.Author.Tests.{lt-ltb, le-ltb, le-leb, lt-leb, eq-eqb, ne_eqb, ltb-true, ltb-false, eqb-true, eqb-false}
use Rattle.laws.specs.Bits.{bit}
use Rattle.laws.proofs.Xor.{bit_ind}
use Rattle.degree.specs.declared.Degree.{Degree}
use Rattle.degree.specs.Degree.{size}
use Rattle.line.specs.declared.side.Side.{Side}
use Rattle.line.specs.declared.side.Side.TheVariants.{One, Two}
use Rattle.line.specs.declared.clause.Clause.TheVariants.{Equal, Crowded, Afresh, Channel}
use Rattle.line.specs.declared.clause.Seen.{Seen}
use Rattle.line.specs.Working.Packed.{IsLine, PacksWord}
use Rattle.line.specs.Cells.{cell, is_erased, erasures, few, distance, filled, filling_bit, designed_distance, radius}
use Rattle.line.specs.Working.OneCell.{differs, filled_cell}
use Rattle.line.specs.Bounded.{Answer, bounded, changed as changed_by}
use Rattle.line.specs.Decoding.{replaced}
use Rattle.line.specs.Clauses.{near, reach, same, agrees, answer_cell, first_fit, by_reach, clause}
use Rattle.words.specs.Working.Word.{value}
use Rattle.line.specs.declared.bounded.Correction.{Correction}
use Rattle.std.specs.Prelude.{None, Some}
use Rattle.line.specs.Working.Tries.{Answers, failed, found, Decodes}
use Rattle.line.specs.Working.Fillings.{Sees}
use Rattle.line.proofs.CellLaws.{bits_from, filled_cell_lem, filled_word, distance_set, erased_or_known}
use Rattle.line.proofs.Distances.{bounded_decoder}
use Rattle.line.proofs.ClauseLaws.{now_is, now_cell, z_cell, new_lt, changed}

-- a word at distance d from a codeword, with bit w made b, where the codeword has o, is at distance e
module _ (x e : ℕ) (h : x ≤ radius) where
  stays : e ≤ x → (a : Bool) → leb e radius ≡ (a || true)
  stays l a = le-leb e radius (omega arith) ∙ sym (or-true a)

  leaves : e ≡ x + 1 → leb e radius ≡ (ltb x radius || false)
  leaves l = go (ltb x radius) refl
    where
      go : (t : Bool) → ltb x radius ≡ t → leb e radius ≡ (t || false)
      go true g = le-leb e radius (omega (arith, ltb-true x radius g))
      go false g = lt-leb e radius (omega (arith, ltb-false x radius g))

  moves : {w b o : ℕ} → w < 2 → b < 2 → o < 2 → e + differs w o ≡ x + differs b o → leb e radius ≡ (ltb x radius || (eqb w b || not (eqb o w)))
  moves {w} {b} {o} hw hb ho =
      bit_ind (λ (w : ℕ). e + differs w o ≡ x + differs b o → leb e radius ≡ (ltb x radius || (eqb w b || not (eqb o w))))
      (bit_ind (λ (b : ℕ). e + differs 0 o ≡ x + differs b o → leb e radius ≡ (ltb x radius || (eqb 0 b || not (eqb o 0))))
      (λ g. stays (omega arith) (ltb x radius))
      (bit_ind (λ (o : ℕ). e + differs 0 o ≡ x + differs 1 o → leb e radius ≡ (ltb x radius || not (eqb o 0)))
      (λ g. leaves (omega arith)) (λ g. stays (omega arith) (ltb x radius)) ho) hb)
      (bit_ind (λ (b : ℕ). e + differs 1 o ≡ x + differs b o → leb e radius ≡ (ltb x radius || (eqb 1 b || not (eqb o 1))))
      (bit_ind (λ (o : ℕ). e + differs 1 o ≡ x + differs 0 o → leb e radius ≡ (ltb x radius || not (eqb o 1)))
      (λ g. stays (omega arith) (ltb x radius)) (λ g. leaves (omega arith)) ho)
      (λ g. stays (omega arith) (ltb x radius)) hb) hw

module _ (d : Degree) (ys rs : List ℕ) (f k : ℕ) (ly : IsLine (size d) ys) (lr : IsLine (size d) rs) (hk : k < size d) where
  -- the filled channel line has the replaced line's bit at k
  pub channel_bit : (s : Side) → cell (filled s rs f) k ≡ cell (filled s (replaced ys rs k) f) k
  channel_bit s = filled_cell_lem s rs f k (rw lr.long hk) ∙ sym (now_cell (bounded_decoder d) ys rs f k ly lr hk s)

  module _ (s : Side) where
    -- a filling that found a codeword, which has own at cell k
    module _ (m : Correction) (H : Decodes d (filled s ys f) (Some m)) (own : ℕ) (is-own : (c : List ℕ) → PacksWord (size d) c (value m.word) → own ≡ cell c k) where
      pub value_at : own ≡ answer_cell (bounded d) ys rs f k (bounded d (filled s ys f))
      value_at = go H.answer
        where
          go : {p : Answer} → Answers (size d) p (Some m) → own ≡ answer_cell (bounded d) ys rs f k p
          go (found {c} w) = is-own c w

      pub reach_at : (ltb m.changed radius || (eqb (cell (filled s ys f) k) (cell (filled s (replaced ys rs k) f) k) || not (eqb own (cell (filled s ys f) k))))
          ≡ reach (bounded d) ys rs f k s
      unfolding reach
      reach_at = go (bounded d (filled s ys f)) refl H.answer
        where
          go : (p : Answer) → bounded d (filled s ys f) ≡ p → Answers (size d) p (Some m)
              → (ltb m.changed radius || (eqb (cell (filled s ys f) k) (cell (filled s (replaced ys rs k) f) k) || not (eqb own (cell (filled s ys f) k))))
              ≡ near p (filled s (replaced ys rs k) f)
          go _ e (found {c} w) =
              let D = bounded_decoder d in
              let l = filled_word s f ly in
              let q = D.sound l e in
              let b = filled_cell (cell rs k) (filling_bit s (bits_from k f)) in
              rw (H.changed ∙ ap (changed_by (filled s ys f)) e, is-own c w, now_cell D ys rs f k ly lr hk s, now_is D ys rs f k ly lr hk s)
              (sym (moves (distance (filled s ys f) c) (distance (set (filled s ys f) k b) c) q.1 (l.small k) (new_lt D ys rs f k ly lr hk s) (w.cells.small k)
              (distance_set (filled s ys f) c k b (rw l.long hk) (rw w.cells.long hk))))

    -- one that found none
    module _ (H : Decodes d (filled s ys f) None) where
      pub none_value : cell rs k ≡ answer_cell (bounded d) ys rs f k (bounded d (filled s ys f))
      none_value = go H.answer
        where
          go : {p : Answer} → Answers (size d) p None → cell rs k ≡ answer_cell (bounded d) ys rs f k p
          go failed = sym (z_cell (bounded_decoder d) ys rs f k ly lr hk)

      pub none_reach : false ≡ reach (bounded d) ys rs f k s
      unfolding reach
      none_reach = go (bounded d (filled s ys f)) H.answer
        where
          go : (p : Answer) → Answers (size d) p None → false ≡ near p (filled s (replaced ys rs k) f)
          go _ failed = refl

  -- ---- the clause

  -- of different cells: too many erasures after the replacement are one less before it and one more
  few_after : few ys ≡ true → cell ys k ≢ cell rs k → few (replaced ys rs k) ≡ not (eqb (erasures ys + 1) designed_distance && eqb (cell rs k) 2)
  few_after e g = go (erased_or_known (cell rs k)) (erased_or_known (cell ys k))
    where
      c : erasures (replaced ys rs k) + bit (is_erased (cell ys k)) ≡ erasures ys + bit (is_erased (cell rs k))
      c = changed (bounded_decoder d) ys rs f k ly lr hk

      l : erasures ys < designed_distance
      l = ltb-true (erasures ys) designed_distance e

      more : erasures (replaced ys rs k) ≡ erasures ys + 1 → (t : Bool) → eqb (erasures ys + 1) designed_distance ≡ t → few (replaced ys rs k) ≡ not (t && true)
      more m true h = le-ltb (erasures (replaced ys rs k)) designed_distance (omega (arith, eqb-true (erasures ys + 1) designed_distance h))
      more m false h = lt-ltb (erasures (replaced ys rs k)) designed_distance (omega (arith, l, eqb-false (erasures ys + 1) designed_distance h))

      go : ((cell rs k ≡ 2) × (bit (is_erased (cell rs k)) ≡ 1)) ⊎ ((cell rs k ≢ 2) × (bit (is_erased (cell rs k)) ≡ 0))
          → ((cell ys k ≡ 2) × (bit (is_erased (cell ys k)) ≡ 1)) ⊎ ((cell ys k ≢ 2) × (bit (is_erased (cell ys k)) ≡ 0))
          → few (replaced ys rs k) ≡ not (eqb (erasures ys + 1) designed_distance && eqb (cell rs k) 2)
      go (inl q) (inl p) = absurd (g (p.0 ∙ sym q.0))
      go (inl q) (inr p) = rw (eq-eqb (cell rs k) 2 q.0) (more (omega (arith, c)) (eqb (erasures ys + 1) designed_distance) refl)
      go (inr q) p = rw (ne_eqb (cell rs k) 2 q.0, and-false (eqb (erasures ys + 1) designed_distance)) (lt-ltb (erasures (replaced ys rs k)) designed_distance (omega (arith, c, l)))

  pub equal_clause : few ys ≡ true → cell ys k ≡ cell rs k → Equal ≡ clause (bounded d) ys rs f k
  unfolding clause
  equal_clause e g = rw (e, eq-eqb (cell ys k) (cell rs k) g)

  module _ (e : few ys ≡ true) (g : cell ys k ≢ cell rs k) where
    pub crowded_clause : (eqb (erasures ys + 1) designed_distance && eqb (cell rs k) 2) ≡ true → Crowded ≡ clause (bounded d) ys rs f k
    unfolding clause
    crowded_clause h = rw (e, ne_eqb (cell ys k) (cell rs k) g, few_after e g, h)

    pub reach_clause : (eqb (erasures ys + 1) designed_distance && eqb (cell rs k) 2) ≡ false → by_reach (bounded d) ys rs f k ≡ clause (bounded d) ys rs f k
    unfolding clause
    reach_clause h = rw (e, ne_eqb (cell ys k) (cell rs k) g, few_after e g, h)

  pub many_clause : few ys ≡ false → (t : Bool) → (eqb (erasures ys) designed_distance && (eqb (cell ys k) 2 && not (eqb (cell rs k) 2))) ≡ t
      → cond t Afresh Channel ≡ clause (bounded d) ys rs f k
  unfolding clause
  many_clause e t h = rw (e, h)

  pub fit_clause : (a b : Seen) → Sees d ys rs f k One a → Sees d ys rs f k Two b
      → first_fit a.reach b.reach (eqb (cell rs k) 2) (eqb a.value b.bit) (eqb b.value a.bit) a.same b.same ≡ by_reach (bounded d) ys rs f k
  unfolding by_reach agrees
  fit_clause a b p q = rw (p.reach, q.reach, p.value, q.value, p.bit, q.bit, p.same, q.same)

pub same_at : (d : Degree) (ys rs : List ℕ) (f k : ℕ) (s : Side) {w b : ℕ} → w ≡ cell (filled s ys f) k → b ≡ cell (filled s (replaced ys rs k) f) k
    → eqb w b ≡ same (bounded d) ys rs f k s
unfolding same
same_at d ys rs f k s e g = ap₂ eqb e g
