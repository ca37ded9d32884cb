-- A cell settled by its clause.
-- Assumes nothing.
use mathlib.Core.Path.{◌≡◌, refl, sym, ap, ◌∙◌, subst}
use mathlib.Core.Bool.{Bool, true, false, cond, ◌&&◌, not, true≢false, and-false}
use mathlib.Core.Logic.{◌≢◌, ◌⊎◌, inl, inr}
use mathlib.Core.List.{List}
use Prim.Native.Nat.{ℕ, ◌+◌, ◌*◌, ◌<◌}
use native.Mathlib.Omega.{arith}
use lib.Dec.{eqb}
use borrow.Author.Tests.{lt-ltb, eqb-true, eqb-false}
use Rattle.laws.specs.Bits.{bit}
use Rattle.degree.specs.declared.Degree.{Degree}
use Rattle.degree.specs.Degree.{size}
use Rattle.line.specs.declared.side.Side.{Side}
use Rattle.line.specs.declared.side.Side.TheVariants.{One, Two}
use Rattle.line.specs.declared.clause.Clause.{Clause}
use Rattle.line.specs.declared.clause.Clause.TheVariants.{Equal, Crowded, Both, Neither, Agreeing, Unchanged, Open, Afresh, Channel}
use Rattle.line.specs.declared.bounded.Correction.{Correction}
use Rattle.std.specs.Prelude.{Option, None}
use Rattle.line.specs.declared.clause.Base.{Base}
use Rattle.line.specs.Cells.{cell, is_erased, erasures, few, filled, designed_distance}
use Rattle.line.specs.Bounded.{Answer, bounded}
use Rattle.line.specs.Decoding.{replaced, message}
use Rattle.line.specs.Working.Settled.{if_near, settled}
use Rattle.line.specs.Clauses.{answer_cell, reach, same, agrees, first_fit, by_reach, cost, clause}
use Rattle.line.specs.Working.Packed.{Packs}
use Rattle.line.specs.Working.Tries.{Answers, failed}
use Rattle.line.specs.Working.Fillings.{Based, tried_of, start}
use Rattle.line.proofs.CellLaws.{erased_or_known}
use Rattle.line.proofs.Distances.{bounded_decoder}
use Rattle.line.proofs.ClauseLaws.{changed, clause_settles}
use Rattle.line.proofs.CountLaws.{few_cost}
use Rattle.line.proofs.Reaching.{many_clause}
use Rattle.line.proofs.Starting.{equal_start}

-- ---- an answer, where it is in reach

pub near_some : (d : Degree) (ys rs : List ℕ) (f k : ℕ) (s : Side) {t : Option Correction} → Answers (size d) (bounded d (filled s ys f)) t → true ≡ reach (bounded d) ys rs f k s
    → Answers (size d) (if_near (bounded d (filled s ys f)) (filled s (replaced ys rs k) f)) t
unfolding reach
near_some d ys rs f k s a e = rw (← e) a

pub near_none : (d : Degree) (ys rs : List ℕ) (f k : ℕ) (s : Side) → false ≡ reach (bounded d) ys rs f k s
    → Answers (size d) (if_near (bounded d (filled s ys f)) (filled s (replaced ys rs k) f)) None
unfolding reach
near_none d ys rs f k s e = rw (← e) failed

-- ---- the clauses

-- the first clause, the others for fewer than 6 erasures coming in, and those for 6 or more
abbrev rank : Clause → ℕ
rank Equal = 0
rank Crowded = 1
rank Both = 1
rank Neither = 1
rank (Agreeing s) = 1
rank (Unchanged s) = 1
rank (Open s) = 1
rank Afresh = 2
rank Channel = 2

fit_rank : (r1 r2 u a1 a2 s1 s2 : Bool) → rank (first_fit r1 r2 u a1 a2 s1 s2) ≡ 1
fit_rank true true u a1 a2 s1 s2 = refl
fit_rank true false u true a2 s1 s2 = refl
fit_rank true false u false a2 s1 true = refl
fit_rank true false u false a2 s1 false = refl
fit_rank false true u a1 true s1 s2 = refl
fit_rank false true u a1 false true s2 = refl
fit_rank false true u a1 false false s2 = refl
fit_rank false false true a1 a2 s1 s2 = refl
fit_rank false false false a1 a2 s1 s2 = refl

reach_rank : (dec : List ℕ → Answer) (y r : List ℕ) (f k : ℕ) → rank (by_reach dec y r f k) ≡ 1
unfolding by_reach
reach_rank dec y r f k =
    fit_rank (reach dec y r f k One) (reach dec y r f k Two) (is_erased (cell r k)) (agrees dec y r f k One) (agrees dec y r f k Two) (same dec y r f k One) (same dec y r f k Two)

-- where the first clause is the one that fits, its test holds
only_equal : (t u v w : Bool) (x : Clause) → rank x ≡ 1 → Equal ≡ cond t (cond u Equal (cond v x Crowded)) (cond w Afresh Channel) → u ≡ true
only_equal true true v w x h e = refl
only_equal true false true w x h e = let z : 0 ≡ rank x = ap rank e in absurd (omega arith)
only_equal true false false w x h e = let z : ◌≡◌ {A = ℕ} 0 1 = ap rank e in absurd (omega arith)
only_equal false u v true x h e = let z : ◌≡◌ {A = ℕ} 0 2 = ap rank e in absurd (omega arith)
only_equal false u v false x h e = let z : ◌≡◌ {A = ℕ} 0 2 = ap rank e in absurd (omega arith)

module _ {d : Degree} {ys rs : List ℕ} {f k : ℕ} {b : Base} (hk : k < size d) (B : Based d ys rs f b) where
  -- the incoming line and the channel line, packed
  p : Packs (size d) ys b.incoming
  p = B.incoming

  q : Packs (size d) rs b.channel
  q = B.channel

  pub few_of : {c : Clause} → c ≡ clause (bounded d) ys rs f k → eqb (rank c) 2 ≡ false → few ys ≡ true
  few_of {c} e h = go (few ys) refl
    where
      many : (t : Bool) → eqb (rank (cond t Afresh Channel)) 2 ≡ true
      many true = refl
      many false = refl

      go : (t : Bool) → few ys ≡ t → t ≡ true
      go true g = refl
      go false g =
          let t = eqb (erasures ys) designed_distance && (eqb (cell ys k) 2 && not (eqb (cell rs k) 2)) in
          absurd (true≢false (sym (many t) ∙ ap (λ (x : Clause). eqb (rank x) 2) (many_clause d ys rs f k p.cells q.cells hk g t refl ∙ sym e) ∙ h))

  -- the clause equal names equal cells
  equal_cells : Equal ≡ clause (bounded d) ys rs f k → cell ys k ≡ cell rs k
  unfolding clause
  equal_cells e =
      let fresh = eqb (erasures ys) designed_distance && (is_erased (cell ys k) && not (is_erased (cell rs k))) in
      eqb-true (cell ys k) (cell rs k)
      (only_equal (few ys) (eqb (cell ys k) (cell rs k)) (few (replaced ys rs k)) fresh (by_reach (bounded d) ys rs f k) (reach_rank (bounded d) ys rs f k) e)

  pub equal_cell : {v : ℕ} → Equal ≡ clause (bounded d) ys rs f k → v ≡ cell (start d ys rs f) k → v ≡ settled (bounded d) ys rs f k Equal
  unfolding settled
  equal_cell e g = g ∙ equal_start d ys rs f (few_of e refl) k (rw q.cells.long hk) (equal_cells e)

  -- what filling s gave, where the erasures are few
  pub tried_few : few ys ≡ true → (s : Side) {t : Option Correction} → t ≡ tried_of b s → Answers (size d) (bounded d (filled s ys f)) t
  tried_few e s g = subst (Answers (size d) (bounded d (filled s ys f))) (sym g) (go s)
    where
      go : (s : Side) → Answers (size d) (bounded d (filled s ys f)) (tried_of b s)
      go One = (B.one e).tried.answer
      go Two = (B.two e).tried.answer

  -- a cell that is decoded afresh has 5 erasures in its line
  pub fresh_few : Afresh ≡ clause (bounded d) ys rs f k → few (replaced ys rs k) ≡ true
  fresh_few e = go (few ys) refl
    where
      two : cost (clause (bounded d) ys rs f k) ≡ 2
      two = sym (ap cost e)

      five : erasures ys ≡ designed_distance → ((cell ys k ≡ 2) × (bit (is_erased (cell ys k)) ≡ 1)) ⊎ ((cell ys k ≢ 2) × (bit (is_erased (cell ys k)) ≡ 0))
          → ((cell rs k ≡ 2) × (bit (is_erased (cell rs k)) ≡ 1)) ⊎ ((cell rs k ≢ 2) × (bit (is_erased (cell rs k)) ≡ 0))
          → (x : Bool) → eqb (cell ys k) 2 ≡ x → (z : Bool) → eqb (cell rs k) 2 ≡ z → (x && not z) ≡ true → few (replaced ys rs k) ≡ true
      five u (inl a) (inr c) x ex z ez h = lt-ltb (erasures (replaced ys rs k)) designed_distance (omega (arith, changed (bounded_decoder d) ys rs f k p.cells q.cells hk))
      five u (inl a) (inl c) x ex true ez h = absurd (true≢false (sym h ∙ and-false x))
      five u (inl a) (inl c) x ex false ez h = absurd (eqb-false (cell rs k) 2 ez c.0)
      five u (inr a) c true ex z ez h = absurd (a.0 (eqb-true (cell ys k) 2 ex))
      five u (inr a) c false ex z ez h = absurd (true≢false (sym h))

      test : (x : Bool) → eqb (erasures ys) designed_distance ≡ x → (z : Bool) → (eqb (cell ys k) 2 && not (eqb (cell rs k) 2)) ≡ z → cost (cond (x && z) Afresh Channel) ≡ 2 → few (replaced ys rs k) ≡ true
      test true ex true ez h = five (eqb-true (erasures ys) designed_distance ex) (erased_or_known (cell ys k)) (erased_or_known (cell rs k)) _ refl _ refl ez
      test true ex false ez h = absurd (omega arith)
      test false ex z ez h = absurd (omega arith)

      go : (t : Bool) → few ys ≡ t → few (replaced ys rs k) ≡ true
      go true g = absurd (omega (arith, few_cost (bounded d) ys rs f g k, two))
      go false g = test _ refl _ refl (ap cost (many_clause d ys rs f k p.cells q.cells hk g _ refl) ∙ two)

  pub fresh_count : (m c : ℕ) → Afresh ≡ clause (bounded d) ys rs f k → m ≡ c + 2 * bit (few (replaced ys rs k)) → m ≡ c + 2
  fresh_count m c e h = rw (fresh_few e) at h

  pub settled_message : {c : Clause} {v m : ℕ} (i : ℕ) → c ≡ clause (bounded d) ys rs f k → (v ≡ settled (bounded d) ys rs f k c) × (m ≡ i + cost c)
      → (v ≡ message (bounded d) ys rs f k) × (m ≡ i + cost (clause (bounded d) ys rs f k))
  settled_message i e h = rw (clause_settles d ys rs f k p.cells q.cells hk, ← e) h

module _ {d : Degree} {ys rs : List ℕ} {f k : ℕ} {b : Base} (hk : k < size d) (B : Based d ys rs f b) {v : Clause} {x : ℕ} (i : ℕ) where
  -- the cell of a codeword in reach
  pub reached_settled : {s : Side} → (v ≡ Agreeing s) ⊎ (v ≡ Unchanged s) → v ≡ clause (bounded d) ys rs f k
      → (few ys ≡ true → x ≡ answer_cell (bounded d) ys rs f k (bounded d (filled s ys f))) → (x ≡ settled (bounded d) ys rs f k v) × (i ≡ i + cost v)
  unfolding settled
  reached_settled (inl t) g h = rw t (h (few_of hk B (sym t ∙ g) refl), omega arith)
  reached_settled (inr t) g h = rw t (h (few_of hk B (sym t ∙ g) refl), omega arith)

  -- the channel's cell
  pub channel_settled : (v ≡ Neither) ⊎ (v ≡ Channel) → x ≡ cell rs k → (x ≡ settled (bounded d) ys rs f k v) × (i ≡ i + cost v)
  unfolding settled
  channel_settled (inl t) h = rw t (h, omega arith)
  channel_settled (inr t) h = rw t (h, omega arith)
