-- Where both fillings decode to one codeword, it is the message of each cell at which it stays in reach of both.
-- Assumes nothing.
use mathlib.Core.Path.{◌≡◌, refl, sym, ap, ap₂, ◌∙◌}
use mathlib.Core.Bool.{Bool, true, false, cond, ◌&&◌, ◌||◌, not, or-true}
use mathlib.Core.Logic.{◌⊎◌, inl, inr}
use mathlib.Core.List.{List}
use Prim.Native.Nat.{ℕ, ◌+◌, ◌-◌, ◌<◌}
use native.Mathlib.Omega.{arith}
use native.Mathlib.Decide.{ℕ_discrete}
use native.Mathlib.Nat.{lt_of_le_of_lt}
use lib.Bits.{bit_and, bit_or, bit_xor, and_le_l}
use lib.Dec.{eqb, ltb}
use borrow.Author.Tests.{ne_eqb, lt-ltb}
use lib.Pow.{pow_pos}
use Rattle.laws.specs.Working.Bits.{bit_at}
use Rattle.laws.proofs.Xor.{bit_ind}
use Rattle.laws.proofs.Bits.{bit_at_lt, or_at, xor_at, and_at, or_first, or_second, and_none}
use Rattle.degree.specs.declared.Degree.{Degree}
use Rattle.degree.specs.Degree.{size}
use Rattle.line.specs.declared.side.Side.{Side}
use Rattle.line.specs.declared.side.Side.TheVariants.{One, Two}
use Rattle.line.specs.declared.packed.Line.{Line}
use Rattle.line.specs.Cells.{cell, erasures, few, distance, filled, designed_distance, radius}
use Rattle.line.specs.Working.Packed.{Packs, PacksWord}
use Rattle.words.specs.Working.Word.{value}
use Rattle.line.proofs.Packing.{bit_of_word}
use Rattle.line.proofs.RowLaws.{word_packs_one}
use Rattle.line.specs.declared.bounded.Correction.{Correction}
use Rattle.std.specs.Prelude.{Some}
use Rattle.line.specs.Bounded.{Answer, Found, bounded}
use Rattle.line.specs.Decoding.{choice, replaced, decode, message}
use Rattle.line.specs.Working.Tries.{Answers, found, Decodes}
use Rattle.line.specs.declared.clause.Clause.TheVariants.{Both}
use Rattle.line.specs.declared.clause.Trial.{Trial}
use Rattle.line.specs.declared.clause.Base.{Base}
use Rattle.line.specs.Clauses.{reach, by_reach, cost, clause}
use Rattle.line.specs.Working.Settled.{settled}
use Rattle.line.specs.Working.Fillings.{TrialOf, Based, Masks, start, stays}
use Rattle.line.proofs.ClauseLaws.{clause_settles}
use Rattle.line.proofs.Reaching.{channel_bit, reach_at, reach_clause}
use Rattle.line.proofs.Masking.{equal_outside}

-- ---- the masks, bit by bit

-- the filled bit a, the channel's c and the codeword's o
stays_bit : {a c o : ℕ} → a < 2 → c < 2 → o < 2 → bit_xor (bit_xor a c) (bit_and (bit_xor a c) (bit_xor o a)) ≡ 0 → (eqb a c || not (eqb o a)) ≡ true
stays_bit {a} {c} {o} ha hc ho =
    bit_ind (λ (a : ℕ). bit_xor (bit_xor a c) (bit_and (bit_xor a c) (bit_xor o a)) ≡ 0 → (eqb a c || not (eqb o a)) ≡ true)
    (bit_ind (λ (c : ℕ). bit_xor (bit_xor 0 c) (bit_and (bit_xor 0 c) (bit_xor o 0)) ≡ 0 → (eqb 0 c || not (eqb o 0)) ≡ true)
    (λ z. refl)
    (bit_ind (λ (o : ℕ). bit_xor (bit_xor 0 1) (bit_and (bit_xor 0 1) (bit_xor o 0)) ≡ 0 → (eqb 0 1 || not (eqb o 0)) ≡ true) (λ z. absurd (omega arith)) (λ z. refl) ho) hc)
    (bit_ind (λ (c : ℕ). bit_xor (bit_xor 1 c) (bit_and (bit_xor 1 c) (bit_xor o 1)) ≡ 0 → (eqb 1 c || not (eqb o 1)) ≡ true)
    (bit_ind (λ (o : ℕ). bit_xor (bit_xor 1 0) (bit_and (bit_xor 1 0) (bit_xor o 1)) ≡ 0 → (eqb 1 0 || not (eqb o 1)) ≡ true) (λ z. refl) (λ z. absurd (omega arith)) ho)
    (λ z. refl) hc) ha

pub stays_at : (h : Trial) (t : Correction) (k : ℕ) → {m w v : ℕ}
    → m ≡ bit_xor (value h.before) (value h.channel) → v ≡ bit_xor (value t.word) (value h.before) → w ≡ bit_xor m (bit_and m v) → bit_at w k ≡ 0
    → stays h t k ≡ true
stays_at h t k em ev ew z =
    let a = value h.before in
    let c = value h.channel in
    let o = value t.word in
    let whole = ew ∙ ap₂ (λ (m v : ℕ). bit_xor m (bit_and m v)) em ev in
    let e = xor_at (bit_xor a c) (bit_and (bit_xor a c) (bit_xor o a)) k
    ∙ ap₂ bit_xor (xor_at a c k) (and_at (bit_xor a c) (bit_xor o a) k ∙ ap₂ bit_and (xor_at a c k) (xor_at o a k)) in
    ap (λ (x : Bool). ltb t.changed radius || x) (stays_bit (bit_at_lt a k) (bit_at_lt c k) (bit_at_lt o k) (sym e ∙ sym (ap (λ (x : ℕ). bit_at x k) whole) ∙ z)) ∙ or-true (ltb t.changed radius)

-- ---- one codeword

-- two answers that are one
pub record Agree (p q : Answer) : Type 0 where
  pub codeword : List ℕ
  pub first : p ≡ Found codeword
  pub second : q ≡ Found codeword

agree : {n : ℕ} {p q : Answer} {t u : Correction} → Answers n p (Some t) → Answers n q (Some u) → value t.word ≡ value u.word → Agree p q
agree {n} (found {c} x) (found {c = c'} z) w = record { codeword = c; first = refl; second = ap Found (word_packs_one (sym w) z x) }

choice_one : (y c : List ℕ) → choice y (Found c) (Found c) ≡ Found c
choice_one y c = go (ltb (distance y c) (distance y c))
  where
    go : (t : Bool) → cond t (Found c) (Found c) ≡ Found c
    go true = refl
    go false = refl

module _ (d : Degree) (ys rs : List ℕ) (f : ℕ) {y r : Line} (p : Packs (size d) ys y) (q : Packs (size d) rs r)
    {one two : Correction} (D₁ : Decodes d (filled One ys f) (Some one)) (D₂ : Decodes d (filled Two ys f) (Some two)) (e : few ys ≡ true) (o : value one.word ≡ value two.word) where
  agreed : Agree (bounded d (filled One ys f)) (bounded d (filled Two ys f))
  agreed = agree D₁.answer D₂.answer o

  both_clause : (k : ℕ) → reach (bounded d) ys rs f k One ≡ true → reach (bounded d) ys rs f k Two ≡ true → Both ≡ by_reach (bounded d) ys rs f k
  unfolding by_reach
  both_clause k g h = rw (g, h)

  own_cell : (k : ℕ) → (A : Agree (bounded d (filled One ys f)) (bounded d (filled Two ys f))) → cell (start d ys rs f) k ≡ settled (bounded d) ys rs f k Both
  unfolding start decode settled
  own_cell k A = rw (e, A.first, A.second, choice_one ys A.codeword, choice_one (replaced ys rs k) A.codeword) refl

  -- a cell at which it stays in reach of both
  own_message : (k : ℕ) → k < size d → reach (bounded d) ys rs f k One ≡ true → reach (bounded d) ys rs f k Two ≡ true → (eqb (erasures ys + 1) designed_distance && eqb (cell rs k) 2) ≡ false
      → (cell (start d ys rs f) k ≡ message (bounded d) ys rs f k) × (cost (clause (bounded d) ys rs f k) ≡ 0)
  own_message k hk g h l = go (ℕ_discrete (cell ys k) (cell rs k))
    where
      go : Dec (cell ys k ≡ cell rs k) → (cell (start d ys rs f) k ≡ message (bounded d) ys rs f k) × (cost (clause (bounded d) ys rs f k) ≡ 0)
      go (yes z) = equal_outside d ys rs f p q refl k hk e z
      go (no z) =
          let c : Both ≡ clause (bounded d) ys rs f k = both_clause k g h ∙ reach_clause d ys rs f k p.cells q.cells hk e z l in
          rw (clause_settles d ys rs f k p.cells q.cells hk, ← c) (own_cell k agreed, refl)

  -- a codeword nearer than the radius stays in reach at every cell
  near_reach : (k : ℕ) → k < size d → (s : Side) (m : Correction) → Decodes d (filled s ys f) (Some m) → m.changed < radius → reach (bounded d) ys rs f k s ≡ true
  near_reach k hk s m D h =
      sym (reach_at d ys rs f k p.cells q.cells hk s m D (bit_at (value m.word) k) (λ c w. bit_of_word k w)) ∙ rw (lt-ltb m.changed radius h)

  -- where nothing takes it out of reach of either, and no cell is crowded, it is the message of every cell
  pub quiet_mask : erasures ys < designed_distance - 1 → one.changed < radius → two.changed < radius → Masks d ys rs f 0
  quiet_mask l g h = record {
    small = pow_pos (size d);
    rest = λ k hk z. own_message k hk (near_reach k hk One one D₁ g) (near_reach k hk Two two D₂ h) (ap (λ (x : Bool). x && eqb (cell rs k) 2) (ne_eqb (erasures ys + 1) designed_distance (λ z. omega arith)));
  }

  -- and the line that the messages start from
  pub quiet_start : {l : Line} → ((n : ℕ) (ws : List ℕ) → PacksWord n ws (value one.word) → Packs n ws l) → Packs (size d) (start d ys rs f) l
  unfolding start decode
  quiet_start {l} whole = rw (e, agreed.first, agreed.second, choice_one ys agreed.codeword) (whole (size d) agreed.codeword (word_of (bounded d (filled One ys f)) D₁.answer agreed.first))
    where
      word_of : (a : Answer) → Answers (size d) a (Some one) → a ≡ Found agreed.codeword → PacksWord (size d) agreed.codeword (value one.word)
      word_of _ (found {c} w) h = let same : c ≡ agreed.codeword = cc in rw (← same) w

-- the mask of the cells at which it does not stay in reach of both
module _ (d : Degree) (ys rs : List ℕ) (f : ℕ) {b : Base} (B : Based d ys rs f b) (e : few ys ≡ true)
    {one two : Correction} (h₁ : b.one.tried ≡ Some one) (h₂ : b.two.tried ≡ Some two) (o : value one.word ≡ value two.word) where
  in_reach : (k : ℕ) → k < size d → (s : Side) (h : Trial) (m : Correction) → TrialOf d ys rs f s h → h.tried ≡ Some m → stays h m k ≡ true → reach (bounded d) ys rs f k s ≡ true
  in_reach k hk s h m H g t =
      let p = B.incoming in
      let q = B.channel in
      sym (reach_at d ys rs f k p.cells q.cells hk s m (rw g at H.tried) (bit_at (value m.word) k) (λ c w. bit_of_word k w))
      ∙ rw (← bit_of_word k H.before, ← (bit_of_word k H.channel ∙ channel_bit d ys rs f k p.cells q.cells hk s)) t

  stays_message : (k : ℕ) → k < size d → stays b.one one k ≡ true → stays b.two two k ≡ true → (eqb (b.erased + 1) designed_distance && eqb (cell rs k) 2) ≡ false
      → (cell (start d ys rs f) k ≡ message (bounded d) ys rs f k) × (cost (clause (bounded d) ys rs f k) ≡ 0)
  stays_message k hk g h l =
      let D₁ = rw h₁ at (B.one e).tried in
      let D₂ = rw h₂ at (B.two e).tried in
      own_message d ys rs f B.incoming B.channel D₁ D₂ e o k hk (in_reach k hk One b.one one (B.one e) h₁ g) (in_reach k hk Two b.two two (B.two e) h₂ h) (rw (← B.erased) l)

  pub own_mask : (a l m c : ℕ) → Masks d ys rs f a → ((k : ℕ) → bit_at l k ≡ 0 → stays b.one one k ≡ true) → ((k : ℕ) → bit_at m k ≡ 0 → stays b.two two k ≡ true)
      → ((k : ℕ) → bit_at c k ≡ 0 → (eqb (b.erased + 1) designed_distance && eqb (cell rs k) 2) ≡ false) → Masks d ys rs f (bit_and a (bit_or (bit_or l m) c))
  own_mask a l m c A L M C = record { small = lt_of_le_of_lt (and_le_l a (bit_or (bit_or l m) c)) A.small; rest = rest }
    where
      rest : (k : ℕ) → k < size d → bit_at (bit_and a (bit_or (bit_or l m) c)) k ≡ 0 → (cell (start d ys rs f) k ≡ message (bounded d) ys rs f k) × (cost (clause (bounded d) ys rs f k) ≡ 0)
      rest k hk z = go (and_none (bit_at_lt a k) (bit_at_lt (bit_or (bit_or l m) c) k) (sym (and_at a (bit_or (bit_or l m) c) k) ∙ z))
        where
          go : (bit_at a k ≡ 0) ⊎ (bit_at (bit_or (bit_or l m) c) k ≡ 0) → (cell (start d ys rs f) k ≡ message (bounded d) ys rs f k) × (cost (clause (bounded d) ys rs f k) ≡ 0)
          go (inl e) = A.rest k hk e
          go (inr e) =
              let x = sym (or_at (bit_or l m) c k) ∙ e in
              let y = sym (or_at l m k) ∙ or_first (bit_at (bit_or l m) k) (bit_at c k) x in
              stays_message k hk (L k (or_first (bit_at l k) (bit_at m k) y)) (M k (or_second (bit_at l k) (bit_at m k) y)) (C k (or_second (bit_at (bit_or l m) k) (bit_at c k) x))
