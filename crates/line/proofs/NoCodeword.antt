-- Where both fillings fail, the message of a cell that the channel knows is the channel's.
-- Assumes nothing.
use mathlib.Core.Path.{◌≡◌, refl, sym, ◌∙◌}
use mathlib.Core.Bool.{true, false, ◌&&◌, and-false}
use mathlib.Core.Logic.{◌⊎◌, inl, inr}
use mathlib.Core.List.{List}
use Prim.Native.Nat.{ℕ, ◌+◌, ◌<◌}
use native.Mathlib.Decide.{ℕ_discrete}
use native.Mathlib.Nat.{lt_of_le_of_lt}
use lib.Bits.{bit_and, and_le_l}
use lib.Dec.{eqb}
use Rattle.laws.specs.Working.Bits.{bit_at}
use Rattle.laws.proofs.Bits.{bit_at_lt, and_at, and_none}
use Rattle.degree.specs.declared.Degree.{Degree}
use Rattle.degree.specs.Degree.{size}
use Rattle.words.specs.Working.Word.{value}
use Rattle.line.specs.declared.side.Side.TheVariants.{One, Two}
use Rattle.std.specs.Prelude.{None}
use Rattle.line.specs.declared.clause.Clause.TheVariants.{Neither}
use Rattle.line.specs.declared.clause.Base.{Base}
use Rattle.line.specs.Cells.{cell, is_erased, erasures, few, filled, designed_distance}
use Rattle.line.specs.Bounded.{Answer, Failed, bounded}
use Rattle.line.specs.Decoding.{decode, message}
use Rattle.line.specs.Clauses.{reach, by_reach, cost, clause}
use Rattle.line.specs.Working.Settled.{settled}
use Rattle.line.specs.Working.Tries.{Answers, failed}
use Rattle.line.specs.Working.Fillings.{Based, Masks, start}
use Rattle.line.proofs.ClauseLaws.{clause_settles}
use Rattle.line.proofs.Reaching.{reach_clause}
use Rattle.line.proofs.KnownCells.{known_first}
use Rattle.line.proofs.Masking.{equal_outside}
use Rattle.line.proofs.Packing.{known_at}

not_found : {n : ℕ} {p : Answer} → Answers n p None → p ≡ Failed
not_found failed = refl

module _ (d : Degree) (ys rs : List ℕ) (f : ℕ) {b : Base} (B : Based d ys rs f b) (e : few ys ≡ true) (h₁ : b.one.tried ≡ None) (h₂ : b.two.tried ≡ None) where
  none_found : (bounded d (filled One ys f) ≡ Failed) × (bounded d (filled Two ys f) ≡ Failed)
  none_found = (not_found (rw h₁ at (B.one e).tried.answer), not_found (rw h₂ at (B.two e).tried.answer))

  neither : (k : ℕ) → is_erased (cell rs k) ≡ false → Neither ≡ by_reach (bounded d) ys rs f k
  unfolding by_reach reach
  neither k h = rw (none_found.0, none_found.1, h)

  channel_start : (k : ℕ) → k < size d → is_erased (cell rs k) ≡ false → cell (start d ys rs f) k ≡ cell rs k
  unfolding start decode
  channel_start k hk h = rw (e, none_found.0, none_found.1) (known_first rs ys k (rw B.channel.cells.long hk) h)

  channel_message : (k : ℕ) → k < size d → is_erased (cell rs k) ≡ false → (cell (start d ys rs f) k ≡ message (bounded d) ys rs f k) × (cost (clause (bounded d) ys rs f k) ≡ 0)
  unfolding settled
  channel_message k hk h = go (ℕ_discrete (cell ys k) (cell rs k))
    where
      go : Dec (cell ys k ≡ cell rs k) → (cell (start d ys rs f) k ≡ message (bounded d) ys rs f k) × (cost (clause (bounded d) ys rs f k) ≡ 0)
      go (yes z) = equal_outside d ys rs f B.incoming B.channel refl k hk e z
      go (no z) =
          let p = B.incoming.cells in
          let q = B.channel.cells in
          let known : (eqb (erasures ys + 1) designed_distance && eqb (cell rs k) 2) ≡ false = rw h (and-false (eqb (erasures ys + 1) designed_distance)) in
          let c : Neither ≡ clause (bounded d) ys rs f k = neither k h ∙ reach_clause d ys rs f k p q hk e z known in
          rw (clause_settles d ys rs f k p q hk, ← c) (channel_start k hk h, refl)

  pub failed_mask : (a : ℕ) → Masks d ys rs f a → Masks d ys rs f (bit_and a (value b.channel.erased))
  failed_mask a A = record { small = lt_of_le_of_lt (and_le_l a u) A.small; rest = rest }
    where
      u : ℕ
      u = value b.channel.erased

      rest : (k : ℕ) → k < size d → bit_at (bit_and a u) k ≡ 0 → (cell (start d ys rs f) k ≡ message (bounded d) ys rs f k) × (cost (clause (bounded d) ys rs f k) ≡ 0)
      rest k hk z = go (and_none (bit_at_lt a k) (bit_at_lt u k) (sym (and_at a u k) ∙ z))
        where
          go : (bit_at a k ≡ 0) ⊎ (bit_at u k ≡ 0) → (cell (start d ys rs f) k ≡ message (bounded d) ys rs f k) × (cost (clause (bounded d) ys rs f k) ≡ 0)
          go (inl s) = A.rest k hk s
          go (inr s) = channel_message k hk (known_at k B.channel s)
