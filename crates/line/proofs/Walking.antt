-- The walk over the cells of a mask, from the base line to all messages and the count.
-- Assumes nothing.
use mathlib.Core.Path.{◌≡◌, refl, sym, ◌∙◌, subst}
use mathlib.Core.Bool.{Bool, true, false, cond}
use mathlib.Core.Logic.{◌≢◌}
use mathlib.Core.List.{List}
use Prim.Native.Nat.{ℕ, ◌+◌, ◌-◌, ◌*◌, ◌^◌, ◌≤◌, ◌<◌}
use native.Mathlib.Nat.{lt_of_le_of_lt, zero-div}
use native.Mathlib.Omega.{arith}
use native.Mathlib.Decide.{ℕ_discrete}
use lib.Bits.{bit_and, and_le_l}
use lib.Count.{count_trailing_zeros}
use lib.Dec.{eqb}
use lib.ListN.{length, set}
use lib.Seq.{get_or-set_same, get_or-set_other}
use borrow.Author.Tests.{ne_eqb, eqb-true, eqb-false}
use Rattle.laws.specs.Working.Bits.{bit_at}
use Rattle.laws.specs.Sums.{sum_to}
use Rattle.laws.proofs.Masks.{lowest, lowest_below, sum_mask, mask_turn, mask_all, mask_none}
use Rattle.degree.specs.declared.Degree.{Degree}
use Rattle.degree.specs.Degree.{size}
use Rattle.line.specs.declared.packed.Line.{Line}
use Rattle.line.specs.Working.Packed.{IsLine, Packs}
use Rattle.line.specs.Cells.{cell, few}
use Rattle.line.specs.Bounded.{bounded}
use Rattle.line.specs.Decoding.{list_to, message, messages}
use Rattle.line.specs.Clauses.{cost, clause, count}
use Rattle.line.specs.Working.Fillings.{Masks, start}
use Rattle.words.specs.Working.Word.{width}
use Rattle.line.proofs.LineLaw.{list_to_is, list_to_cell, messages_line}

-- a message is a cell
module _ (d : Degree) where
  message_lt : {ys rs : List ℕ} (f k : ℕ) → k < size d → IsLine (size d) ys → IsLine (size d) rs → message (bounded d) ys rs f k < 3
  unfolding messages
  message_lt {ys} {rs} f k h ly lr =
      rw (← list_to_cell (message (bounded d) ys rs f) (size d) k h, ← ly.long) ((messages_line d f ly lr).small k)

-- ---- the walk

module _ (d : Degree) (ys rs : List ℕ) (f : ℕ) where
  abbrev costs : ℕ → ℕ
  costs k = cost (clause (bounded d) ys rs f k)

  -- the cells that are not in the mask hold their messages, and the count lacks the costs of those that are
  pub record Walk (l : Line) (c t : ℕ) : Type 0 where
    pub small : t < 2 ^ size d
    pub cells : List ℕ
    pub packs : Packs (size d) cells l
    pub done : (k : ℕ) → k < size d → bit_at t k ≡ 0 → cell cells k ≡ message (bounded d) ys rs f k
    pub sum : c + sum_mask t costs (size d) ≡ count (bounded d) ys rs f

  module _ {y r : Line} (p : Packs (size d) ys y) (q : Packs (size d) rs r) where
    pub walk_start : {l : Line} {c m : ℕ} → Packs (size d) (start d ys rs f) l → c ≡ cond (few ys) 2 0 → Masks d ys rs f m → Walk l c m
    unfolding count
    walk_start {m} own two M =
        record {
          small = M.small;
          cells = start d ys rs f;
          packs = own;
          done = λ k hk z. (M.rest k hk z).0;
          sum =
              let e : sum_mask m costs (size d) ≡ sum_to costs (size d) = mask_all m costs (size d) (λ k hk z. (M.rest k hk z).1) in
              rw (p.cells.long, two, e) refl;
        }

    turn : {l z : Line} {c t v e : ℕ} → t ≢ 0 → t < 2 ^ width → Walk l c t
        → (count_trailing_zeros width t < size d → (v ≡ message (bounded d) ys rs f (count_trailing_zeros width t)) × (e ≡ c + costs (count_trailing_zeros width t)))
        → ((cs : List ℕ) → Packs (size d) cs l → count_trailing_zeros width t < size d → v < 3 → Packs (size d) (set cs (count_trailing_zeros width t) v) z)
        → Walk z e (bit_and t (t - 1))
    turn {l} {z} {c} {t} {v} {e} g h W found put =
        let k = count_trailing_zeros width t in
        let hk : k < size d = lowest_below width (size d) t g h W.small in
        let s = found hk in
        let lt : v < 3 = rw s.0 (message_lt d f k hk p.cells q.cells) in
        record {
          small = lt_of_le_of_lt (and_le_l t (t - 1)) W.small;
          cells = set W.cells k v;
          packs = put W.cells W.packs hk lt;
          done = λ j hj e. at j hj e (ℕ_discrete j k) hk s.0;
          sum = (let e = mask_turn width t costs (size d) g h hk in omega (arith, W.sum));
        }
      where
        at : (j : ℕ) → j < size d → bit_at (bit_and t (t - 1)) j ≡ 0 → Dec (j ≡ count_trailing_zeros width t) → count_trailing_zeros width t < size d → v ≡ message (bounded d) ys rs f (count_trailing_zeros width t)
            → cell (set W.cells (count_trailing_zeros width t) v) j ≡ message (bounded d) ys rs f j
        at j hj e (yes i) hk s =
            rw i (get_or-set_same W.cells (count_trailing_zeros width t) v 0 (rw W.packs.cells.long hk) ∙ s)
        at j hj e (no i) hk s =
            get_or-set_other W.cells (count_trailing_zeros width t) j v 0 i
            ∙ W.done j hj ((lowest width t g h).1 j ∙ rw (e, ne_eqb j (count_trailing_zeros width t) i))

    -- the lowest cell k of the mask t settled, and u the rest of the mask
    pub walk_turn : {l z : Line} {c t u k v e : ℕ} → t ≢ 0 → t < 2 ^ width → k ≡ count_trailing_zeros width t → u ≡ bit_and t (t - 1) → Walk l c t
        → (k < size d → (v ≡ message (bounded d) ys rs f k) × (e ≡ c + costs k))
        → ((cs : List ℕ) → Packs (size d) cs l → k < size d → v < 3 → Packs (size d) (set cs k v) z)
        → Walk z e u
    walk_turn g h ek eu W found put = rw eu (turn g h W (rw ek at found) (rw ek at put))

    pub walk_end : {l : Line} {c : ℕ} → Walk l c 0 → Packs (size d) (messages (bounded d) ys rs f) l × (c ≡ count (bounded d) ys rs f)
    unfolding messages
    walk_end {l} {c} W =
        let g : ℕ → ℕ = message (bounded d) ys rs f in
        let e : W.cells ≡ list_to g (length ys) =
        rw p.cells.long (sym (list_to_is g (size d) W.cells W.packs.cells.long (λ k h. sym (W.done k h (rw zero-div))))) in
        (subst (λ (cs : List ℕ). Packs (size d) cs l) e W.packs, let z = mask_none costs (size d) in omega (arith, W.sum))

-- ---- the mask as a word

-- the test that some cell is left, and that none is
pub some_left : {v : ℕ} {t : Bool} → t ≡ eqb v 0 → t ≡ false → v ≢ 0
some_left {v} {t} e h = eqb-false v 0 (sym e ∙ h)

pub none_left : {v : ℕ} {t : Bool} → t ≡ eqb v 0 → t ≡ true → v ≡ 0
none_left {v} {t} e h = eqb-true v 0 (sym e ∙ h)

-- two decodings a cell at most, for the cell taken and those that are left
pub mask_next : (c e : ℕ) {t u k : ℕ} → t < 2 ^ width → t ≢ 0 → k < width → k ≡ count_trailing_zeros width t → u ≡ bit_and t (t - 1) → e ≤ c + 2
    → c + 2 * sum_mask t (λ i. 1) width ≤ 258 → e + 2 * sum_mask u (λ i. 1) width ≤ 258
mask_next c e {t} h z hk ek eu l b = rw eu (omega (arith, mask_turn width t (λ i. 1) width z h (rw (← ek) hk)))
