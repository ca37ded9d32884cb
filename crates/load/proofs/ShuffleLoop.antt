-- The loop of the shuffle, from the last place down to place 1.
-- Assumes nothing.
use Rattle.std.proofs.Common.{◌≡◌, ℕ, suc, ◌+◌, ◌-◌, ◌%◌, ◌<◌, ◌≤◌, List, length, sym, refl, ap, ◌∙◌, mod-lt, arith}
use Rattle.load.specs.Load.{start, stirred, grown, drawn, exchanged, shuffled}
use Rattle.load.proofs.Shuffles.{length_exchanged}

-- so many places are left, of which all but place 0 are to be exchanged yet
pub record Shuffling (seed : ℕ) (l places : List ℕ) (s w left : ℕ) : Type 0 where
  pub long : length places ≡ length l
  pub some : 0 < left
  pub most : left ≤ length l
  pub rest : shuffled (left - 1) (s, w) places ≡ shuffled (length l - 1) (start seed) l

pub shuffling_start : (seed : ℕ) (l : List ℕ) {s w left : ℕ} → s ≡ seed → w ≡ 0 → left ≡ length l → 0 < length l → Shuffling seed l l s w left
shuffling_start seed l a b c h = record { long = refl; some = omega arith; most = omega arith; rest = rw (a, b, c) }

-- one place
step : (s w k : ℕ) (places : List ℕ) {s' w' i j draw : ℕ} → i ≡ suc k → s' ≡ stirred s → w' ≡ grown w → draw ≡ drawn (s', w') → j ≡ draw % (i + 1)
    → shuffled (suc k) (s, w) places ≡ shuffled k (s', w') (exchanged i j places)
unfolding shuffled
step s w k places ei es ew ed ej = rw (ej, ed, ei, es, ew)

module _ {seed : ℕ} {l places : List ℕ} {s w left : ℕ} (c : Shuffling seed l places s w left) where
  -- place i, and the place that it changes with, are places
  pub shuffling_room : (i j draw : ℕ) → i < left → j ≡ draw % (i + 1) → (i < length places) × (j < length places)
  shuffling_room i j draw h e = (omega (arith, c.long, c.most), omega (arith, c.long, c.most, mod-lt draw {m = i + 1} (omega arith)))

  pub shuffling_next : {s' w' i j draw : ℕ} → 1 < left → i ≡ left - 1 → s' ≡ stirred s → w' ≡ grown w → draw ≡ drawn (s', w') → j ≡ draw % (i + 1)
      → Shuffling seed l (exchanged i j places) s' w' (left - 1)
  shuffling_next {s'} {w'} {i} {j} {draw} h ei es ew ed ej =
      let k : ℕ = left - 1 - 1 in
      let e : left - 1 ≡ suc k = omega arith in
      record {
        long = length_exchanged i j places ∙ c.long;
        some = omega arith;
        most = omega (arith, c.most);
        rest = sym (step s w k places (ei ∙ e) es ew ed ej) ∙ sym (ap (λ (x : ℕ). shuffled x (s, w) places) e) ∙ c.rest;
      }

  pub shuffling_end : left ≤ 1 → places ≡ shuffled (length l - 1) (start seed) l
  unfolding shuffled
  shuffling_end h = let e : left - 1 ≡ 0 = omega arith in rw e at c.rest
