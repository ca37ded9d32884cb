-- A loop that changes the cells at places, one after the other.
-- Assumes nothing.
use Rattle.std.proofs.Common.{◌≡◌, ℕ, suc, ◌+◌, ◌-◌, ◌<◌, ◌≤◌, min, List, length, take, drop, set, sym, refl, ◌∙◌, add-one, arith, length-drop, length-set, drop_of_length-le, length-take, get_or-drop, drop-cons, get_or-take}
use Rattle.line.specs.Cells.{cell}
use Rattle.load.specs.Load.{changed}
use Rattle.load.specs.Working.Within.{Within}

-- the places from i on are left: changing the cells there gives what changing all gives
pub record Changing (f : ℕ → ℕ) (places m cells : List ℕ) (i : ℕ) : Type 0 where
  pub long : length cells ≡ length m
  pub left : changed f (drop i places) cells ≡ changed f places m

pub changing_start : (f : ℕ → ℕ) (places m : List ℕ) → Changing f places m m 0
changing_start f places m = record { long = refl; left = refl }

module _ {f : ℕ → ℕ} {places m cells : List ℕ} {i : ℕ} (c : Changing f places m cells i) where
  -- the next place lies in the sheet
  pub changing_room : Within (length m) places → i < length places → cell places i < length cells
  changing_room w h = omega (arith, w i h, c.long)

  pub changing_next : i < length places → Changing f places m (set cells (cell places i) (f (cell cells (cell places i)))) (i + 1)
  unfolding changed
  changing_next h =
      let step : changed f (drop i places) cells ≡ changed f (drop (suc i) places) (set cells (cell places i) (f (cell cells (cell places i)))) =
      rw (drop-cons places i 0 h) in
      record { long = length-set cells (cell places i) (f (cell cells (cell places i))) ∙ c.long; left = rw (add-one i) (sym step ∙ c.left) }

  pub changing_end : length places ≤ i → cells ≡ changed f places m
  unfolding changed
  changing_end h =
      let none : changed f (drop i places) cells ≡ cells = rw (drop_of_length-le places h) in
      sym none ∙ c.left

-- ---- parts of places that lie in a sheet

pub first_within : {m : ℕ} (k : ℕ) (places : List ℕ) → Within m places → Within m (take k places)
first_within k places w i h =
    let l : i < min k (length places) = rw (length-take k places) at h in
    rw (get_or-take k places i 0 (omega arith)) (w i (omega arith))

-- as the code has the end of the next ones
pub sub_first : (k c : ℕ) → k + c - k ≡ c
sub_first k c = omega arith

pub next_within : {m : ℕ} (k c : ℕ) (places : List ℕ) → Within m places → Within m (take (k + c - k) (drop k places))
next_within k c places w = first_within (k + c - k) (drop k places) (λ i h. rw (get_or-drop k places i 0) (w (k + i) (omega (arith, length-drop k places))))
