-- What damage leaves: each cell by how often its place was hit, and the wrong and unsure cells of the sheet and of its rows.
-- Assumes nothing.
use Rattle.std.proofs.Common.{◌≡◌, ℕ, zero, suc, ◌+◌, ◌-◌, ◌<◌, ◌≤◌, List, [], ◌∷◌, length, take, drop, set, sym, refl, ap, ◌∙◌, ap₂, zero-add, one-add, arith, length-drop, length-set, length-take-le, get_or-drop, take_all, get_or-set_other, get_or-take, get_or-set_same, drop-drop, eq-eqb, ne_eqb}
use mathlib.Core.Logic.{dite}
use native.Mathlib.Decide.{dec_lt}
use Rattle.laws.specs.Bits.{bit}
use Rattle.laws.specs.Sums.{sum_to}
use Rattle.laws.proofs.Sums.{sum_ext}
use Rattle.line.specs.Cells.{cell, IsWord, is_erased, distance, erasures}
use Rattle.line.specs.Working.OneCell.{differs}
use Rattle.line.proofs.CellLaws.{distance_sum, erasures_sum}
use Rattle.load.specs.Load.{changed, damaged}
use Rattle.load.specs.Entries.{times, EachOnce}
use Rattle.load.proofs.Places.{times_parts, times_entry, sum_times}
use Rattle.load.proofs.Shuffles.{once_within}

-- ---- cells that are changed

-- f, so many times
unfoldable repeated : ℕ → (ℕ → ℕ) → ℕ → ℕ
repeated zero f c = c
repeated (suc t) f c = repeated t f (f c)

pub length_changed : (f : ℕ → ℕ) (ps m : List ℕ) → length (changed f ps m) ≡ length m
unfolding changed
length_changed f [] m = refl
length_changed f (p ∷ ps) m = length_changed f ps (set m p (f (cell m p))) ∙ length-set m p (f (cell m p))

changed_cell : (f : ℕ → ℕ) (ps m : List ℕ) (p : ℕ) → p < length m → cell (changed f ps m) p ≡ repeated (times p ps) f (cell m p)
unfolding changed times repeated
changed_cell f [] m p h = refl
changed_cell f (x ∷ ps) m p h =
    let more = changed_cell f ps (set m x (f (cell m x))) p (rw (length-set m x (f (cell m x))) h) in
    let other : (x ≡ p → ⊥) → cell (changed f (x ∷ ps) m) p ≡ repeated (times p (x ∷ ps)) f (cell m p) =
    λ n. more ∙ rw (ne_eqb x p n, zero-add (times p ps), get_or-set_other m x p (f (cell m x)) 0 (λ z. n (sym z))) in
    dite (dec_lt x p) (λ q. other (λ z. omega arith))
    (λ q.
    dite (dec_lt p x) (λ r. other (λ z. omega arith))
    (λ r.
    let e : x ≡ p = omega arith in
    more ∙ rw (eq-eqb x p e, one-add (times p ps), e, get_or-set_same m p (f (cell m p)) 0 h)))

-- ---- one cell, by how often it was inverted and made unsure

fate : (t u c : ℕ) → t + u ≤ 1 → c < 2
    → (differs (repeated u (λ c. 2) (repeated t (λ c. 1 - c) c)) c ≡ t) × (bit (is_erased (repeated u (λ c. 2) (repeated t (λ c. 1 - c) c))) ≡ u)
unfolding repeated
fate zero zero zero h l = (refl, refl)
fate zero zero (suc zero) h l = (refl, refl)
fate zero (suc zero) zero h l = (refl, refl)
fate zero (suc zero) (suc zero) h l = (refl, refl)
fate (suc zero) zero zero h l = (refl, refl)
fate (suc zero) zero (suc zero) h l = (refl, refl)
fate zero (suc (suc u)) c h l = absurd (omega arith)
fate (suc zero) (suc u) c h l = absurd (omega arith)
fate (suc (suc t)) u c h l = absurd (omega arith)
fate zero zero (suc (suc c)) h l = absurd (omega arith)
fate zero (suc zero) (suc (suc c)) h l = absurd (omega arith)
fate (suc zero) zero (suc (suc c)) h l = absurd (omega arith)

-- ---- a part of c cells from cell a on

part_cell : (a c : ℕ) (l : List ℕ) (k : ℕ) → k < c → cell (take c (drop a l)) k ≡ cell l (a + k)
part_cell a c l k h = get_or-take c (drop a l) k 0 h ∙ get_or-drop a l k 0

part_length : (a c : ℕ) (l : List ℕ) → a + c ≤ length l → length (take c (drop a l)) ≡ c
part_length a c l h = length-take-le c (drop a l) (rw (length-drop a l) (omega arith))

module _ (wrong unsure : ℕ) {m : ℕ} {places sheet : List ℕ} (e : EachOnce m places) (w : IsWord m sheet) where
  abbrev after : List ℕ
  after = damaged wrong unsure places sheet

  abbrev first : List ℕ
  first = take wrong places

  abbrev second : List ℕ
  second = take unsure (drop wrong places)

  abbrev rest : List ℕ
  rest = drop unsure (drop wrong places)

  damaged_length : length after ≡ m
  unfolding damaged
  damaged_length = length_changed (λ c. 2) second (changed (λ c. 1 - c) first sheet) ∙ length_changed (λ c. 1 - c) first sheet ∙ w.long

  damaged_cell_lem : (p : ℕ) → p < m → cell after p ≡ repeated (times p second) (λ c. 2) (repeated (times p first) (λ c. 1 - c) (cell sheet p))
  unfolding damaged
  damaged_cell_lem p h =
      changed_cell (λ c. 2) second (changed (λ c. 1 - c) first sheet) p (rw (length_changed (λ c. 1 - c) first sheet, w.long) h)
      ∙ ap (repeated (times p second) (λ c. 2)) (changed_cell (λ c. 1 - c) first sheet p (rw w.long h))

  -- a place is in one of three parts of the order
  one_part : (p : ℕ) → p < m → times p first + (times p second + times p rest) ≡ 1
  one_part p h = omega (arith, times_parts p wrong places, times_parts p unsure (drop wrong places), e.once p h)

  cell_fate : (p : ℕ) → p < m → (differs (cell after p) (cell sheet p) ≡ times p first) × (bit (is_erased (cell after p)) ≡ times p second)
  cell_fate p h = rw (damaged_cell_lem p h) (fate (times p first) (times p second) (cell sheet p) (omega (arith, one_part p h)) (w.small p))

  pub part_wrong : (a c : ℕ) → a + c ≤ m → distance (take c (drop a after)) (take c (drop a sheet)) ≡ sum_to (λ k. times (a + k) first) c
  part_wrong a c h =
      let la : length (take c (drop a after)) ≡ c = part_length a c after (rw damaged_length h) in
      let ls : length (take c (drop a sheet)) ≡ c = part_length a c sheet (rw w.long h) in
      distance_sum (take c (drop a after)) (take c (drop a sheet)) (la ∙ sym ls)
      ∙ ap (sum_to (λ k. differs (cell (take c (drop a after)) k) (cell (take c (drop a sheet)) k))) la
      ∙ sum_ext _ _ c (λ k l. ap₂ differs (part_cell a c after k l) (part_cell a c sheet k l) ∙ (cell_fate (a + k) (omega arith)).0)

  pub part_unsure : (a c : ℕ) → a + c ≤ m → erasures (take c (drop a after)) ≡ sum_to (λ k. times (a + k) second) c
  part_unsure a c h =
      let la : length (take c (drop a after)) ≡ c = part_length a c after (rw damaged_length h) in
      erasures_sum (take c (drop a after))
      ∙ ap (sum_to (λ k. bit (is_erased (cell (take c (drop a after)) k)))) la
      ∙ sum_ext _ _ c (λ k l. ap (λ (x : ℕ). bit (is_erased x)) (part_cell a c after k l) ∙ (cell_fate (a + k) (omega arith)).1)

  -- all cells are one part
  pub wrong_cells : wrong + unsure ≤ m → distance after sheet ≡ wrong
  wrong_cells h =
      let lw : length first ≡ wrong = length-take-le wrong places (rw e.long (omega arith)) in
      ap₂ distance (sym (take_all m after (omega (arith, damaged_length)))) (sym (take_all m sheet (omega (arith, w.long))))
      ∙ part_wrong 0 m (omega arith) ∙ sum_times m first (λ i l. rw (get_or-take wrong places i 0 (omega arith)) (once_within e i (omega (arith, e.long)))) ∙ lw

  pub unsure_cells : wrong + unsure ≤ m → erasures after ≡ unsure
  unsure_cells h =
      let lu : length second ≡ unsure = part_length wrong unsure places (rw e.long h) in
      ap erasures (sym (take_all m after (omega (arith, damaged_length))))
      ∙ part_unsure 0 m (omega arith)
      ∙ sum_times m second (λ i l. rw (part_cell wrong unsure places i (omega arith)) (once_within e (wrong + i) (omega (arith, e.long)))) ∙ lu

  -- ---- the cells, in the shuffled order

  pub first_inverted : wrong + unsure ≤ m → (i : ℕ) → i < wrong → cell after (cell places i) ≡ 1 - cell sheet (cell places i)
  unfolding repeated
  first_inverted h i l =
      let p : ℕ = cell places i in
      let lw : length first ≡ wrong = length-take-le wrong places (rw e.long (omega arith)) in
      let here : 0 < times p first = rw (get_or-take wrong places i 0 l) at (times_entry first i (omega arith)) in
      let b : p < m = once_within e i (omega (arith, e.long)) in
      let one : times p first ≡ 1 = omega (arith, one_part p b) in
      let none : times p second ≡ 0 = omega (arith, one_part p b) in
      damaged_cell_lem p b ∙ rw (one, none)

  pub next_erased : wrong + unsure ≤ m → (i : ℕ) → wrong ≤ i → i < wrong + unsure → cell after (cell places i) ≡ 2
  unfolding repeated
  next_erased h i l r =
      let p : ℕ = cell places i in
      let k : ℕ = i - wrong in
      let back : wrong + k ≡ i = omega arith in
      let lu : length second ≡ unsure = part_length wrong unsure places (rw e.long h) in
      let here : 0 < times p second =
      rw (part_cell wrong unsure places k (omega arith), back) at (times_entry second k (omega arith)) in
      let b : p < m = once_within e i (omega (arith, e.long)) in
      let one : times p second ≡ 1 = omega (arith, one_part p b) in
      damaged_cell_lem p b ∙ rw one

  pub others_own : (i : ℕ) → wrong + unsure ≤ i → i < m → cell after (cell places i) ≡ cell sheet (cell places i)
  unfolding repeated
  others_own i l r =
      let p : ℕ = cell places i in
      let k : ℕ = i - (wrong + unsure) in
      let back : wrong + unsure + k ≡ i = omega arith in
      let same : rest ≡ drop (wrong + unsure) places = drop-drop unsure wrong places in
      let here : 0 < times p rest =
      rw same (rw (get_or-drop (wrong + unsure) places k 0, back) at (times_entry (drop (wrong + unsure) places) k (rw (length-drop, e.long) (omega arith)))) in
      let b : p < m = once_within e i (omega (arith, e.long)) in
      let none : times p first ≡ 0 = omega (arith, one_part p b) in
      let nor : times p second ≡ 0 = omega (arith, one_part p b) in
      damaged_cell_lem p b ∙ rw (none, nor)
