-- "The shuffle holds each place a single time."
-- Assumes nothing.
use Rattle.std.proofs.Common.{◌≡◌, ℕ, zero, suc, ◌+◌, ◌-◌, ◌%◌, ◌<◌, eqb, List, length, set, refl, ap, ◌∙◌, mod-lt, arith, length-set, get_or-set_other, get_or-set_same, eq-eqb, ne_eqb}
use mathlib.Core.Logic.{dite}
use native.Mathlib.Decide.{dec_lt}
use Rattle.laws.specs.Bits.{bit}
use Rattle.laws.proofs.Sums.{sum_none, sum_one}
use Rattle.line.specs.Cells.{cell}
use Rattle.line.specs.Decoding.{list_to}
use Rattle.line.proofs.LineLaw.{list_to_length}
use Rattle.load.specs.Load.{start, next, drawn, exchanged, shuffled, order}
use Rattle.load.specs.Entries.{times, EachOnce}
use Rattle.load.specs.Working.Within.{Within}
use Rattle.load.proofs.Places.{times_set, times_entry, times_list_to}

-- ---- an exchange

pub length_exchanged : (i j : ℕ) (l : List ℕ) → length (exchanged i j l) ≡ length l
unfolding exchanged
length_exchanged i j l = length-set (set l i (cell l j)) j (cell l i) ∙ length-set l i (cell l j)

-- what is taken from entry j is still there once it was put to entry i
still : (i j : ℕ) (l : List ℕ) → i < length l → cell (set l i (cell l j)) j ≡ cell l j
still i j l h =
    dite (dec_lt i j) (λ q. get_or-set_other l i j (cell l j) 0 (λ z. omega arith))
    (λ q.
    dite (dec_lt j i) (λ r. get_or-set_other l i j (cell l j) 0 (λ z. omega arith))
    (λ r. let e : j ≡ i = omega arith in ap (cell (set l i (cell l j))) e ∙ get_or-set_same l i (cell l j) 0 h))

pub times_exchanged : (p i j : ℕ) (l : List ℕ) → i < length l → j < length l → times p (exchanged i j l) ≡ times p l
unfolding exchanged
times_exchanged p i j l hi hj =
    let one = times_set p l i (cell l j) hi in
    let two = times_set p (set l i (cell l j)) j (cell l i) (rw (length-set l i (cell l j)) hj) in
    let e = ap (λ (x : ℕ). bit (eqb x p)) (still i j l hi) in
    omega arith

-- ---- the shuffle

pub length_shuffled : (i : ℕ) (q : ℕ × ℕ) (l : List ℕ) → length (shuffled i q l) ≡ length l
unfolding shuffled
length_shuffled zero q l = refl
length_shuffled (suc i) q l = length_shuffled i (next q) _ ∙ length_exchanged (suc i) (drawn (next q) % (suc i + 1)) l

pub times_shuffled : (p i : ℕ) (q : ℕ × ℕ) (l : List ℕ) → i < length l → times p (shuffled i q l) ≡ times p l
unfolding shuffled
times_shuffled p zero q l h = refl
times_shuffled p (suc i) q l h =
    let j : ℕ = drawn (next q) % (suc i + 1) in
    times_shuffled p i (next q) (exchanged (suc i) j l) (rw (length_exchanged (suc i) j l) (omega arith))
    ∙ times_exchanged p (suc i) j l h (omega (arith, mod-lt (drawn (next q)) {m = suc i + 1} (omega arith)))

-- ---- the order

module _ (m seed : ℕ) (some : 0 < m) where
  pub order_length : length (order m seed) ≡ m
  unfolding order
  order_length = length_shuffled (m - 1) (start seed) (list_to (λ p. p) m) ∙ list_to_length (λ p. p) m

  order_times : (p : ℕ) → times p (order m seed) ≡ times p (list_to (λ p. p) m)
  unfolding order
  order_times p = times_shuffled p (m - 1) (start seed) (list_to (λ p. p) m) (rw (list_to_length (λ p. p) m) (omega arith))

  pub order_once : EachOnce m (order m seed)
  order_once = record {
    long = order_length;
    once = λ p h.
        order_times p ∙ times_list_to p (λ p. p) m
        ∙ sum_one (λ k. bit (eqb k p)) m p h (λ k q z. rw (ne_eqb k p z))
        ∙ rw (eq-eqb p p refl);
    others = λ p h.
        order_times p ∙ times_list_to p (λ p. p) m ∙ sum_none (λ k. bit (eqb k p)) m (λ k q. rw (ne_eqb k p (λ z. omega arith)));
  }

-- places that are held once lie in the sheet
pub once_within : {m : ℕ} {l : List ℕ} → EachOnce m l → Within m l
once_within {m} {l} e i h =
    dite (dec_lt (cell l i) m) (λ q. q) (λ q. absurd (omega (arith, times_entry l i h, e.others (cell l i) (omega arith))))
