-- How often a number stands in a list: in its parts, after an entry is put, and summed over numbers.
-- Assumes nothing.
use Rattle.std.proofs.Common.{◌≡◌, ℕ, zero, suc, ◌+◌, ◌-◌, ◌<◌, ◌≤◌, eqb, List, [], ◌∷◌, ◌++◌, length, take, drop, set, sym, refl, ap, ◌∙◌, le_of_suc-le-suc, not-suc-le-zero, arith, take-append-drop, eq-eqb, ne_eqb}
use mathlib.Core.Logic.{dite}
use native.Mathlib.Decide.{dec_lt}
use Rattle.laws.specs.Bits.{bit}
use Rattle.laws.specs.Sums.{sum_to}
use Rattle.laws.proofs.Sums.{sum_add, sum_zero, sum_first, sum_none, sum_one}
use Rattle.line.specs.Cells.{cell}
use Rattle.line.specs.Decoding.{list_to}
use Rattle.load.specs.Entries.{times}
use Rattle.load.specs.Working.Within.{Within}

-- ---- parts of a list

pub times_append : (p : ℕ) (a b : List ℕ) → times p (a ++ b) ≡ times p a + times p b
unfolding times
times_append p [] b = omega arith
times_append p (x ∷ a) b = omega (arith, times_append p a b)

pub times_parts : (p k : ℕ) (l : List ℕ) → times p l ≡ times p (take k l) + times p (drop k l)
times_parts p k l = ap (times p) (sym (take-append-drop k l)) ∙ times_append p (take k l) (drop k l)

-- an entry stands in the list
pub times_entry : (l : List ℕ) (i : ℕ) → i < length l → 0 < times (cell l i) l
unfolding times
times_entry [] i h = absurd (not-suc-le-zero h)
times_entry (x ∷ l) zero h = rw (eq-eqb x x refl) (omega arith)
times_entry (x ∷ l) (suc i) h = omega (arith, times_entry l i (le_of_suc-le-suc h))

-- ---- an entry is put

pub times_set : (p : ℕ) (l : List ℕ) (i x : ℕ) → i < length l → times p (set l i x) + bit (eqb (cell l i) p) ≡ times p l + bit (eqb x p)
unfolding times
times_set p [] i x h = absurd (not-suc-le-zero h)
times_set p (y ∷ l) zero x h = omega arith
times_set p (y ∷ l) (suc i) x h = omega (arith, times_set p l i x (le_of_suc-le-suc h))

-- ---- summed over numbers from a on

module _ (x a n : ℕ) where
  abbrev at : ℕ → ℕ
  at k = bit (eqb x (a + k))

  pub within_one : a ≤ x → x < a + n → sum_to at n ≡ 1
  within_one h l =
      let j : ℕ = x - a in
      let e : x ≡ a + j = omega arith in
      sum_one at n j (omega arith) (λ k q z. rw (ne_eqb x (a + k) (λ w. z (omega arith)))) ∙ rw (eq-eqb x (a + j) e)

  pub at_most_one : sum_to at n ≤ 1
  at_most_one =
      dite (dec_lt x a) (λ l. omega (arith, sum_none at n (λ k q. rw (ne_eqb x (a + k) (λ w. omega arith)))))
      (λ l.
      dite (dec_lt x (a + n)) (λ q. omega (arith, within_one (omega arith) q))
      (λ q. omega (arith, sum_none at n (λ k r. rw (ne_eqb x (a + k) (λ w. omega arith))))))

-- each entry counts at most once
pub sum_times_le : (a n : ℕ) (l : List ℕ) → sum_to (λ k. times (a + k) l) n ≤ length l
unfolding times
sum_times_le a n [] = omega (arith, sum_zero n)
sum_times_le a n (x ∷ l) =
    omega (arith, sum_add (λ k. bit (eqb x (a + k))) (λ k. times (a + k) l) n, at_most_one x a n, sum_times_le a n l)

-- and once where all numbers are among them
pub sum_times : (n : ℕ) (l : List ℕ) → Within n l → sum_to (λ k. times (0 + k) l) n ≡ length l
unfolding times
sum_times n [] h = sum_zero n
sum_times n (x ∷ l) h =
    omega (arith, sum_add (λ k. bit (eqb x (0 + k))) (λ k. times (0 + k) l) n, within_one x 0 n (omega arith) (omega (arith, h 0 (omega arith))), sum_times n l (λ i q. h (suc i) (omega arith)))

-- ---- a list by its entries

pub times_list_to : (p : ℕ) (g : ℕ → ℕ) (n : ℕ) → times p (list_to g n) ≡ sum_to (λ k. bit (eqb (g k) p)) n
unfolding times list_to sum_to
times_list_to p g zero = refl
times_list_to p g (suc n) = omega (arith, times_list_to p (λ k. g (suc k)) n, sum_first (λ k. bit (eqb (g k) p)) n)
