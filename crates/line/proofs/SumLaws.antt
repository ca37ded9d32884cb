-- The check sums and the number of ones of a word whose cells are flipped.
-- Assumes nothing.
use mathlib.Core.Path.{◌≡◌, refl, sym, ap, ◌∙◌}
use mathlib.Core.Bool.{true, false}
use mathlib.Core.List.{List, [], ◌∷◌}
use Prim.Native.Nat.{ℕ, zero, suc, ◌+◌, ◌-◌, ◌%◌, ◌<◌}
use native.Mathlib.Nat.{suc_inj, le_of_suc-le-suc, not-suc-le-zero}
use native.Mathlib.Omega.{arith}
use lib.Bits.{bit_xor, xor_comm}
use lib.Dec.{eqb}
use lib.ListN.{length, set, take}
use lib.Seq.{get_or-take, take-set-lt, take-set-le}
use Rattle.laws.specs.Digits.{sum_over, ones_in}
use Rattle.laws.proofs.DigitSums.{sum_flip as flip-sum}
use Rattle.line.specs.Cells.{cell, distance, flip}
use Rattle.line.specs.Working.OneCell.{differs}
use Rattle.line.proofs.CellLaws.{Bits}

-- a flip of cell i adds f i to the sum
pub sum_flip : (f : ℕ → ℕ) (w : List ℕ) (i : ℕ) → Bits w → i < length w
    → sum_over f (flip i w) ≡ bit_xor (f i) (sum_over f w)
unfolding flip
sum_flip f w i b h = flip-sum f w i h (b i) ∙ xor_comm (sum_over f w) (f i)

-- a flip turns the parity
pub ones_flip : (w : List ℕ) (i : ℕ) → Bits w → i < length w → (ones_in (flip i w) + ones_in w) % 2 ≡ 1
unfolding ones_in flip
ones_flip [] i b h = absurd (not-suc-le-zero h)
ones_flip (zero ∷ bs) zero b h = omega arith
ones_flip (suc zero ∷ bs) zero b h = omega arith
ones_flip (suc (suc c) ∷ bs) zero b h = absurd (omega (arith, b 0))
ones_flip (c ∷ bs) (suc i) b h = omega (arith, ones_flip bs i (λ j. b (suc j)) (le_of_suc-le-suc h))

-- two words have an even distance exactly if their parities are equal
pub ones_distance : (c e : List ℕ) → Bits c → Bits e → length c ≡ length e
    → (ones_in c + ones_in e + distance c e) % 2 ≡ 0
unfolding ones_in distance
ones_distance [] [] hc he l = refl
ones_distance [] (e ∷ es) hc he l = absurd (omega arith)
ones_distance (c ∷ cs) [] hc he l = absurd (omega arith)
ones_distance (c ∷ cs) (e ∷ es) hc he l =
    go c e (hc 0) (he 0) (ones_distance cs es (λ i. hc (suc i)) (λ i. he (suc i)) (suc_inj l))
  where
    one : ℕ → ℕ
    one c = elim (eqb c 1) [ true ↦ 1 | false ↦ 0 ]

    go : (c e : ℕ) → c < 2 → e < 2 → (ones_in cs + ones_in es + distance cs es) % 2 ≡ 0
        → (one c + ones_in cs + (one e + ones_in es) + (differs c e + distance cs es)) % 2 ≡ 0
    go zero zero a b h = omega arith
    go zero (suc zero) a b h = omega arith
    go (suc zero) zero a b h = omega arith
    go (suc zero) (suc zero) a b h = omega arith
    go zero (suc (suc e)) a b h = absurd (omega arith)
    go (suc zero) (suc (suc e)) a b h = absurd (omega arith)
    go (suc (suc c)) e a b h = absurd (omega arith)

-- a flip below m is a flip of the first m cells
pub take_flip : (m i : ℕ) (w : List ℕ) → i < m → take m (flip i w) ≡ flip i (take m w)
unfolding flip
take_flip m i w h =
    take-set-lt m w i (1 - cell w i) h ∙ ap (λ (x : ℕ). set (take m w) i (1 - x)) (sym (get_or-take m w i 0 h))

-- a flip of cell m leaves the first m cells as they are
pub take_flip_past : (m : ℕ) (w : List ℕ) → take m (flip m w) ≡ take m w
unfolding flip
take_flip_past m w = take-set-le m w m (1 - cell w m) (omega arith)
