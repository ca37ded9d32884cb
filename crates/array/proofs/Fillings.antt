-- The filling words that are lent as two numbers each.
-- Assumes nothing.
use mathlib.Core.Path.{◌≡◌, refl, sym, ap, ap₂, ◌∙◌}
use mathlib.Core.List.{List, [], ◌∷◌}
use Prim.Native.Nat.{ℕ, zero, suc, ◌+◌, ◌*◌, ◌<◌}
use native.Mathlib.Omega.{arith}
use lib.ListN.{length, drop, get_or, replicate}
use lib.Seq.{drop-drop}
use Rattle.line.specs.Cells.{filling_word}
use Rattle.array.specs.Plain.{fillings}

-- word i
pub fillings_at : (w : List ℕ) (i : ℕ) → 2 * i + 1 < length w → filling_word (get_or w (2 * i) 0) (get_or w (2 * i + 1) 0) ≡ get_or (fillings w) i 0
unfolding fillings
fillings_at [] i h = absurd (omega arith)
fillings_at (low ∷ []) i h = absurd (omega arith)
fillings_at (low ∷ high ∷ w) zero h = refl
fillings_at (low ∷ high ∷ w) (suc i) h =
    let e : 2 * suc i ≡ suc (suc (2 * i)) = omega arith in
    let f : 2 * suc i + 1 ≡ suc (suc (2 * i + 1)) = omega arith in
    ap₂ (λ (x y : ℕ). filling_word (get_or (low ∷ high ∷ w) x 0) (get_or (low ∷ high ∷ w) y 0)) e f ∙ fillings_at w i (omega arith)

-- words from n on
pub fillings_drop : (n : ℕ) (w : List ℕ) → drop n (fillings w) ≡ fillings (drop (2 * n) w)
unfolding fillings
fillings_drop zero w = refl
fillings_drop (suc n) [] = let e : 2 * suc n ≡ suc (suc (2 * n)) = omega arith in rw e refl
fillings_drop (suc n) (low ∷ []) = let e : 2 * suc n ≡ suc (suc (2 * n)) = omega arith in rw e refl
fillings_drop (suc n) (low ∷ high ∷ w) = let e : 2 * suc n ≡ suc (suc (2 * n)) = omega arith in rw e (fillings_drop n w)

-- those of the next iteration
pub next_fillings : (n at : ℕ) (w : List ℕ) → fillings (drop (at + 4 * n) w) ≡ drop (n + n) (fillings (drop at w))
next_fillings n at w =
    let e : 4 * n ≡ 2 * (n + n) = omega arith in
    rw e (ap fillings (sym (drop-drop (2 * (n + n)) at w)) ∙ sym (fillings_drop (n + n) (drop at w)))

-- words of zero
pub fillings_zeros : (k : ℕ) → fillings (replicate (2 * k) 0) ≡ replicate k 0
unfolding fillings
fillings_zeros zero = refl
fillings_zeros (suc k) = let e : 2 * suc k ≡ suc (suc (2 * k)) = omega arith in rw e (ap (λ (w : List ℕ). 0 ∷ w) (fillings_zeros k))
