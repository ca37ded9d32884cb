-- Sums over the numbers below a bound.
-- Assumes nothing.
use mathlib.Core.Path.{◌≡◌, refl, ap, ap₂, ◌∙◌}
use mathlib.Core.Logic.{dite}
use Prim.Native.Nat.{ℕ, zero, suc, ◌+◌, ◌*◌, ◌<◌, ◌≤◌}
use native.Mathlib.Nat.{le_refl, mul-suc, not-suc-le-zero, zero-mul}
use native.Mathlib.Decide.{dec_lt}
use native.Mathlib.Omega.{arith}
use Rattle.laws.specs.Sums.{sum_to}

pub sum_ext : (f g : ℕ → ℕ) (n : ℕ) → ((i : ℕ) → i < n → f i ≡ g i) → sum_to f n ≡ sum_to g n
unfolding sum_to
sum_ext f g zero h = refl
sum_ext f g (suc n) h = ap₂ (λ (x y : ℕ). x + y) (sum_ext f g n (λ i l. h i (omega arith))) (h n (le_refl (suc n)))

pub sum_le : (f g : ℕ → ℕ) (n : ℕ) → ((k : ℕ) → k < n → f k ≤ g k) → sum_to f n ≤ sum_to g n
unfolding sum_to
sum_le f g zero h = omega arith
sum_le f g (suc n) h = omega (arith, sum_le f g n (λ k l. h k (omega arith)), h n (le_refl (suc n)))

pub sum_add : (f g : ℕ → ℕ) (n : ℕ) → sum_to (λ i. f i + g i) n ≡ sum_to f n + sum_to g n
unfolding sum_to
sum_add f g zero = refl
sum_add f g (suc n) = omega (arith, sum_add f g n)

pub sum_constant : (m n : ℕ) → sum_to (λ i. m) n ≡ m * n
unfolding sum_to
sum_constant m zero = omega arith
sum_constant m (suc n) = rw mul-suc (omega (arith, sum_constant m n))

-- terms that are at most b
pub sum_bound : (f : ℕ → ℕ) (b n : ℕ) → ((k : ℕ) → k < n → f k ≤ b) → sum_to f n ≤ b * n
sum_bound f b n h = rw (← sum_constant b n) (sum_le f (λ k. b) n h)

pub sum_zero : (n : ℕ) → sum_to (λ i. 0) n ≡ 0
sum_zero n = sum_constant 0 n ∙ zero-mul n

-- the first term taken out
pub sum_first : (f : ℕ → ℕ) (n : ℕ) → sum_to f (suc n) ≡ f 0 + sum_to (λ k. f (suc k)) n
unfolding sum_to
sum_first f zero = omega arith
sum_first f (suc n) = omega (arith, sum_first f n)

-- no term counts
pub sum_none : (f : ℕ → ℕ) (n : ℕ) → ((k : ℕ) → k < n → f k ≡ 0) → sum_to f n ≡ 0
sum_none f n h = sum_ext f (λ k. 0) n h ∙ sum_zero n

-- one term counts
pub sum_one : (f : ℕ → ℕ) (n j : ℕ) → j < n → ((k : ℕ) → k < n → (k ≡ j → ⊥) → f k ≡ 0) → sum_to f n ≡ f j
unfolding sum_to
sum_one f zero j h r = absurd (not-suc-le-zero h)
sum_one f (suc n) j h r =
    dite (dec_lt j n)
    (λ l. omega (arith, sum_one f n j l (λ k q. r k (omega arith)), r n (le_refl (suc n)) (λ z. omega arith)))
    (λ l.
    let e : n ≡ j = omega arith in
    omega (arith, sum_none f n (λ k q. r k (omega arith) (λ z. omega arith)), ap f e))
