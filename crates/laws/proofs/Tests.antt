-- Tests that the checker computes, over all numbers below a bound or all entries of a table, and what a passed test says of each.
-- Assumes nothing.
use mathlib.Core.Path.{◌≡◌, refl, ap₂, subst, sym, ◌∙◌}
use mathlib.Core.Bool.{Bool, true, false, ◌&&◌, true≢false, and-true as and-true-is}
use mathlib.Core.Logic.{◌⊎◌, inl, inr}
use mathlib.Core.List.{List, [], ◌∷◌}
use Prim.Native.Nat.{ℕ, zero, suc, ◌+◌, ◌<◌, ◌≤◌}
use native.Mathlib.Nat.{eq-or-lt_of_le, le_of_suc-le-suc, le_refl, not-suc-le-zero, suc_inj}
use native.Mathlib.Numerals.{add-one}
use native.Mathlib.Omega.{arith}
use lib.Dec.{T}
use lib.ListN.{length, get_or}
pub use Rattle.laws.specs.Tests.{every}

pub and_left : (a b : Bool) → T (a && b) → T a
and_left true b t = tt
and_left false b t = t

pub and_right : (a b : Bool) → T (a && b) → T b
and_right true b t = t
and_right false b t = absurd t

-- the same of tests that are true
pub and_true : (a b : Bool) → (a && b) ≡ true → (a ≡ true) × (b ≡ true)
and_true true b e = (refl, e)
and_true false b e = absurd (true≢false (sym e))

-- what a test over the numbers below n says of each
pub every_at : (f : ℕ → Bool) (n : ℕ) → T (every f n) → {k : ℕ} → k < n → T (f k)
every_at f zero t h = absurd (not-suc-le-zero h)
every_at f (suc n) t {k} h = pick (eq-or-lt_of_le (le_of_suc-le-suc h)) (every_at f n (and_right (f n) (every f n) t))
  where
    pick : (k ≡ n) ⊎ (k < n) → (k < n → T (f k)) → T (f k)
    pick (inl e) ih = subst (λ (m : ℕ). T (f m)) (sym e) (and_left (f n) (every f n) t)
    pick (inr l) ih = ih l

-- one number more
pub every_next : (f : ℕ → Bool) (n : ℕ) {one all : Bool} → one ≡ f n → all ≡ every f n → (one && all) ≡ every f (n + 1)
every_next f n e h = rw add-one (ap₂ ◌&&◌ e h)

-- where the test passes so far
pub every_more : (f : ℕ → Bool) (n : ℕ) {one : Bool} → one ≡ f n → every f n ≡ true → one ≡ every f (n + 1)
every_more f n {one} e h = sym (and-true-is one) ∙ every_next f n e (sym h)

-- and what each says of the test
pub every_true : (f : ℕ → Bool) (n : ℕ) → ((k : ℕ) → k < n → f k ≡ true) → every f n ≡ true
every_true f zero h = refl
every_true f (suc n) h = ap₂ ◌&&◌ (h n (le_refl (suc n))) (every_true f n (λ k l. h k (omega arith)))

-- what a test that is true says of each
pub every_each : (f : ℕ → Bool) (n : ℕ) → every f n ≡ true → (k : ℕ) → k < n → f k ≡ true
every_each f n e k h = passed (f k) (every_at f n (subst T (sym e) tt) h)
  where
    passed : (b : Bool) → T b → b ≡ true
    passed true t = refl
    passed false t = absurd t

-- fewer numbers
pub every_fewer : (f : ℕ → Bool) {k n : ℕ} → k ≤ n → every f n ≡ true → every f k ≡ true
every_fewer f {k} {n} h e = every_true f k (λ i l. every_each f n e i (omega arith))

-- the test passes at each list of n bits
unfoldable pub every_bits : ℕ → (List ℕ → Bool) → Bool
every_bits zero f = f []
every_bits (suc n) f = every_bits n (λ bs. f (0 ∷ bs)) && every_bits n (λ bs. f (1 ∷ bs))

pub every_bits_at : (n : ℕ) (f : List ℕ → Bool) → T (every_bits n f) → (bs : List ℕ) → length bs ≡ n → ((i : ℕ) → get_or bs i 0 < 2) → T (f bs)
unfolding every_bits
every_bits_at zero f t [] e h = t
every_bits_at zero f t (b ∷ bs) e h = absurd (omega arith)
every_bits_at (suc n) f t [] e h = absurd (omega arith)
every_bits_at (suc n) f t (zero ∷ bs) e h =
    every_bits_at n (λ bs. f (0 ∷ bs)) (and_left (every_bits n (λ bs. f (0 ∷ bs))) (every_bits n (λ bs. f (1 ∷ bs))) t) bs (suc_inj e) (λ i. h (suc i))
every_bits_at (suc n) f t (suc zero ∷ bs) e h =
    every_bits_at n (λ bs. f (1 ∷ bs)) (and_right (every_bits n (λ bs. f (0 ∷ bs))) (every_bits n (λ bs. f (1 ∷ bs))) t) bs (suc_inj e) (λ i. h (suc i))
every_bits_at (suc n) f t (suc (suc b) ∷ bs) e h = absurd (omega (arith, h 0))
