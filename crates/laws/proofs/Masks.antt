-- The set bits of a mask, from the lowest up, and sums over them.
-- Assumes nothing.
use mathlib.Core.Path.{◌≡◌, refl, sym, ap, ap₂, ◌∙◌}
use mathlib.Core.Bool.{true, false, cond}
use mathlib.Core.Logic.{◌≢◌, dite}
use Prim.Native.Nat.{ℕ, zero, suc, ◌+◌, ◌-◌, ◌*◌, ◌/◌, ◌%◌, ◌^◌, ◌≤◌, ◌<◌, suc-le-suc}
use native.Mathlib.Nat.{mod-lt, zero-lt-suc, zero-div, div-one, pow-suc, add-zero, zero-add, zero-mul, one-mul, add-mul, lt_of_lt_of_le, div-eq_of_lt, not-suc-le-zero}
use native.Mathlib.Omega.{arith}
use native.Mathlib.Decide.{ℕ_discrete, dec_lt}
use lib.Bits.{bit_and, and_self}
use lib.Count.{count_trailing_zeros}
use lib.Dec.{eqb, eqb-zero-suc, eqb-suc-zero, eqb-suc-suc}
use lib.Pow.{pow_mono}
use borrow.Author.Tests.{eq-eqb, ne_eqb}
use Rattle.laws.specs.Working.Bits.{bit_at}
use Rattle.laws.specs.Sums.{sum_to}
use Rattle.laws.proofs.Bits.{half_bit, low_bit, and_bits, shift_more, bit_at_lt}
use Rattle.laws.proofs.Sums.{sum_ext, sum_add, sum_zero}

-- ---- the lowest set bit

-- 1 at k, 0 elsewhere
abbrev pub one_at : ℕ → ℕ → ℕ
one_at k i = cond (eqb i k) 1 0

-- a mask is its lowest set bit and what stays without it
pub lowest : (m t : ℕ) → t ≢ 0 → t < 2 ^ m → (count_trailing_zeros m t < m) × ((i : ℕ) → bit_at t i ≡ bit_at (bit_and t (t - 1)) i + one_at (count_trailing_zeros m t) i)
unfolding count_trailing_zeros
lowest zero t g h = absurd (g (omega arith))
lowest (suc m) t g h = go (t % 2) refl (mod-lt t (zero-lt-suc 1)) (λ k. lowest m (t / 2) k (let l : t < 2 ^ m * 2 = rw (pow-suc 2 m) at h in omega arith))
  where
    go : (d : ℕ) → t % 2 ≡ d → d < 2
        → (t / 2 ≢ 0 → (count_trailing_zeros m (t / 2) < m) × ((i : ℕ) → bit_at (t / 2) i ≡ bit_at (bit_and (t / 2) (t / 2 - 1)) i + one_at (count_trailing_zeros m (t / 2)) i))
        → (count_trailing_zeros (suc m) t < suc m) × ((i : ℕ) → bit_at t i ≡ bit_at (bit_and t (t - 1)) i + one_at (count_trailing_zeros (suc m) t) i)
    go zero e l ih =
        let r = ih (λ z. g (omega arith)) in
        let b : t - 1 ≡ (t / 2 - 1) * 2 + 1 = omega (arith, g) in
        let a : t ≡ t / 2 * 2 + 0 = omega arith in
        let c : bit_and t (t - 1) ≡ bit_and (t / 2) (t / 2 - 1) * 2 + 0 = ap₂ bit_and a b ∙ and_bits (t / 2) (t / 2 - 1) false true in
        rw e (suc-le-suc r.0, λ i. at i c r.1)
      where
        at : (i : ℕ) → bit_and t (t - 1) ≡ bit_and (t / 2) (t / 2 - 1) * 2 + 0
            → ((i : ℕ) → bit_at (t / 2) i ≡ bit_at (bit_and (t / 2) (t / 2 - 1)) i + one_at (count_trailing_zeros m (t / 2)) i)
            → bit_at t i ≡ bit_at (bit_and t (t - 1)) i + one_at (suc (count_trailing_zeros m (t / 2))) i
        at zero c f = rw (c, div-one, div-one, low_bit (bit_and (t / 2) (t / 2 - 1)) false, eqb-zero-suc (count_trailing_zeros m (t / 2))) e
        at (suc i) c f = rw (c, shift_more, shift_more, half_bit (bit_and (t / 2) (t / 2 - 1)) false, eqb-suc-suc i (count_trailing_zeros m (t / 2))) (f i)
    go (suc zero) e l ih =
        let b : t - 1 ≡ t / 2 * 2 + 0 = omega arith in
        let a : t ≡ t / 2 * 2 + 1 = omega arith in
        let c : bit_and t (t - 1) ≡ t / 2 * 2 + 0 = ap₂ bit_and a b ∙ and_bits (t / 2) (t / 2) true false ∙ ap (λ (x : ℕ). x * 2 + 0) (and_self (t / 2)) in
        rw e (zero-lt-suc m, λ i. at i c)
      where
        at : (i : ℕ) → bit_and t (t - 1) ≡ t / 2 * 2 + 0 → bit_at t i ≡ bit_at (bit_and t (t - 1)) i + one_at 0 i
        at zero c = rw (c, div-one, div-one, low_bit (t / 2) false) e
        at (suc i) c = rw (c, shift_more, shift_more, half_bit (t / 2) false, eqb-suc-zero i) (sym (add-zero (bit_at (t / 2) i)))
    go (suc (suc d)) e l ih = absurd (omega arith)

-- ---- sums over the bits of a mask

-- the sum of g over the set bits of t below n
unfoldable pub sum_mask : ℕ → (ℕ → ℕ) → ℕ → ℕ
sum_mask t g n = sum_to (λ i. bit_at t i * g i) n

sum_one : (k : ℕ) (g : ℕ → ℕ) (n : ℕ) → k < n → sum_to (λ i. one_at k i * g i) n ≡ g k
unfolding sum_to
sum_one k g zero h = absurd (not-suc-le-zero h)
sum_one k g (suc n) h = go (ℕ_discrete n k) (sum_one k g n)
  where
    go : Dec (n ≡ k) → (k < n → sum_to (λ i. one_at k i * g i) n ≡ g k) → sum_to (λ i. one_at k i * g i) n + one_at k n * g n ≡ g k
    go (yes e) ih =
        let z : sum_to (λ i. one_at k i * g i) n ≡ 0 = sum_ext (λ i. one_at k i * g i) (λ i. 0) n (λ i l. rw (ne_eqb i k (λ d. omega arith), zero-mul (g i))) ∙ sum_zero n in
        rw (z, eq-eqb n k e, one-mul (g n), zero-add (g n)) (ap g e)
    go (no e) ih = rw (ne_eqb n k e, zero-mul (g n), add-zero (sum_to (λ i. one_at k i * g i) n)) (ih (omega (arith, e)))

-- a turn: the lowest set bit's term and the rest
pub mask_turn : (m t : ℕ) (g : ℕ → ℕ) (n : ℕ) → t ≢ 0 → t < 2 ^ m → count_trailing_zeros m t < n → sum_mask t g n ≡ sum_mask (bit_and t (t - 1)) g n + g (count_trailing_zeros m t)
unfolding sum_mask
mask_turn m t g n z h l =
    let k = count_trailing_zeros m t in
    let s = bit_and t (t - 1) in
    sum_ext (λ i. bit_at t i * g i) (λ i. bit_at s i * g i + one_at k i * g i) n (λ i _. ap (λ (x : ℕ). x * g i) ((lowest m t z h).1 i) ∙ add-mul (bit_at s i) (one_at k i) (g i))
    ∙ sum_add (λ i. bit_at s i * g i) (λ i. one_at k i * g i) n ∙ ap (λ (x : ℕ). sum_to (λ i. bit_at s i * g i) n + x) (sum_one k g n l)

-- with nothing elsewhere, the sum over a mask is the sum over all
pub mask_all : (t : ℕ) (g : ℕ → ℕ) (n : ℕ) → ((i : ℕ) → i < n → bit_at t i ≡ 0 → g i ≡ 0) → sum_mask t g n ≡ sum_to g n
unfolding sum_mask
mask_all t g n h = sum_ext (λ i. bit_at t i * g i) g n (λ i l. go i (bit_at t i) (bit_at_lt t i) (h i l))
  where
    go : (i b : ℕ) → b < 2 → (b ≡ 0 → g i ≡ 0) → b * g i ≡ g i
    go i zero l f = rw (zero-mul (g i)) (sym (f refl))
    go i (suc zero) l f = one-mul (g i)
    go i (suc (suc b)) l f = absurd (omega arith)

pub mask_none : (g : ℕ → ℕ) (n : ℕ) → sum_mask 0 g n ≡ 0
unfolding sum_mask
mask_none g n = sum_ext (λ i. bit_at 0 i * g i) (λ i. 0) n (λ i l. rw (zero-div, zero-mul (g i))) ∙ sum_zero n

-- at most one for each bit
pub mask_le : (t n : ℕ) → sum_mask t (λ i. 1) n ≤ n
unfolding sum_mask sum_to
mask_le t zero = omega arith
mask_le t (suc n) = omega (arith, mask_le t n, bit_at_lt t n)

-- the lowest bit is below any bound of the mask
pub lowest_below : (m n t : ℕ) → t ≢ 0 → t < 2 ^ m → t < 2 ^ n → count_trailing_zeros m t < n
lowest_below m n t z h l = go (ℕ_discrete (bit_at t (count_trailing_zeros m t)) 0)
  where
    go : Dec (bit_at t (count_trailing_zeros m t) ≡ 0) → count_trailing_zeros m t < n
    go (yes e) = absurd (let s = (lowest m t z h).1 (count_trailing_zeros m t) in let o : one_at (count_trailing_zeros m t) (count_trailing_zeros m t) ≡ 1 = rw (eq-eqb (count_trailing_zeros m t) (count_trailing_zeros m t) refl) in omega arith)
    go (no e) = dite (dec_lt (count_trailing_zeros m t) n) (λ y. y) (λ y. absurd (e (ap (λ (x : ℕ). x % 2) (div-eq_of_lt (lt_of_lt_of_le l (pow_mono (omega (arith, y))))))))
