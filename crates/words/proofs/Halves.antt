-- A number of 128 binary digits by its two halves: h * 2 ^ 64 + l, where l is below 2 ^ 64.
-- Assumes nothing.
use mathlib.Core.Path.{◌≡◌, refl, sym, ap, ap₂, ◌∙◌}
use mathlib.Core.Bool.{Bool, true, false, ◌&&◌}
use mathlib.Core.Logic.{◌≢◌}
use Prim.Native.Nat.{ℕ, zero, suc, ◌+◌, ◌-◌, ◌*◌, ◌/◌, ◌%◌, ◌^◌, ◌≤◌, ◌<◌}
use native.Mathlib.Nat.{pow-suc, mul_assoc, mul-one, suc-add, suc-mul, add-mul, zero-add, add-zero, mul-le-mul_right}
use native.Mathlib.Omega.{arith}
use lib.Bits.{bit_and, bit_xor, and_block, xor_block, and_lt, and_self, and_zero_l, block_half, block_odd, shifted_half, shifted_even}
use lib.Count.{ones, ones-le, ones_cat, count_trailing_zeros, under}
use lib.Dec.{eqb}
use lib.Pow.{pow-add, shl_exact, low, high}
use borrow.Author.Tests.{eqb-true, eqb-false, eq-eqb, ne_eqb}
use Rattle.laws.specs.Working.Bits.{bit_at}
use Rattle.words.specs.declared.word.Word.{Word}
use Rattle.words.specs.Working.Word.{value}
use Rattle.laws.proofs.Bits.{shr_at, mod_at}
use Rattle.laws.proofs.Masks.{lowest}
use Rattle.laws.proofs.Tests.{and_true}

-- a number of j + k digits by its halves
pub halves_lt : (j k h l : ℕ) → h < 2 ^ j → l < 2 ^ k → h * 2 ^ k + l < 2 ^ (j + k)
halves_lt j k h l a b =
    rw (pow-add 2 j k) (omega (arith, suc-mul h (2 ^ k), mul-le-mul_right {m = suc h} {n = 2 ^ j} (2 ^ k) a))

-- ---- tests

-- two numbers are the same where both halves are
pub same_halves : (h l i k : ℕ) → l < 2 ^ 64 → k < 2 ^ 64 → (eqb l k && eqb h i) ≡ eqb (h * 2 ^ 64 + l) (i * 2 ^ 64 + k)
same_halves h l i k a b = go (eqb l k) refl (eqb h i) refl
  where
    go : (x : Bool) → eqb l k ≡ x → (y : Bool) → eqb h i ≡ y → (x && y) ≡ eqb (h * 2 ^ 64 + l) (i * 2 ^ 64 + k)
    go false e y f = sym (ne_eqb (h * 2 ^ 64 + l) (i * 2 ^ 64 + k) (λ z. eqb-false l k e (omega arith)))
    go true e true f = sym (eq-eqb (h * 2 ^ 64 + l) (i * 2 ^ 64 + k) (omega (arith, eqb-true l k e, eqb-true h i f)))
    go true e false f = sym (ne_eqb (h * 2 ^ 64 + l) (i * 2 ^ 64 + k) (λ z. eqb-false h i f (omega (arith, eqb-true l k e))))

-- what `==` says of two words
pub same_words : (a b : Word) → (eqb a.low b.low && eqb a.high b.high) ≡ true → value a ≡ value b
unfolding value
same_words a b e =
    let t = and_true (eqb a.low b.low) (eqb a.high b.high) e in
    rw (eqb-true a.low b.low t.0, eqb-true a.high b.high t.1)

pub same_values : (a b : Word) → a.low < 2 ^ 64 → b.low < 2 ^ 64 → (eqb a.low b.low && eqb a.high b.high) ≡ eqb (value a) (value b)
unfolding value
same_values a b = same_halves a.high a.low b.high b.low

-- ---- all digits at once

pub without_halves : (h l i k : ℕ) → l < 2 ^ 64 → k < 2 ^ 64
    → bit_xor h (bit_and h i) * 2 ^ 64 + bit_xor l (bit_and l k) ≡ bit_xor (h * 2 ^ 64 + l) (bit_and (h * 2 ^ 64 + l) (i * 2 ^ 64 + k))
without_halves h l i k a b =
    sym (ap (bit_xor (h * 2 ^ 64 + l)) (and_block 64 h i l k a b) ∙ xor_block 64 h (bit_and h i) l (bit_and l k) a (and_lt 64 l k a b))

pub not_halves : (j k h l : ℕ) → h < 2 ^ j → l < 2 ^ k → (2 ^ j - 1 - h) * 2 ^ k + (2 ^ k - 1 - l) ≡ 2 ^ (j + k) - 1 - (h * 2 ^ k + l)
not_halves j k h l a b =
    let q : ℕ = 2 ^ j - 1 - h in
    let e : 2 ^ j ≡ q + suc h = omega arith in
    let f : 2 ^ (j + k) ≡ q * 2 ^ k + suc h * 2 ^ k = pow-add 2 j k ∙ ap (λ (x : ℕ). x * 2 ^ k) e ∙ add-mul q (suc h) (2 ^ k) in
    omega (arith, suc-mul h (2 ^ k))

-- ---- one digit

pub bit_low : (h l k : ℕ) → l < 2 ^ 64 → k < 64 → l / 2 ^ (k % 64) % 2 ≡ (h * 2 ^ 64 + l) / 2 ^ k % 2
bit_low h l k a b =
    let e : k % 64 ≡ k = omega arith in
    ap (bit_at l) e ∙ ap (λ (x : ℕ). bit_at x k) (sym (low h 64 a)) ∙ mod_at (h * 2 ^ 64 + l) 64 k b

bit_above : (h l k : ℕ) → l < 2 ^ 64 → h / 2 ^ k % 2 ≡ (h * 2 ^ 64 + l) / 2 ^ (64 + k) % 2
bit_above h l k a = ap (λ (x : ℕ). bit_at x k) (sym (high h 64 a)) ∙ shr_at (h * 2 ^ 64 + l) 64 k

pub bit_high : (h l k : ℕ) → l < 2 ^ 64 → 64 ≤ k → k < 128 → h / 2 ^ (k % 64) % 2 ≡ (h * 2 ^ 64 + l) / 2 ^ k % 2
bit_high h l k a b c =
    let e : 64 + k % 64 ≡ k = omega arith in
    bit_above h l (k % 64) a ∙ ap (bit_at (h * 2 ^ 64 + l)) e

pub single_low : (x k : ℕ) → x < 2 → k < 64 → 0 * 2 ^ 64 + x * 2 ^ (k % 64) % 2 ^ 64 ≡ x * 2 ^ k
single_low x k a b =
    let e : k % 64 ≡ k = omega arith in
    rw e (omega (arith, shl_exact {a = x} 1 k 64 a (omega arith)))

pub single_high : (x k : ℕ) → x < 2 → 64 ≤ k → k < 128 → x * 2 ^ (k % 64) % 2 ^ 64 * 2 ^ 64 + 0 ≡ x * 2 ^ k
single_high x k a b c =
    let e : k % 64 + 64 ≡ k = omega arith in
    add-zero (x * 2 ^ (k % 64) % 2 ^ 64 * 2 ^ 64) ∙ ap (λ (y : ℕ). y * 2 ^ 64) (shl_exact {a = x} 1 (k % 64) 64 a (omega arith))
    ∙ mul_assoc x (2 ^ (k % 64)) (2 ^ 64) ∙ ap (λ (p : ℕ). x * p) (sym (pow-add 2 (k % 64) 64) ∙ ap (λ (j : ℕ). 2 ^ j) e)

-- ---- the set digits counted

pub count_low : (h l : ℕ) → l < 2 ^ 64 → h ≡ 0 → (ones l ≤ 128) × (ones l ≡ ones (h * 2 ^ 64 + l))
count_low h l a z =
    let e : l ≡ h * 2 ^ 64 + l = omega arith in
    (omega (arith, ones-le 64 l a), ap ones e)

pub count_both : (h l : ℕ) → h < 2 ^ 64 → l < 2 ^ 64 → (ones l + ones h ≤ 128) × (ones l + ones h ≡ ones (h * 2 ^ 64 + l))
count_both h l b a = (omega (arith, ones-le 64 l a, ones-le 64 h b), omega (arith, ones_cat 64 h l a))

-- ---- the lowest set digit

under_same : (d t u : ℕ) → (d ≡ 0 → t ≡ u) → under d t ≡ under d u
under_same zero t u f = ap suc (f refl)
under_same (suc d) t u f = refl

-- where the k lowest digits are not all 0, those above do not matter
trailing_low : (j k a r : ℕ) → r ≢ 0 → r < 2 ^ k → count_trailing_zeros (k + j) (a * 2 ^ k + r) ≡ count_trailing_zeros k r
unfolding count_trailing_zeros
trailing_low j zero a r z h = absurd (z (omega arith))
trailing_low j (suc k) a r z h =
    let l : r < 2 ^ k * 2 = rw (pow-suc 2 k) at h in
    ap (λ (m : ℕ). count_trailing_zeros m (a * 2 ^ suc k + r)) (suc-add k j)
    ∙ ap₂ (λ (x y : ℕ). under x (count_trailing_zeros (k + j) y)) (block_odd a k r) (block_half a k r)
    ∙ under_same (r % 2) (count_trailing_zeros (k + j) (a * 2 ^ k + r / 2)) (count_trailing_zeros k (r / 2)) (λ e. trailing_low j k a (r / 2) (λ q. z (omega arith)) (omega arith))

-- where they are, the count goes on above
trailing_high : (j k a : ℕ) → count_trailing_zeros (k + j) (a * 2 ^ k) ≡ k + count_trailing_zeros j a
unfolding count_trailing_zeros
trailing_high j zero a = ap₂ count_trailing_zeros (zero-add j) (mul-one a) ∙ sym (zero-add (count_trailing_zeros j a))
trailing_high j (suc k) a =
    ap (λ (m : ℕ). count_trailing_zeros m (a * 2 ^ suc k)) (suc-add k j)
    ∙ ap₂ (λ (x y : ℕ). under x (count_trailing_zeros (k + j) y)) (shifted_even a k) (shifted_half a k)
    ∙ ap suc (trailing_high j k a) ∙ sym (suc-add k (count_trailing_zeros j a))

module _ (h l : ℕ) where
  pub some_high : h * 2 ^ 64 + l ≢ 0 → l ≡ 0 → h ≢ 0
  some_high z e f = z (omega arith)

  pub lowest_high : h * 2 ^ 64 + l ≢ 0 → l ≡ 0 → h < 2 ^ 64 → (64 + count_trailing_zeros 64 h < 128) × (64 + count_trailing_zeros 64 h ≡ count_trailing_zeros 128 (h * 2 ^ 64 + l))
  lowest_high z e b =
      let f : h * 2 ^ 64 ≡ h * 2 ^ 64 + l = omega arith in
      (omega (arith, (lowest 64 h (some_high z e) b).0), sym (trailing_high 64 64 h) ∙ ap (count_trailing_zeros 128) f)

  pub lowest_low : l ≢ 0 → l < 2 ^ 64 → (count_trailing_zeros 64 l < 128) × (count_trailing_zeros 64 l ≡ count_trailing_zeros 128 (h * 2 ^ 64 + l))
  lowest_low z a = (omega (arith, (lowest 64 l z a).0), sym (trailing_low 64 64 h l z a))

-- ---- all set digits but the lowest

pub rest_low : (h l : ℕ) → l ≢ 0 → l < 2 ^ 64 → h * 2 ^ 64 + bit_and l (l - 1) ≡ bit_and (h * 2 ^ 64 + l) (h * 2 ^ 64 + l - 1)
rest_low h l z a =
    let e : h * 2 ^ 64 + l - 1 ≡ h * 2 ^ 64 + (l - 1) = omega (arith, z) in
    sym (ap (bit_and (h * 2 ^ 64 + l)) e ∙ and_block 64 h h l (l - 1) a (omega arith) ∙ ap (λ (x : ℕ). x * 2 ^ 64 + bit_and l (l - 1)) (and_self h))

pub rest_high : (h l : ℕ) → h * 2 ^ 64 + l ≢ 0 → l ≡ 0 → bit_and h (h - 1) * 2 ^ 64 + 0 ≡ bit_and (h * 2 ^ 64 + l) (h * 2 ^ 64 + l - 1)
rest_high h l z n =
    let e : h * 2 ^ 64 + l - 1 ≡ (h - 1) * 2 ^ 64 + (2 ^ 64 - 1) = omega (arith, some_high h l z n) in
    let f : h * 2 ^ 64 + l ≡ h * 2 ^ 64 + 0 = omega arith in
    sym (ap₂ bit_and f e ∙ and_block 64 h (h - 1) 0 (2 ^ 64 - 1) (omega arith) (omega arith) ∙ ap (λ (x : ℕ). bit_and h (h - 1) * 2 ^ 64 + x) (and_zero_l (2 ^ 64 - 1)))
