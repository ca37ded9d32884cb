-- The weight of a cell, read: what it is below n - 1, at n - 1 and past it, and that a sum of weights holds the three check
-- sums side by side.
-- Assumes nothing.
use mathlib.Core.Path.{◌≡◌, refl, ap, ap₂, ◌∙◌}
use mathlib.Core.Logic.{dite}
use mathlib.Core.List.{List}
use Prim.Native.Nat.{ℕ, ◌+◌, ◌*◌, ◌/◌, ◌%◌, ◌≤◌, ◌<◌}
use native.Mathlib.Nat.{add-zero}
use native.Mathlib.Decide.{dec_lt}
use native.Mathlib.Omega.{arith}
use lib.Bits.{bit_xor}
use lib.ListN.{take}
use Rattle.degree.specs.declared.Degree.{Degree}
use Rattle.degree.specs.Degree.{bits, size, order}
use Rattle.field.specs.Field.{power}
use Rattle.laws.specs.Digits.{sum_over}
use Rattle.laws.specs.Working.Digits.{up_to}
use Rattle.field.specs.Syndrome.{s1, s3, parity}
use Rattle.field.specs.Working.Tables.{weight}
use Rattle.field.proofs.Primitive.{primitive}
use Rattle.field.proofs.Powers.{power_lt}
use Rattle.laws.proofs.DigitSums.{sum_lt, xor_pair, sum_pair, sum_ones, up_to_below, up_to_past, sum_up_to}

module _ (d : Degree) where
  -- an element has at most 7 binary digits
  pub power_small : (i : ℕ) → power d i < 128
  power_small i = omega (arith, power_lt d i, (primitive d).room)

  -- ---- one weight

  -- a cell below n - 1 counts for all three sums
  pub weight_below : (i : ℕ) → i < order d → weight d i ≡ power d i + 128 * (power d (3 * i) + 128)
  unfolding weight
  weight_below i h =
      rw (
        up_to_below (order d) (λ i. power d i) i h,
        up_to_below (order d) (λ i. power d (3 * i)) i h,
        up_to_below (size d) (λ i. 1) i (omega arith),
      ) refl

  -- cell n - 1 counts for the parity alone
  pub weight_last : weight d (order d) ≡ 16384
  unfolding weight
  weight_last =
      let l : order d < size d = omega (arith, (primitive d).more) in
      rw (
        up_to_past (order d) (λ i. power d i) (order d) (omega arith),
        up_to_past (order d) (λ i. power d (3 * i)) (order d) (omega arith),
        up_to_below (size d) (λ i. 1) (order d) l,
      ) refl

  -- a cell past a word of this degree does not count
  pub weight_past : (i : ℕ) → size d ≤ i → weight d i ≡ 0
  unfolding weight
  weight_past i h =
      rw (
        up_to_past (order d) (λ i. power d i) i (omega arith),
        up_to_past (order d) (λ i. power d (3 * i)) i (omega arith),
        up_to_past (size d) (λ i. 1) i h,
      ) refl

  -- the two powers that a weight holds
  pub weight_power : (i : ℕ) → i < order d → weight d i % 128 ≡ power d i
  weight_power i h = rw (weight_below i h) (omega (arith, power_small i))

  pub weight_cube : (i : ℕ) → i < order d → weight d i / 128 % 128 ≡ power d (3 * i)
  weight_cube i h = rw (weight_below i h) (omega (arith, power_small i, power_small (3 * i)))

  -- two weights added: the parity is gone
  pub weight_two : (i j : ℕ) → i < order d → j < order d
      → bit_xor (weight d i) (weight d j) ≡ bit_xor (power d i) (power d j) + 128 * bit_xor (power d (3 * i)) (power d (3 * j))
  weight_two i j hi hj =
      let even : bit_xor (power d (3 * i) + 128) (power d (3 * j) + 128) ≡ bit_xor (power d (3 * i)) (power d (3 * j)) =
      xor_pair 1 1 (power_small (3 * i)) (power_small (3 * j)) ∙ add-zero (bit_xor (power d (3 * i)) (power d (3 * j))) in
      rw (weight_below i hi, weight_below j hj)
      (xor_pair (power d (3 * i) + 128) (power d (3 * j) + 128) (power_small i) (power_small j)
      ∙ ap (λ (x : ℕ). bit_xor (power d i) (power d j) + 128 * x) even)

  -- ---- a sum of weights

  -- the first two check sums are elements
  pub s1_lt : (cells : List ℕ) → s1 d cells < size d
  s1_lt cells = sum_lt (bits d) (λ i. power d i) (λ i. power_lt d i) (take (order d) cells)

  pub s3_lt : (cells : List ℕ) → s3 d cells < size d
  s3_lt cells = sum_lt (bits d) (λ i. power d (3 * i)) (λ i. power_lt d (3 * i)) (take (order d) cells)

  -- a section has 7 binary digits
  small : (m : ℕ) (f : ℕ → ℕ) → ((i : ℕ) → f i < 128) → (i : ℕ) → up_to m f i < 128
  small m f h i =
      dite (dec_lt i m) (λ l. rw (up_to_below m f i l) (omega (arith, h i))) (λ l. rw (up_to_past m f i (omega arith)) (omega arith))

  -- the three check sums side by side
  pub weight_sum : (cells : List ℕ) → sum_over (λ i. weight d i) cells ≡ s1 d cells + 128 * (s3 d cells + 128 * parity d cells)
  unfolding weight
  weight_sum cells =
      let p = up_to (order d) (λ i. power d i) in
      let c = up_to (order d) (λ i. power d (3 * i)) in
      let e = up_to (size d) (λ i. 1) in
      sum_pair p (λ i. c i + 128 * e i) (small (order d) (λ i. power d i) power_small) cells
      ∙ ap₂ (λ (x y : ℕ). x + 128 * y) (sum_up_to (order d) (λ i. power d i) cells)
      (sum_pair c e (small (order d) (λ i. power d (3 * i)) (λ i. power_small (3 * i))) cells
      ∙ ap₂ (λ (x y : ℕ). x + 128 * y) (sum_up_to (order d) (λ i. power d (3 * i)) cells)
      (sum_up_to (size d) (λ i. 1) cells ∙ sum_ones (take (size d) cells)))
