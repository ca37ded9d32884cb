-- The product of two elements: a ring with no zero divisors, and α^i y is the product of α^i and y.
-- Assumes nothing.
use mathlib.Core.Path.{◌≡◌, refl, sym, ap, ◌∙◌}
use mathlib.Core.Logic.{◌⊎◌, inl, inr}
use Prim.Native.Nat.{ℕ, zero, suc, ◌+◌, ◌*◌, ◌/◌, ◌%◌, ◌^◌, ◌<◌}
use native.Mathlib.Nat.{zero-mul, one-mul, pow-suc, div-lt_iff_lt-mul, zero-lt-suc, mul-mod_left, mul-div_cancel}
use native.Mathlib.Omega.{arith}
use lib.Arith.{lt-one}
use lib.Bits.{bit_xor, xor_self, xor_zero_r, xor_shr}
use Rattle.laws.proofs.Xor.{xors, bit_ind, digit_lt, xor_digit, xor_scale, scale_xor}
use Rattle.degree.specs.declared.Degree.{Degree}
use Rattle.degree.specs.Degree.{bits, size}
use Rattle.field.specs.Field.{polynomial, double, times_power, power}
use Rattle.field.specs.Working.Products.{product_of, product}
use Rattle.field.proofs.Doubling.{double_xor, double_zero, times_zero, times_add, times_comm}
use Rattle.field.proofs.Primitive.{primitive}
use Rattle.field.proofs.Powers.{element_ind, times_lt, times_inj, power_lt}

module _ (d : Degree) where
  -- ---- the product distributes over sums, on both sides

  distribute_left : (k x y z : ℕ) → product_of d k (bit_xor x y) z ≡ bit_xor (product_of d k x z) (product_of d k y z)
  unfolding product_of
  distribute_left zero x y z = refl
  distribute_left (suc k) x y z =
      rw (xor_digit, xor_scale z (digit_lt x) (digit_lt y), xor_shr x y 1, distribute_left k (x / 2) (y / 2) (double d z)) (simp xors)

  distribute_right : (k x y z : ℕ) → product_of d k x (bit_xor y z) ≡ bit_xor (product_of d k x y) (product_of d k x z)
  unfolding product_of
  distribute_right zero x y z = refl
  distribute_right (suc k) x y z =
      rw (double_xor, scale_xor y z (digit_lt x), distribute_right k (x / 2) (double d y) (double d z)) (simp xors)

  pub product_xor_left : (x y z : ℕ) → product d (bit_xor x y) z ≡ bit_xor (product d x z) (product d y z)
  product_xor_left = distribute_left (bits d)

  pub product_xor_right : (x y z : ℕ) → product d x (bit_xor y z) ≡ bit_xor (product d x y) (product d x z)
  product_xor_right = distribute_right (bits d)

  zero_left : (k y : ℕ) → product_of d k 0 y ≡ 0
  zero_left k y = distribute_left k 0 0 y ∙ xor_self (product_of d k 0 y)

  zero_right : (k x : ℕ) → product_of d k x 0 ≡ 0
  zero_right k x = distribute_right k x 0 0 ∙ xor_self (product_of d k x 0)

  pub product_zero_left : (y : ℕ) → product d 0 y ≡ 0
  product_zero_left = zero_left (bits d)

  pub product_zero_right : (x : ℕ) → product d x 0 ≡ 0
  product_zero_right = zero_right (bits d)

  -- ---- a factor α goes through

  scale_double : {s : ℕ} (y : ℕ) → s < 2 → s * double d y ≡ double d (s * y)
  scale_double y h =
      bit_ind (λ (s : ℕ). s * double d y ≡ double d (s * y)) (simp zero-mul (sym (double_zero d))) (simp one-mul) h

  double_right : (k x y : ℕ) → product_of d k x (double d y) ≡ double d (product_of d k x y)
  unfolding product_of
  double_right zero x y = sym (double_zero d)
  double_right (suc k) x y = rw (double_xor, scale_double y (digit_lt x), double_right k (x / 2) (double d y)) refl

  times_right : (k x i y : ℕ) → product_of d k x (times_power d i y) ≡ times_power d i (product_of d k x y)
  unfolding times_power
  times_right k x zero y = refl
  times_right k x (suc i) y = double_right k x (times_power d i y) ∙ ap (double d) (times_right k x i y)

  -- a digit past those of x makes no difference
  more_digits : (k x y : ℕ) → x < 2 ^ k → product_of d (suc k) x y ≡ product_of d k x y
  unfolding product_of
  more_digits zero x y h = rw (lt-one h) (simp zero-mul)
  more_digits (suc k) x y h =
      ap (bit_xor (x % 2 * y)) (more_digits k (x / 2) (double d y) ((div-lt_iff_lt-mul (zero-lt-suc 1)).1 (rw (← pow-suc 2 k) h)))

  -- the polynomial is 0 at α, so it is 0 as a factor
  polynomial_zero : (y : ℕ) → y < size d → product_of d (suc (bits d)) (polynomial d) y ≡ 0
  polynomial_zero =
      element_ind d (λ (y : ℕ). product_of d (suc (bits d)) (polynomial d) y ≡ 0) (zero_right (suc (bits d)) (polynomial d))
      (λ i. times_right (suc (bits d)) (polynomial d) i 1 ∙ ap (times_power d i) (primitive d).root ∙ times_zero d i)

  carry_zero : {s : ℕ} (y : ℕ) → y < size d → s < 2 → product_of d (suc (bits d)) (s * polynomial d) y ≡ 0
  carry_zero y h hs =
      bit_ind (λ (s : ℕ). product_of d (suc (bits d)) (s * polynomial d) y ≡ 0) (simp zero-mul (zero_left (suc (bits d)) y))
      (simp one-mul (polynomial_zero y h)) hs

  double_left : (x y : ℕ) → x < size d → y < size d → product d (double d x) y ≡ double d (product d x y)
  unfolding product_of double
  double_left x y hx hy =
      sym (more_digits (bits d) (double d x) y ((primitive d).stays hx))
      ∙ distribute_left (suc (bits d)) (x * 2) (x * 2 / size d % 2 * polynomial d) y
      ∙ rw (carry_zero y hy (digit_lt (x * 2 / size d)), xor_zero_r, mul-mod_left x 2, zero-mul, mul-div_cancel x (zero-lt-suc 1)) (double_right (bits d) x y)

  one_left : (y : ℕ) → product d 1 y ≡ y
  unfolding product_of
  one_left y = sym (more_digits (bits d) 1 y (primitive d).more) ∙ rw (one-mul, zero_left (bits d) (double d y), xor_zero_r) refl

  -- the product with a power of α
  pub product_power : (i y : ℕ) → y < size d → product d (power d i) y ≡ times_power d i y
  unfolding times_power
  product_power zero y h = one_left y
  product_power (suc i) y h = double_left (power d i) y (power_lt d i) h ∙ ap (double d) (product_power i y h)

  -- so powers multiply by adding their exponents
  pub product_powers : (i j : ℕ) → product d (power d i) (power d j) ≡ power d (i + j)
  product_powers i j = product_power i (power d j) (power_lt d j) ∙ sym (times_add d i j 1)

  -- ---- the laws of a field

  pub product_lt : (x y : ℕ) → x < size d → y < size d → product d x y < size d
  product_lt x y hx hy =
      element_ind d (λ (x : ℕ). product d x y < size d) (rw zero_left (omega (arith, (primitive d).more)))
      (λ i. rw (product_power i y hy) (times_lt d i hy)) x hx

  pub product_comm : (x y : ℕ) → x < size d → y < size d → product d x y ≡ product d y x
  product_comm x y hx hy =
      element_ind d (λ (x : ℕ). product d x y ≡ product d y x) (product_zero_left y ∙ sym (product_zero_right y))
      (λ i. product_power i y hy ∙ element_ind d (λ (y : ℕ). times_power d i y ≡ product d y (power d i)) (times_zero d i ∙ sym (product_zero_left (power d i)))
      (λ j. times_comm d i j 1 ∙ sym (product_power j (power d i) (power_lt d i))) y hy) x hx

  pub product_assoc : (x y z : ℕ) → x < size d → y < size d → z < size d → product d (product d x y) z ≡ product d x (product d y z)
  product_assoc x y z hx hy hz =
      element_ind d (λ (x : ℕ). product d (product d x y) z ≡ product d x (product d y z)) (rw (zero_left, zero_left, zero_left) refl)
      (λ i. ap (λ (w : ℕ). product d w z) (product_power i y hy)
      ∙ element_ind d (λ (y : ℕ). product d (times_power d i y) z ≡ times_power d i (product d y z)) (rw (times_zero, zero_left, times_zero) refl)
      (λ j. ap (λ (w : ℕ). product d w z) (sym (times_add d i j 1)) ∙ product_power (i + j) z hz ∙ times_add d i j z
      ∙ ap (times_power d i) (sym (product_power j z hz))) y hy
      ∙ sym (product_power i (product d y z) (product_lt y z hy hz))) x hx

  pub no_zero_divisors : (x y : ℕ) → x < size d → y < size d → product d x y ≡ 0 → (x ≡ 0) ⊎ (y ≡ 0)
  no_zero_divisors x y hx hy =
      element_ind d (λ (x : ℕ). product d x y ≡ 0 → (x ≡ 0) ⊎ (y ≡ 0)) (λ e. inl refl)
      (λ i e. inr (times_inj d i hy (omega (arith, (primitive d).more)) (sym (product_power i y hy) ∙ e ∙ sym (times_zero d i)))) x hx
