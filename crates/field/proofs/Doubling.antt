-- Doubling is linear, for every polynomial, and so is multiplying by a power of α.
-- Assumes nothing.
use mathlib.Core.Path.{◌≡◌, refl, sym, ap, ◌∙◌}
use Prim.Native.Nat.{ℕ, zero, suc, ◌+◌, ◌*◌, ◌/◌}
use native.Mathlib.Nat.{zero-add, suc-add, add_comm}
use lib.Bits.{bit_xor, xor_shr, xor_self}
use Rattle.laws.proofs.Xor.{digit_lt, xor_digit, xor_twice, xor_scale, xors}
use Rattle.degree.specs.declared.Degree.{Degree}
use Rattle.degree.specs.Degree.{size}
use Rattle.field.specs.Field.{polynomial, double, times_power}

module _ (d : Degree) where
  pub double_xor : (x y : ℕ) → double d (bit_xor x y) ≡ bit_xor (double d x) (double d y)
  unfolding double
  double_xor x y =
      rw (xor_twice, xor_shr, xor_digit, xor_scale (polynomial d) (digit_lt (x * 2 / size d)) (digit_lt (y * 2 / size d))) (simp xors)

  pub times_xor : (i x y : ℕ) → times_power d i (bit_xor x y) ≡ bit_xor (times_power d i x) (times_power d i y)
  unfolding times_power
  times_xor zero x y = refl
  times_xor (suc i) x y = ap (double d) (times_xor i x y) ∙ double_xor (times_power d i x) (times_power d i y)

  pub times_zero : (i : ℕ) → times_power d i 0 ≡ 0
  times_zero i = times_xor i 0 0 ∙ xor_self (times_power d i 0)

  pub double_zero : double d 0 ≡ 0
  unfolding times_power
  double_zero = times_zero 1

  -- α^(i + j) x is α^i (α^j x)
  pub times_add : (i j x : ℕ) → times_power d (i + j) x ≡ times_power d i (times_power d j x)
  unfolding times_power
  times_add zero j x = ap (λ (k : ℕ). times_power d k x) (zero-add j)
  times_add (suc i) j x = ap (λ (k : ℕ). times_power d k x) (suc-add i j) ∙ ap (double d) (times_add i j x)

  pub times_comm : (i j x : ℕ) → times_power d i (times_power d j x) ≡ times_power d j (times_power d i x)
  times_comm i j x = sym (times_add i j x) ∙ ap (λ (k : ℕ). times_power d k x) (add_comm i j) ∙ times_add j i x
