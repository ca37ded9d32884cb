-- Powers of α: elements, never 0, periodic, and multiplying by one can be undone.
-- Assumes nothing.
use mathlib.Core.Path.{◌≡◌, sym, ap, ◌∙◌, subst}
use mathlib.Core.Logic.{◌≢◌}
use Prim.Native.Nat.{ℕ, zero, suc, ◌+◌, ◌-◌, ◌*◌, ◌/◌, ◌%◌, ◌<◌}
use native.Mathlib.Nat.{zero-add, zero-mul, suc-mul, mod-lt, div-add-mod'}
use native.Mathlib.Omega.{arith}
use lib.Bits.{bit_xor, xor_lt}
use lib.ListN.{get_or}
use Rattle.laws.proofs.Xor.{xor_eq}
use Rattle.degree.specs.declared.Degree.{Degree}
use Rattle.degree.specs.Degree.{bits, size, order}
use Rattle.field.specs.Field.{double, times_power, power}
use Rattle.field.proofs.Doubling.{times_zero, times_add, times_comm}
use Rattle.field.proofs.PowerTable.{powers_of, powers_listed}
use Rattle.field.proofs.Primitive.{primitive}

module _ (d : Degree) where
  pub times_lt : (i : ℕ) {x : ℕ} → x < size d → times_power d i x < size d
  unfolding times_power
  times_lt zero h = h
  times_lt (suc i) h = (primitive d).stays (times_lt i h)

  pub power_lt : (i : ℕ) → power d i < size d
  power_lt i = times_lt i (primitive d).more

  -- what holds of 0 and of each power holds of each element
  pub element_ind : (Q : ℕ → Type 0) → Q 0 → ((i : ℕ) → Q (power d i)) → (x : ℕ) → x < size d → Q x
  element_ind Q z p zero h = z
  element_ind Q z p (suc x) h = let i = (primitive d).found (suc x) h (omega arith) in subst Q i.2 (p i.0)

  -- multiplying by α^(n - 1) changes no element
  pub times_order : (x : ℕ) → x < size d → times_power d (order d) x ≡ x
  times_order =
      element_ind (λ (x : ℕ). times_power d (order d) x ≡ x) (times_zero d (order d))
      (λ i. times_comm d (order d) i 1 ∙ ap (times_power d i) (primitive d).closes)

  pub power_period : (i : ℕ) → power d (order d + i) ≡ power d i
  power_period i = times_add d (order d) i 1 ∙ times_order (power d i) (power_lt i)

  power_turns : (q r : ℕ) → power d (q * order d + r) ≡ power d r
  power_turns zero r = ap (λ (k : ℕ). power d k) (ap (λ (k : ℕ). k + r) (zero-mul (order d)) ∙ zero-add r)
  power_turns (suc q) r =
      let n : suc q * order d + r ≡ order d + (q * order d + r) = omega (arith, suc-mul q (order d)) in
      ap (λ (k : ℕ). power d k) n ∙ power_period (q * order d + r) ∙ power_turns q r

  -- a power looked up, whatever its exponent: tests that the checker computes use this
  abbrev pub looked_up : ℕ → ℕ
  looked_up i = get_or (powers_of d) (i % order d) 0

  pub looked_up_lem : (i : ℕ) → looked_up i ≡ power d i
  looked_up_lem i =
      let some : 0 < order d = omega (arith, (primitive d).more) in
      (powers_listed d).at (i % order d) (mod-lt i some) ∙ sym (power_turns (i / order d) (i % order d)) ∙ ap (λ (k : ℕ). power d k) (div-add-mod' i (order d))

  double_inj : {x y : ℕ} → x < size d → y < size d → double d x ≡ double d y → x ≡ y
  unfolding times_power
  double_inj {x} {y} hx hy e = sym (back x hx) ∙ ap (times_power d (order d - 1)) e ∙ back y hy
    where
      back : (x : ℕ) → x < size d → times_power d (order d - 1) (double d x) ≡ x
      back x h =
          let n : order d - 1 + 1 ≡ order d = omega (arith, (primitive d).more) in
          sym (times_add d (order d - 1) 1 x) ∙ ap (λ (k : ℕ). times_power d k x) n ∙ times_order x h

  pub times_inj : (i : ℕ) {x y : ℕ} → x < size d → y < size d → times_power d i x ≡ times_power d i y → x ≡ y
  unfolding times_power
  times_inj zero hx hy e = e
  times_inj (suc i) hx hy e = times_inj i hx hy (double_inj (times_lt i hx) (times_lt i hy) e)

  pub power_pos : (i : ℕ) → power d i ≢ 0
  power_pos i e =
      let z : ◌≡◌ {A = ℕ} 1 0 = times_inj i (primitive d).more (omega (arith, (primitive d).more)) (e ∙ sym (times_zero d i)) in
      omega arith

  pub power_cancel : (m i j : ℕ) → power d (m + i) ≡ power d (m + j) → power d i ≡ power d j
  power_cancel m i j e =
      times_inj m (power_lt i) (power_lt j) (sym (times_add d m i 1) ∙ e ∙ times_add d m j 1)

  -- different powers have a sum that is a power
  pub sum_power : (i j : ℕ) → power d i ≢ power d j → (k : ℕ) × (power d k ≡ bit_xor (power d i) (power d j))
  sum_power i j f =
      let r = (primitive d).found (bit_xor (power d i) (power d j)) (xor_lt (bits d) (power d i) (power d j) (power_lt i) (power_lt j)) (λ z. f (xor_eq z)) in
      (r.0, r.2)
