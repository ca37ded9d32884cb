-- Sums by exclusive or: the laws that the library's `Bits` leaves out.
-- Assumes nothing.
use mathlib.Core.Path.{◌≡◌, refl, sym, ap, ap₂, ◌∙◌}
use Prim.Native.Nat.{ℕ, zero, suc, ◌+◌, ◌*◌, ◌/◌, ◌%◌, ◌<◌}
use native.Mathlib.Nat.{mod-lt, zero-lt-suc, not-suc-le-zero, le_of_suc-le-suc, add-zero, zero-mul, one-mul}
use native.Mathlib.Omega.{arith}
use lib.Arith.{bin_ind}
use lib.Bits.{bit_xor, differ, xor_step, xor_shr, xor_mod, xor_comm, xor_self, xor_zero_r, xor_block}
use lib.Pow.{pow_pos}

-- what holds of 0 and of 1 holds of a bit
pub bit_ind {ℓ} : (P : ℕ → Type ℓ) → P 0 → P 1 → {x : ℕ} → x < 2 → P x
bit_ind P a b {x = zero} h = a
bit_ind P a b {x = suc zero} h = b
bit_ind P a b {x = suc (suc x)} h = absurd (not-suc-le-zero (le_of_suc-le-suc (le_of_suc-le-suc h)))

-- a lowest digit is a bit
pub digit_lt : (n : ℕ) → n % 2 < 2
digit_lt n = mod-lt n (zero-lt-suc 1)

-- the lowest digit of a sum
pub xor_digit : (a b : ℕ) → bit_xor a b % 2 ≡ differ (a % 2) (b % 2)
xor_digit a b =
    xor_mod a b 1
    ∙ bit_ind (λ (x : ℕ). bit_xor x (b % 2) ≡ differ x (b % 2)) refl (bit_ind (λ (y : ℕ). bit_xor 1 y ≡ differ 1 y) refl refl (digit_lt b)) (digit_lt a)

differ_assoc : {x y z : ℕ} → x < 2 → y < 2 → z < 2 → differ (differ x y) z ≡ differ x (differ y z)
differ_assoc {y} {z} hx hy hz =
    bit_ind (λ (x : ℕ). differ (differ x y) z ≡ differ x (differ y z)) refl
    (bit_ind (λ (y : ℕ). differ (differ 1 y) z ≡ differ 1 (differ y z)) refl (bit_ind (λ (z : ℕ). z ≡ differ 1 (differ 1 z)) refl refl hz) hy) hx

pub xor_assoc : (a b c : ℕ) → bit_xor (bit_xor a b) c ≡ bit_xor a (bit_xor b c)
xor_assoc =
    bin_ind (λ (n : ℕ). (b c : ℕ) → bit_xor (bit_xor n b) c ≡ bit_xor n (bit_xor b c)) (λ b c. refl)
    (λ n ih b c.
    xor_step (bit_xor n b) c
    ∙ ap₂ (λ (x y : ℕ). bit_xor x (c / 2) * 2 + differ y (c % 2)) (xor_shr n b 1) (xor_digit n b)
    ∙ ap₂ (λ (x y : ℕ). x * 2 + y) (ih (b / 2) (c / 2)) (differ_assoc (digit_lt n) (digit_lt b) (digit_lt c))
    ∙ ap₂ (λ (x y : ℕ). bit_xor (n / 2) x * 2 + differ (n % 2) y) (sym (xor_shr b c 1)) (sym (xor_digit b c))
    ∙ sym (xor_step n (bit_xor b c)))

pub xor_left_comm : (a b c : ℕ) → bit_xor a (bit_xor b c) ≡ bit_xor b (bit_xor a c)
xor_left_comm a b c = sym (xor_assoc a b c) ∙ ap (λ (x : ℕ). bit_xor x c) (xor_comm a b) ∙ xor_assoc b a c

-- a term added twice is gone
pub xor_cancel : (a b : ℕ) → bit_xor a (bit_xor a b) ≡ b
xor_cancel a b = sym (xor_assoc a a b) ∙ ap (λ (x : ℕ). bit_xor x b) (xor_self a)

-- a digit and 1
pub xor_one : (x : ℕ) → bit_xor (x % 2) 1 ≡ (x + 1) % 2
xor_one x =
    let s : bit_xor (x % 2) 1 ≡ (x % 2 + 1) % 2 = bit_ind (λ (b : ℕ). bit_xor b 1 ≡ (b + 1) % 2) refl refl (digit_lt x) in
    omega arith

-- `simp xors` sorts a sum and leaves out what stands twice
pub ruleset xors = (xor_assoc, xor_comm, xor_left_comm, xor_cancel, xor_self, xor_zero_r)

-- a sum of two is 0 for equal terms alone
pub xor_eq : {a b : ℕ} → bit_xor a b ≡ 0 → a ≡ b
xor_eq {a} {b} e = sym (xor_zero_r a) ∙ ap (bit_xor a) (sym e) ∙ xor_cancel a b

-- equal sums with one equal term have the other term equal
pub xor_inj : (a : ℕ) {b c : ℕ} → bit_xor a b ≡ bit_xor a c → b ≡ c
xor_inj a {b} {c} e = sym (xor_cancel a b) ∙ ap (bit_xor a) e ∙ xor_cancel a c

-- a shift by one is linear
pub xor_twice : (x y : ℕ) → bit_xor x y * 2 ≡ bit_xor (x * 2) (y * 2)
xor_twice x y = sym (simp add-zero at (xor_block 1 x y 0 0 (pow_pos 1) (pow_pos 1)))

-- so is the choice of a number by a bit
pub xor_scale : (m : ℕ) {s t : ℕ} → s < 2 → t < 2 → differ s t * m ≡ bit_xor (s * m) (t * m)
xor_scale m {t} hs ht =
    bit_ind (λ (s : ℕ). differ s t * m ≡ bit_xor (s * m) (t * m)) (simp zero-mul)
    (bit_ind (λ (t : ℕ). differ 1 t * m ≡ bit_xor (1 * m) (t * m)) (simp (zero-mul, xor_zero_r)) (simp (zero-mul, xor_self)) ht) hs

pub scale_xor : {s : ℕ} (x y : ℕ) → s < 2 → s * bit_xor x y ≡ bit_xor (s * x) (s * y)
scale_xor x y h = bit_ind (λ (s : ℕ). s * bit_xor x y ≡ bit_xor (s * x) (s * y)) (simp zero-mul) (simp one-mul) h
