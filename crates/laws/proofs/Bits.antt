-- Words by their binary digits: what and, or, xor, complement and the count of ones do to the lowest digit and to digit k.
-- Assumes nothing.
use mathlib.Core.Path.{◌≡◌, refl, sym, ap, ◌∙◌}
use mathlib.Core.Bool.{Bool, true, false, ◌&&◌, ◌||◌, not}
use mathlib.Core.Logic.{◌⊎◌, inl, inr}
use Prim.Native.Nat.{ℕ, zero, suc, ◌+◌, ◌-◌, ◌*◌, ◌/◌, ◌%◌, ◌^◌, ◌<◌, min, max, suc-le-suc}
use native.Mathlib.Nat.{pow-suc, zero-add, zero-mul, zero-lt-suc, mul_comm, div-div-eq-div-mul, div-one, mul_assoc, mul-mod_left, le-max_left}
use native.Mathlib.Omega.{arith}
use lib.Arith.{bin_ind}
use lib.Bits.{bit_and, bit_or, bit_xor, differ, and_step, or_step, xor_step, and_shr, and_mod, or_shr, or_mod, xor_shr, xor_mod}
use lib.Count.{ones, ones_step}
use lib.Dec.{eqb}
use lib.Pow.{pow-add, shr-shr, shl-shr, field, mod-mod-pow}
use Rattle.laws.specs.Bits.{bit}
use Rattle.laws.specs.Working.Bits.{xorb, bit_at}
use Rattle.laws.proofs.Xor.{bit_ind, digit_lt}

-- ---- a word by its lowest digit and the rest

pub half_bit : (a : ℕ) (x : Bool) → (a * 2 + bit x) / 2 ≡ a
half_bit a true = omega arith
half_bit a false = omega arith

pub low_bit : (a : ℕ) (x : Bool) → (a * 2 + bit x) % 2 ≡ bit x
low_bit a true = omega arith
low_bit a false = omega arith

pub bit_lt : (x : Bool) → bit x < 2
bit_lt true = omega arith
bit_lt false = omega arith

-- a digit is the bit that says whether it is 1
pub bit_one : {c : ℕ} → c < 2 → bit (eqb c 1) ≡ c
bit_one h = bit_ind (λ (c : ℕ). bit (eqb c 1) ≡ c) refl refl h

pub split_low : (n : ℕ) → n ≡ n / 2 * 2 + bit (eqb (n % 2) 1)
split_low n = omega (arith, bit_one (digit_lt n))

min_bit : (x y : Bool) → min (bit x) (bit y) ≡ bit (x && y)
min_bit true true = refl
min_bit true false = refl
min_bit false true = refl
min_bit false false = refl

max_bit : (x y : Bool) → max (bit x) (bit y) ≡ bit (x || y)
max_bit true true = refl
max_bit true false = refl
max_bit false true = refl
max_bit false false = refl

differ_bit : (x y : Bool) → differ (bit x) (bit y) ≡ bit (xorb x y)
differ_bit true true = refl
differ_bit true false = refl
differ_bit false true = refl
differ_bit false false = refl

pub and_bits : (a b : ℕ) (x y : Bool) → bit_and (a * 2 + bit x) (b * 2 + bit y) ≡ bit_and a b * 2 + bit (x && y)
and_bits a b x y = rw (and_step (a * 2 + bit x) (b * 2 + bit y), half_bit a x, half_bit b y, low_bit a x, low_bit b y, min_bit x y)

pub or_bits : (a b : ℕ) (x y : Bool) → bit_or (a * 2 + bit x) (b * 2 + bit y) ≡ bit_or a b * 2 + bit (x || y)
or_bits a b x y = rw (or_step (a * 2 + bit x) (b * 2 + bit y), half_bit a x, half_bit b y, low_bit a x, low_bit b y, max_bit x y)

pub xor_bits : (a b : ℕ) (x y : Bool) → bit_xor (a * 2 + bit x) (b * 2 + bit y) ≡ bit_xor a b * 2 + bit (xorb x y)
xor_bits a b x y = rw (xor_step (a * 2 + bit x) (b * 2 + bit y), half_bit a x, half_bit b y, low_bit a x, low_bit b y, differ_bit x y)

pub xor_bit : (x y : Bool) → bit_xor (bit x) (bit y) ≡ bit (xorb x y)
xor_bit x y = rw (zero-mul, zero-add (bit x), zero-add (bit y), zero-add (bit (xorb x y))) at (xor_bits 0 0 x y)

-- the complement of a word of k + 1 digits
pub not_bits : (k a : ℕ) (x : Bool) → a < 2 ^ k → 2 ^ suc k - 1 - (a * 2 + bit x) ≡ (2 ^ k - 1 - a) * 2 + bit (not x)
not_bits k a true h = rw (pow-suc 2 k) (omega arith)
not_bits k a false h = rw (pow-suc 2 k) (omega arith)

pub ones_bits : (a : ℕ) (x : Bool) → ones (a * 2 + bit x) ≡ bit x + ones a
ones_bits a x = rw (ones_step (a * 2 + bit x), half_bit a x, low_bit a x)

-- a shift by one more
pub shift_more : (x k : ℕ) → x / 2 ^ suc k ≡ x / 2 / 2 ^ k
shift_more x k = ap (λ (q : ℕ). x / q) (pow-suc 2 k ∙ mul_comm (2 ^ k) 2) ∙ sym (div-div-eq-div-mul x 2 (2 ^ k))

-- ---- digit k

pub bit_at_lt : (w k : ℕ) → bit_at w k < 2
bit_at_lt w k = digit_lt (w / 2 ^ k)

pub or_at : (a b k : ℕ) → bit_at (bit_or a b) k ≡ bit_or (bit_at a k) (bit_at b k)
or_at a b k = ap (λ (x : ℕ). x % 2) (or_shr a b k) ∙ or_mod (a / 2 ^ k) (b / 2 ^ k) 1

pub xor_at : (a b k : ℕ) → bit_at (bit_xor a b) k ≡ bit_xor (bit_at a k) (bit_at b k)
xor_at a b k = ap (λ (x : ℕ). x % 2) (xor_shr a b k) ∙ xor_mod (a / 2 ^ k) (b / 2 ^ k) 1

pub and_at : (a b k : ℕ) → bit_at (bit_and a b) k ≡ bit_and (bit_at a k) (bit_at b k)
and_at a b k = ap (λ (x : ℕ). x % 2) (and_shr a b k) ∙ and_mod (a / 2 ^ k) (b / 2 ^ k) 1

-- ---- bits of a shifted word, and of a word cut

-- shifted down by j, bit k is bit j + k
pub shr_at : (w j k : ℕ) → bit_at (w / 2 ^ j) k ≡ bit_at w (j + k)
shr_at w j k = ap (λ (x : ℕ). x % 2) (shr-shr w j k)

-- shifted up by j, bit j + k is bit k
pub shl_at : (w j k : ℕ) → bit_at (w * 2 ^ j) (j + k) ≡ bit_at w k
shl_at w j k = ap (λ (x : ℕ). x % 2) (sym (shr-shr (w * 2 ^ j) j k) ∙ ap (λ (x : ℕ). x / 2 ^ k) (shl-shr w j))

-- and the bits below j are 0
pub shl_low : (w j k : ℕ) → k < j → bit_at (w * 2 ^ j) k ≡ 0
shl_low w j k h =
    let d : ℕ = j - k - 1 in
    let e : j ≡ suc d + k = omega arith in
    ap (λ (x : ℕ). w * 2 ^ x / 2 ^ k % 2) e
    ∙ ap (λ (x : ℕ). w * x / 2 ^ k % 2) (pow-add 2 (suc d) k)
    ∙ ap (λ (x : ℕ). x / 2 ^ k % 2) (sym (mul_assoc w (2 ^ suc d) (2 ^ k)))
    ∙ ap (λ (x : ℕ). x % 2) (shl-shr (w * 2 ^ suc d) k ∙ ap (λ (x : ℕ). w * x) (pow-suc 2 d) ∙ sym (mul_assoc w (2 ^ d) 2))
    ∙ mul-mod_left (w * 2 ^ d) 2

-- a word cut to n bits keeps those
pub mod_at : (w n k : ℕ) → k < n → bit_at (w % 2 ^ n) k ≡ bit_at w k
mod_at w n k h =
    let e : n ≡ n - k - 1 + 1 + k = omega arith in
    ap (λ (x : ℕ). w % 2 ^ x / 2 ^ k % 2) e ∙ ap (λ (x : ℕ). x % 2) (field w (n - k - 1 + 1) k) ∙ mod-mod-pow (w / 2 ^ k) (n - k - 1) 1

-- ---- a word is known by its bits

-- two words of n bits are the same where their bits are
pub bits_ext : (n a b : ℕ) → a < 2 ^ n → b < 2 ^ n → ((i : ℕ) → i < n → bit_at a i ≡ bit_at b i) → a ≡ b
bits_ext zero a b ha hb h = omega arith
bits_ext (suc n) a b ha hb h =
    let low : a % 2 ≡ b % 2 = rw (div-one, div-one) at (h 0 (zero-lt-suc n)) in
    let la : a < 2 ^ n * 2 = rw (pow-suc 2 n) at ha in
    let lb : b < 2 ^ n * 2 = rw (pow-suc 2 n) at hb in
    let rest : a / 2 ≡ b / 2 = bits_ext n (a / 2) (b / 2) (omega arith) (omega arith) (λ i l. next i (h (suc i) (suc-le-suc l))) in
    omega arith
  where
    next : (i : ℕ) → bit_at a (suc i) ≡ bit_at b (suc i) → bit_at (a / 2) i ≡ bit_at (b / 2) i
    next i e = rw (shift_more, shift_more) at e

-- ---- nothing is set

pub or_first : (a b : ℕ) → bit_or a b ≡ 0 → a ≡ 0
or_first =
    bin_ind (λ (a : ℕ). (b : ℕ) → bit_or a b ≡ 0 → a ≡ 0) (λ b e. refl)
    (λ a more b e.
    let s = or_step a b in
    let high = more (b / 2) (omega arith) in
    let low : a % 2 ≡ 0 = omega (arith, le-max_left (a % 2) (b % 2)) in
    omega arith)

pub or_second : (a b : ℕ) → bit_or a b ≡ 0 → b ≡ 0
or_second a b e = ap (λ (x : ℕ). bit_or x b) (sym (or_first a b e)) ∙ e

-- two bits of which not both are set
pub and_none : {a b : ℕ} → a < 2 → b < 2 → bit_and a b ≡ 0 → (a ≡ 0) ⊎ (b ≡ 0)
and_none {a} {b} ha hb =
    bit_ind (λ (a : ℕ). bit_and a b ≡ 0 → (a ≡ 0) ⊎ (b ≡ 0)) (λ z. inl refl)
    (bit_ind (λ (b : ℕ). bit_and 1 b ≡ 0 → (◌≡◌ {A = ℕ} 1 0) ⊎ (b ≡ 0)) (λ z. inr refl) (λ z. absurd (omega arith)) hb) ha
