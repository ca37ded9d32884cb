-- Linear maps: sums by exclusive or over the cells that hold 1, over the binary digits of a number and over the numbers below
-- a bound, and words as numbers.
-- Assumes nothing.
use mathlib.Core.Path.{◌≡◌, refl, sym, ap, ap₂, ◌∙◌}
use mathlib.Core.Bool.{Bool, true, false}
use mathlib.Core.List.{List, [], ◌∷◌, ◌++◌}
use Prim.Native.Nat.{ℕ, zero, suc, ◌+◌, ◌*◌, ◌/◌, ◌%◌, ◌^◌, ◌<◌}
use native.Mathlib.Nat.{zero-mul, one-mul, mul-zero, mul-one, pow-suc, div-lt_iff_lt-mul, zero-lt-suc, add-zero, mul_comm, mul-mod_left, mul-div_cancel, div-one}
use native.Mathlib.Omega.{arith}
use lib.Arith.{lt-one}
use lib.Pow.{pow_pos, pow-add}
use lib.Bits.{bit_xor, xor_zero_r, xor_self, xor_shr, xor_mod, xor_block, xor_comm, xor_shifted}
use lib.Dec.{eqb}
use lib.ListN.{length, get_or}
use Rattle.laws.specs.Bits.{bit}
use Rattle.laws.specs.Working.Bits.{bit_at}
use Rattle.laws.proofs.Bits.{bit_lt, bit_one, shift_more}
use Rattle.laws.proofs.Xor.{xors, bit_ind, digit_lt, xor_digit, xor_assoc, xor_scale, scale_xor}
use Rattle.laws.specs.Working.Sums.{xor_to}
use Rattle.laws.specs.Digits.{sum_over, digits}
use Rattle.laws.specs.Working.Digits.{pack}
use Rattle.laws.proofs.DigitSums.{sum_cong, sum_zero, sum_lt, sum_append, digits_length}

-- 1 for a cell that holds 1
abbrev pub one : ℕ → ℕ
one c = bit (eqb c 1)

pub one_lt : (c : ℕ) → one c < 2
one_lt c = bit_lt (eqb c 1)

-- a digit counts as it is
pub one_digit : (x : ℕ) → one (x % 2) ≡ x % 2
one_digit x = bit_one (digit_lt x)

-- a sum by its first cell and the others
pub sum_step : (f : ℕ → ℕ) (c : ℕ) (cs : List ℕ) → sum_over f (c ∷ cs) ≡ bit_xor (one c * f 0) (sum_over (λ i. f (suc i)) cs)
unfolding sum_over
sum_step f c cs = ap (λ (x : ℕ). bit_xor x (sum_over (λ i. f (suc i)) cs)) (pick (eqb c 1))
  where
    pick : (b : Bool) → elim b [ true ↦ f 0 | false ↦ 0 ] ≡ bit b * f 0
    pick true = sym (one-mul (f 0))
    pick false = sym (zero-mul (f 0))

-- ---- maps that keep sums

pub record Additive (g : ℕ → ℕ) : Type 0 where
  pub keeps : (x y : ℕ) → g (bit_xor x y) ≡ bit_xor (g x) (g y)

pub zero_at : {g : ℕ → ℕ} → Additive g → g 0 ≡ 0
zero_at {g} a = a.keeps 0 0 ∙ xor_self (g 0)

scale_at : {g : ℕ → ℕ} → Additive g → {s : ℕ} (x : ℕ) → s < 2 → g (s * x) ≡ s * g x
scale_at {g} a x h = bit_ind (λ (s : ℕ). g (s * x) ≡ s * g x) (simp zero-mul (zero_at a)) (simp one-mul) h

-- such a map of a sum is the sum of what it gives
pub sum_map : (g f : ℕ → ℕ) (w : List ℕ) → Additive g → g (sum_over f w) ≡ sum_over (λ i. g (f i)) w
unfolding sum_over
sum_map g f [] a = zero_at a
sum_map g f (c ∷ cs) a =
    ap g (sum_step f c cs) ∙ a.keeps (one c * f 0) (sum_over (λ i. f (suc i)) cs)
    ∙ ap₂ bit_xor (scale_at a (f 0) (one_lt c)) (sum_map g (λ i. f (suc i)) cs a) ∙ sym (sum_step (λ i. g (f i)) c cs)

pub then_adds : {g h : ℕ → ℕ} → Additive g → Additive h → Additive (λ x. g (h x))
then_adds {g} {h} a b = record { keeps = λ x y. ap g (b.keeps x y) ∙ a.keeps (h x) (h y) }

pub times_adds : {s : ℕ} → s < 2 → Additive (λ x. x * s)
times_adds h =
    bit_ind (λ (s : ℕ). Additive (λ x. x * s)) (record { keeps = λ x y. simp mul-zero }) (record { keeps = λ x y. simp mul-one }) h

pub shift_adds : (k : ℕ) → Additive (λ x. x * 2 ^ k)
shift_adds k = record { keeps = λ x y. sym (simp (add-zero, xor_zero_r) at (xor_block k x y 0 0 (pow_pos k) (pow_pos k))) }

pub digit_adds : (i : ℕ) → Additive (λ x. bit_at x i)
digit_adds i = record { keeps = λ x y. ap (λ (z : ℕ). z % 2) (xor_shr x y i) ∙ xor_mod (x / 2 ^ i) (y / 2 ^ i) 1 }

-- ---- sums over the binary digits of a number

abbrev pub sum_digits : (ℕ → ℕ) → ℕ → ℕ → ℕ
sum_digits f k x = sum_over f (digits k x)

pub digits_step : (f : ℕ → ℕ) (k x : ℕ) → sum_digits f (suc k) x ≡ bit_xor (x % 2 * f 0) (sum_digits (λ i. f (suc i)) k (x / 2))
unfolding digits
digits_step f k x =
    sum_step f (x % 2) (digits k (x / 2)) ∙ ap (λ (b : ℕ). bit_xor (b * f 0) (sum_digits (λ i. f (suc i)) k (x / 2))) (one_digit x)

digits_xor : (f : ℕ → ℕ) (k x y : ℕ) → sum_digits f k (bit_xor x y) ≡ bit_xor (sum_digits f k x) (sum_digits f k y)
unfolding sum_over digits
digits_xor f zero x y = refl
digits_xor f (suc k) x y =
    digits_step f k (bit_xor x y)
    ∙ rw (xor_digit, xor_scale (f 0) (digit_lt x) (digit_lt y), xor_shr x y 1, digits_xor (λ i. f (suc i)) k (x / 2) (y / 2), digits_step f k x, digits_step f k y) (simp xors)

pub digits_adds : (f : ℕ → ℕ) (k : ℕ) → Additive (sum_digits f k)
digits_adds f k = record { keeps = digits_xor f k }

-- the sum over one digit alone
pub digits_power : (f : ℕ → ℕ) (k a : ℕ) → a < k → sum_digits f k (2 ^ a) ≡ f a
digits_power f zero a h = absurd (omega arith)
digits_power f (suc k) zero h =
    digits_step f k 1 ∙ ap₂ bit_xor (one-mul (f 0)) (zero_at (digits_adds (λ i. f (suc i)) k)) ∙ xor_zero_r (f 0)
digits_power f (suc k) (suc a) h =
    let o : 2 ^ suc a % 2 ≡ 0 = ap (λ (x : ℕ). x % 2) (pow-suc 2 a) ∙ mul-mod_left (2 ^ a) 2 in
    let d : 2 ^ suc a / 2 ≡ 2 ^ a = ap (λ (x : ℕ). x / 2) (pow-suc 2 a) ∙ mul-div_cancel (2 ^ a) (zero-lt-suc 1) in
    digits_step f k (2 ^ suc a) ∙ rw (o, d, zero-mul) (digits_power (λ i. f (suc i)) k a (omega arith))

pub digits_bits : (k x i : ℕ) → get_or (digits k x) i 0 < 2
unfolding digits
digits_bits zero x i = omega arith
digits_bits (suc k) x zero = digit_lt x
digits_bits (suc k) x (suc i) = digits_bits k (x / 2) i

pub digits_at : (k x i : ℕ) → i < k → get_or (digits k x) i 0 ≡ bit_at x i
unfolding digits
digits_at zero x i h = absurd (omega arith)
digits_at (suc k) x zero h = ap (λ (y : ℕ). y % 2) (sym (div-one x))
digits_at (suc k) x (suc i) h = digits_at k (x / 2) i (omega arith) ∙ ap (λ (y : ℕ). y % 2) (sym (shift_more x i))

-- ---- words as numbers

pub pack_step : (c : ℕ) (cs : List ℕ) → pack (c ∷ cs) ≡ pack cs * 2 + one c
pack_step c cs =
    let e : sum_over (λ i. 2 ^ suc i) cs ≡ pack cs * 2 =
    sum_cong (λ i. 2 ^ suc i) (λ i. 2 ^ i * 2) cs (λ i q. pow-suc 2 i) ∙ sym (sum_map (λ x. x * 2) (λ i. 2 ^ i) cs (shift_adds 1)) in
    sum_step (λ i. 2 ^ i) c cs ∙ ap₂ bit_xor (mul-one (one c)) e ∙ xor_comm (one c) (pack cs * 2) ∙ xor_shifted (pack cs) 1 (one c) (one_lt c)

pub pack_digits : (k x : ℕ) → x < 2 ^ k → pack (digits k x) ≡ x
unfolding digits sum_over
pack_digits zero x h = sym (lt-one h)
pack_digits (suc k) x h =
    pack_step (x % 2) (digits k (x / 2))
    ∙ rw (one_digit, pack_digits k (x / 2) ((div-lt_iff_lt-mul (zero-lt-suc 1)).1 (rw (← pow-suc 2 k) h))) (omega arith)

pub digits_pack : (w : List ℕ) → ((i : ℕ) → get_or w i 0 < 2) → digits (length w) (pack w) ≡ w
unfolding digits
digits_pack [] h = refl
digits_pack (c ∷ cs) h =
    let l : c < 2 = h 0 in
    let o : one c ≡ c = bit_one l in
    let low : pack (c ∷ cs) % 2 ≡ c = rw (pack_step c cs, o) (omega arith) in
    let rest : pack (c ∷ cs) / 2 ≡ pack cs = rw (pack_step c cs, o) (omega arith) in
    ap₂ ◌∷◌ low (ap (digits (length cs)) rest ∙ digits_pack cs (λ i. h (suc i)))

pub pack_lt : (w : List ℕ) → pack w < 2 ^ length w
unfolding sum_over
pack_lt [] = omega arith
pack_lt (c ∷ cs) = rw (pack_step c cs, pow-suc 2 (length cs)) (omega (arith, pack_lt cs, one_lt c))

pub pack_append : (a b : List ℕ) → pack (a ++ b) ≡ pack b * 2 ^ length a + pack a
pack_append a b =
    sum_append (λ i. 2 ^ i) a b
    ∙ ap (bit_xor (pack a)) (sum_cong (λ i. 2 ^ (length a + i)) (λ i. 2 ^ i * 2 ^ length a) b (λ i q. pow-add 2 (length a) i ∙ mul_comm (2 ^ length a) (2 ^ i))
    ∙ sym (sum_map (λ x. x * 2 ^ length a) (λ i. 2 ^ i) b (shift_adds (length a))))
    ∙ xor_comm (pack a) (pack b * 2 ^ length a) ∙ xor_shifted (pack b) (length a) (pack a) (pack_lt a)

-- two tables that undo each other at each digit undo each other
pub digits_inverse : (f g : ℕ → ℕ) (k : ℕ) → ((i : ℕ) → i < k → sum_digits g k (f i) ≡ 2 ^ i) → (x : ℕ) → x < 2 ^ k → sum_digits g k (sum_digits f k x) ≡ x
digits_inverse f g k h x l =
    sum_map (sum_digits g k) f (digits k x) (digits_adds g k)
    ∙ sum_cong (λ i. sum_digits g k (f i)) (λ i. 2 ^ i) (digits k x) (λ i q. h i (rw digits_length at q))
    ∙ pack_digits k x l

-- two sums side by side in one number
pub sum_beside : (k : ℕ) (a b : ℕ → ℕ) (w : List ℕ) → ((i : ℕ) → b i < 2 ^ k) → sum_over (λ i. a i * 2 ^ k + b i) w ≡ sum_over a w * 2 ^ k + sum_over b w
unfolding sum_over
sum_beside k a b [] h = rw (zero-mul, add-zero)
sum_beside k a b (c ∷ cs) h =
    let m : one c * (a 0 * 2 ^ k + b 0) ≡ one c * a 0 * 2 ^ k + one c * b 0 = omega arith in
    sum_step (λ i. a i * 2 ^ k + b i) c cs
    ∙ ap₂ bit_xor m (sum_beside k (λ i. a (suc i)) (λ i. b (suc i)) cs (λ i. h (suc i)))
    ∙ xor_block k (one c * a 0) (sum_over (λ i. a (suc i)) cs) (one c * b 0) (sum_over (λ i. b (suc i)) cs) (scale_lt (one_lt c)) (sum_lt k (λ i. b (suc i)) (λ i. h (suc i)) cs)
    ∙ ap₂ (λ (x y : ℕ). x * 2 ^ k + y) (sym (sum_step a c cs)) (sym (sum_step b c cs))
  where
    scale_lt : {s : ℕ} → s < 2 → s * b 0 < 2 ^ k
    scale_lt q = bit_ind (λ (s : ℕ). s * b 0 < 2 ^ k) (simp zero-mul (pow_pos k)) (simp one-mul (h 0)) q

-- the sum of two sums
pub sum_both : (f g : ℕ → ℕ) (w : List ℕ) → sum_over (λ i. bit_xor (f i) (g i)) w ≡ bit_xor (sum_over f w) (sum_over g w)
unfolding sum_over
sum_both f g [] = refl
sum_both f g (c ∷ cs) =
    sum_step (λ i. bit_xor (f i) (g i)) c cs
    ∙ rw (scale_xor (f 0) (g 0) (one_lt c), sum_both (λ i. f (suc i)) (λ i. g (suc i)) cs, sum_step f c cs, sum_step g c cs) (simp xors)

-- 1 at cell c
abbrev pub unit : ℕ → ℕ → ℕ
unit zero zero = 1
unit zero (suc a) = 0
unit (suc c) zero = 0
unit (suc c) (suc a) = unit c a

pub unit_lt : (c a : ℕ) → unit c a < 2
unit_lt zero zero = omega arith
unit_lt zero (suc a) = omega arith
unit_lt (suc c) zero = omega arith
unit_lt (suc c) (suc a) = unit_lt c a

-- a cell is the sum of its unit
pub sum_unit : (c : ℕ) (w : List ℕ) → sum_over (unit c) w ≡ one (get_or w c 0)
unfolding sum_over
sum_unit c [] = refl
sum_unit zero (x ∷ w) = sum_step (unit zero) x w ∙ rw (sum_zero w, xor_zero_r, mul-one)
sum_unit (suc c) (x ∷ w) = sum_step (unit (suc c)) x w ∙ rw mul-zero (sum_unit c w)

-- ---- sums over the numbers below a bound

pub to_cong : (k : ℕ) (F G : ℕ → ℕ) → ((i : ℕ) → i < k → F i ≡ G i) → xor_to k F ≡ xor_to k G
unfolding xor_to
to_cong zero F G h = refl
to_cong (suc k) F G h = ap₂ bit_xor (h 0 (omega arith)) (to_cong k (λ i. F (suc i)) (λ i. G (suc i)) (λ i q. h (suc i) (omega arith)))

pub to_both : (k : ℕ) (F G : ℕ → ℕ) → xor_to k (λ i. bit_xor (F i) (G i)) ≡ bit_xor (xor_to k F) (xor_to k G)
unfolding xor_to
to_both zero F G = refl
to_both (suc k) F G = rw (to_both k (λ i. F (suc i)) (λ i. G (suc i))) (simp xors)

to_zero : (k : ℕ) → xor_to k (λ i. 0) ≡ 0
unfolding xor_to
to_zero zero = refl
to_zero (suc k) = to_zero k

-- sums over two numbers, in either order
pub to_swap : (r k : ℕ) (F : ℕ → ℕ → ℕ) → xor_to r (λ a. xor_to k (λ b. F a b)) ≡ xor_to k (λ b. xor_to r (λ a. F a b))
unfolding xor_to
to_swap zero k F = sym (to_zero k)
to_swap (suc r) k F =
    ap (bit_xor (xor_to k (F 0))) (to_swap r k (λ a. F (suc a))) ∙ sym (to_both k (F 0) (λ b. xor_to r (λ a. F (suc a) b)))

pub to_map : (g : ℕ → ℕ) (k : ℕ) (F : ℕ → ℕ) → Additive g → g (xor_to k F) ≡ xor_to k (λ i. g (F i))
unfolding xor_to
to_map g zero F a = zero_at a
to_map g (suc k) F a = a.keeps (F 0) (xor_to k (λ i. F (suc i))) ∙ ap (bit_xor (g (F 0))) (to_map g k (λ i. F (suc i)) a)

pub to_last : (k : ℕ) (F : ℕ → ℕ) → xor_to (suc k) F ≡ bit_xor (xor_to k F) (F k)
unfolding xor_to
to_last zero F = xor_zero_r (F 0)
to_last (suc k) F = ap (bit_xor (F 0)) (to_last k (λ i. F (suc i))) ∙ sym (xor_assoc (F 0) (xor_to k (λ i. F (suc i))) (F (suc k)))

-- a sum over the cells that hold 1 as a sum over all cells
pub sum_to : (f : ℕ → ℕ) (w : List ℕ) → sum_over f w ≡ xor_to (length w) (λ i. one (get_or w i 0) * f i)
unfolding xor_to sum_over
sum_to f [] = refl
sum_to f (c ∷ cs) = sum_step f c cs ∙ ap (bit_xor (one c * f 0)) (sum_to (λ i. f (suc i)) cs)
