-- Sums over the cells that hold 1, for any f: parts of a list, one cell more, one cell flipped, how large a sum is, and the
-- sums over the binary digits of a number. Nothing here knows a field.
-- Assumes nothing.
use mathlib.Core.Path.{◌≡◌, refl, sym, ap, ap₂, ◌∙◌}
use mathlib.Core.Bool.{Bool, true, false}
use mathlib.Core.List.{List, [], ◌∷◌, ◌++◌}
use Prim.Native.Nat.{ℕ, zero, suc, ◌+◌, ◌-◌, ◌*◌, ◌/◌, ◌%◌, ◌^◌, ◌≤◌, ◌<◌}
use native.Mathlib.Nat.{pow-suc, div-one, zero-add, suc-add, le_of_suc-le-suc, zero-lt-suc, mul_comm, div-div-eq-div-mul}
use native.Mathlib.Numerals.{add-one}
use native.Mathlib.Omega.{arith}
use lib.Bits.{bit_xor, xor_zero_r, xor_lt, xor_block, xor_comm}
use borrow.Author.Tests.{lt-ltb, le-ltb}
use lib.Dec.{eqb, leb-suc-suc}
use lib.ListN.{length, get_or, take, set}
use lib.Pow.{pow_pos, field, mod-mod-pow}
use Rattle.laws.proofs.Xor.{xors, xor_assoc, xor_one, bit_ind}
use Rattle.laws.specs.Digits.{sum_over, ones_in, digits}
use Rattle.laws.specs.Working.Digits.{up_to}

-- what a cell adds to a sum in which it counts for m
abbrev pub cell : ℕ → ℕ → ℕ
cell c m = elim (eqb c 1) [ true ↦ m | false ↦ 0 ]

-- ---- another f

-- only f at the cells counts
pub sum_cong : (f g : ℕ → ℕ) (cells : List ℕ) → ((i : ℕ) → i < length cells → f i ≡ g i) → sum_over f cells ≡ sum_over g cells
unfolding sum_over
sum_cong f g [] e = refl
sum_cong f g (c ∷ cs) e =
    ap₂ bit_xor (ap (cell c) (e 0 (zero-lt-suc (length cs)))) (sum_cong (λ i. f (suc i)) (λ i. g (suc i)) cs (λ i h. e (suc i) (omega arith)))

-- a sum of zeros is 0
pub sum_zero : (cells : List ℕ) → sum_over (λ i. 0) cells ≡ 0
unfolding sum_over
sum_zero [] = refl
sum_zero (c ∷ cs) = ap₂ bit_xor (none (eqb c 1)) (sum_zero cs)
  where
    none : (b : Bool) → ◌≡◌ {A = ℕ} (elim b [ true ↦ 0 | false ↦ 0 ]) 0
    none true = refl
    none false = refl

-- a sum of numbers of k binary digits has k digits
pub sum_lt : (k : ℕ) (f : ℕ → ℕ) → ((i : ℕ) → f i < 2 ^ k) → (cells : List ℕ) → sum_over f cells < 2 ^ k
unfolding sum_over
sum_lt k f h [] = pow_pos k
sum_lt k f h (c ∷ cs) = xor_lt k (cell c (f 0)) (sum_over (λ i. f (suc i)) cs) (pick (eqb c 1)) (sum_lt k (λ i. f (suc i)) (λ i. h (suc i)) cs)
  where
    pick : (b : Bool) → elim b [ true ↦ f 0 | false ↦ 0 ] < 2 ^ k
    pick true = h 0
    pick false = pow_pos k

-- two numbers side by side, the lower one of 7 binary digits, are added side by side
pub xor_pair : {a c : ℕ} (b e : ℕ) → a < 128 → c < 128 → bit_xor (a + 128 * b) (c + 128 * e) ≡ bit_xor a c + 128 * bit_xor b e
xor_pair {a} {c} b e ha hc =
    let l : (a + 128 * b ≡ b * 128 + a) = omega arith in
    let r : (c + 128 * e ≡ e * 128 + c) = omega arith in
    let m : (bit_xor a c + 128 * bit_xor b e ≡ bit_xor b e * 128 + bit_xor a c) = omega arith in
    ap₂ bit_xor l r ∙ xor_block 7 b e a c ha hc ∙ sym m

-- and so they are summed
pub sum_pair : (f g : ℕ → ℕ) → ((i : ℕ) → f i < 128) → (cells : List ℕ)
    → sum_over (λ i. f i + 128 * g i) cells ≡ sum_over f cells + 128 * sum_over g cells
unfolding sum_over
sum_pair f g h [] = refl
sum_pair f g h (c ∷ cs) =
    ap₂ bit_xor (pick (eqb c 1)).0 (sum_pair (λ i. f (suc i)) (λ i. g (suc i)) (λ i. h (suc i)) cs)
    ∙ xor_pair (cell c (g 0)) (sum_over (λ i. g (suc i)) cs) (pick (eqb c 1)).1 (sum_lt 7 (λ i. f (suc i)) (λ i. h (suc i)) cs)
  where
    pick : (b : Bool)
        → (elim b [ true ↦ f 0 + 128 * g 0 | false ↦ 0 ] ≡ elim b [ true ↦ f 0 | false ↦ 0 ] + 128 * elim b [ true ↦ g 0 | false ↦ 0 ])
        × (elim b [ true ↦ f 0 | false ↦ 0 ] < 128)
    pick true = (refl, h 0)
    pick false = (refl, omega arith)

-- each cell that holds 1 counted once: the parity
pub sum_ones : (cells : List ℕ) → sum_over (λ i. 1) cells ≡ ones_in cells % 2
unfolding sum_over ones_in
sum_ones [] = refl
sum_ones (c ∷ cs) = ap (bit_xor (cell c 1)) (sum_ones cs) ∙ pick (eqb c 1)
  where
    pick : (b : Bool)
        → bit_xor (elim b [ true ↦ 1 | false ↦ 0 ]) (ones_in cs % 2) ≡ (elim b [ true ↦ 1 | false ↦ 0 ] + ones_in cs) % 2
    pick true = omega (arith, xor_comm 1 (ones_in cs % 2), xor_one (ones_in cs))
    pick false = omega arith

-- ---- parts of a list

-- the sums of two parts are added; the second part starts at the length of the first
pub sum_append : (f : ℕ → ℕ) (xs ys : List ℕ) → sum_over f (xs ++ ys) ≡ bit_xor (sum_over f xs) (sum_over (λ i. f (length xs + i)) ys)
unfolding sum_over
sum_append f [] ys = sum_cong f (λ i. f (0 + i)) ys (λ i h. ap f (sym (zero-add i)))
sum_append f (c ∷ cs) ys =
    ap (bit_xor (cell c (f 0)))
    (sum_append (λ i. f (suc i)) cs ys
    ∙ ap (bit_xor (sum_over (λ i. f (suc i)) cs)) (sum_cong (λ i. f (suc (length cs + i))) (λ i. f (suc (length cs) + i)) ys (λ i h. ap f (sym (suc-add (length cs) i)))))
    ∙ sym (xor_assoc (cell c (f 0)) (sum_over (λ i. f (suc i)) cs) (sum_over (λ i. f (suc (length cs) + i)) ys))

-- one cell more
pub sum_more : (f : ℕ → ℕ) (cells : List ℕ) (i : ℕ)
    → sum_over f (take (suc i) cells) ≡ bit_xor (sum_over f (take i cells)) (cell (get_or cells i 0) (f i))
unfolding sum_over
sum_more f [] zero = refl
sum_more f [] (suc i) = refl
sum_more f (c ∷ cs) zero = xor_zero_r (cell c (f 0))
sum_more f (c ∷ cs) (suc i) =
    ap (bit_xor (cell c (f 0))) (sum_more (λ i. f (suc i)) cs i)
    ∙ sym (xor_assoc (cell c (f 0)) (sum_over (λ i. f (suc i)) (take i cs)) (cell (get_or cs i 0) (f (suc i))))

-- f below m, and 0 from m on
pub up_to_below : (m : ℕ) (f : ℕ → ℕ) (i : ℕ) → i < m → up_to m f i ≡ f i
unfolding up_to
up_to_below m f i h = ap (λ (b : Bool). elim b [ true ↦ f i | false ↦ 0 ]) (lt-ltb i m h)

pub up_to_past : (m : ℕ) (f : ℕ → ℕ) (i : ℕ) → m ≤ i → up_to m f i ≡ 0
unfolding up_to
up_to_past m f i h = ap (λ (b : Bool). elim b [ true ↦ f i | false ↦ 0 ]) (le-ltb i m h)

-- one cell on, both start one later
up_to_suc : (m : ℕ) (f : ℕ → ℕ) (i : ℕ) → up_to (suc m) f (suc i) ≡ up_to m (λ i. f (suc i)) i
unfolding up_to
up_to_suc m f i = ap (λ (b : Bool). elim b [ true ↦ f (suc i) | false ↦ 0 ]) (leb-suc-suc (suc i) m)

-- f at the cells below m, summed, is f over the first m cells
pub sum_up_to : (m : ℕ) (f : ℕ → ℕ) (cells : List ℕ) → sum_over (up_to m f) cells ≡ sum_over f (take m cells)
unfolding sum_over
sum_up_to zero f cells = sum_cong (up_to 0 f) (λ i. 0) cells (λ i h. up_to_past 0 f i (omega arith)) ∙ sum_zero cells
sum_up_to (suc m) f [] = refl
sum_up_to (suc m) f (c ∷ cs) =
    ap₂ (λ (x y : ℕ). bit_xor (cell c x) y) (up_to_below (suc m) f 0 (zero-lt-suc m))
    (sum_cong (λ i. up_to (suc m) f (suc i)) (up_to m (λ i. f (suc i))) cs (λ i h. up_to_suc m f i) ∙ sum_up_to m (λ i. f (suc i)) cs)

-- ---- one cell flipped

-- another value in cell i
pub sum_set : (f : ℕ → ℕ) (cells : List ℕ) (i a : ℕ) → i < length cells
    → sum_over f (set cells i a) ≡ bit_xor (sum_over f cells) (bit_xor (cell (get_or cells i 0) (f i)) (cell a (f i)))
unfolding sum_over
sum_set f [] i a h = absurd (omega arith)
sum_set f (c ∷ cs) zero a h = simp xors
sum_set f (c ∷ cs) (suc i) a h =
    ap (bit_xor (cell c (f 0))) (sum_set (λ i. f (suc i)) cs i a (le_of_suc-le-suc h))
    ∙ sym (xor_assoc (cell c (f 0)) (sum_over (λ i. f (suc i)) cs) (bit_xor (cell (get_or cs i 0) (f (suc i))) (cell a (f (suc i)))))

-- a bit flipped adds f i
pub sum_flip : (f : ℕ → ℕ) (cells : List ℕ) (i : ℕ) → i < length cells → get_or cells i 0 < 2
    → sum_over f (set cells i (1 - get_or cells i 0)) ≡ bit_xor (sum_over f cells) (f i)
sum_flip f cells i h b =
    sum_set f cells i (1 - get_or cells i 0) h
    ∙ ap (bit_xor (sum_over f cells)) (bit_ind (λ (x : ℕ). bit_xor (cell x (f i)) (cell (1 - x) (f i)) ≡ f i) refl (xor_zero_r (f i)) b)

-- ---- the digits of a number

-- k digits are a list of k cells
pub digits_length : (k w : ℕ) → length (digits k w) ≡ k
unfolding digits
digits_length zero w = refl
digits_length (suc k) w = ap suc (digits_length k (w / 2))

-- digits past the k lowest do not count
pub digits_low : (k w : ℕ) → digits k (w % 2 ^ k) ≡ digits k w
unfolding digits
digits_low zero w = refl
digits_low (suc k) w =
    rw (← add-one k, mod-mod-pow w k 1, field w k 1) (ap (λ (ds : List ℕ). w % 2 ∷ ds) (digits_low k (w / 2)))

-- the m lowest digits, then k more
pub digits_append : (m k w : ℕ) → digits (m + k) w ≡ digits m w ++ digits k (w / 2 ^ m)
unfolding digits
digits_append zero k w = rw (zero-add, div-one) refl
digits_append (suc m) k w =
    let up : w / 2 / 2 ^ m ≡ w / 2 ^ suc m = div-div-eq-div-mul w 2 (2 ^ m) ∙ ap (λ (q : ℕ). w / q) (mul_comm 2 (2 ^ m) ∙ sym (pow-suc 2 m)) in
    rw suc-add (ap (λ (ds : List ℕ). w % 2 ∷ ds) (digits_append m k (w / 2) ∙ ap (λ (v : ℕ). digits m (w / 2) ++ digits k v) up))

-- no digit of 0 is 1
pub sum_digits_zero : (f : ℕ → ℕ) (k : ℕ) → sum_over f (digits k 0) ≡ 0
unfolding sum_over digits
sum_digits_zero f zero = refl
sum_digits_zero f (suc k) = sum_digits_zero (λ i. f (suc i)) k

-- one digit more, above all others
pub sum_top : (f : ℕ → ℕ) (k b x : ℕ) → b < k → x < 2 ^ b
    → sum_over f (digits k (2 ^ b + x)) ≡ bit_xor (sum_over f (digits k x)) (f b)
unfolding sum_over digits
sum_top f zero b x h l = absurd (omega arith)
sum_top f (suc k) zero x h l =
    let e : x ≡ 0 = omega arith in
    rw (e, sum_digits_zero (λ i. f (suc i)) k) (xor_zero_r (f 0))
sum_top f (suc k) (suc b) x h l =
    let m : x < 2 ^ b * 2 = rw (pow-suc 2 b) at l in
    let e : (2 ^ b * 2 + x) % 2 ≡ x % 2 = omega arith in
    let q : (2 ^ b * 2 + x) / 2 ≡ 2 ^ b + x / 2 = omega arith in
    rw (pow-suc 2 b, e, q, sum_top (λ i. f (suc i)) k b (x / 2) (omega arith) (omega arith))
    (sym (xor_assoc (cell (x % 2) (f 0)) (sum_over (λ i. f (suc i)) (digits k (x / 2))) (f (suc b))))
