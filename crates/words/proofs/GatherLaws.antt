-- The steps of masks and shifts that move eight bits, each the lowest of a byte, together and apart. What they do is tested on
-- all lists of eight bits.
-- Assumes nothing.
use mathlib.Core.Path.{◌≡◌, refl, sym, ap, ap₂, ◌∙◌}
use mathlib.Core.Bool.{Bool}
use mathlib.Core.List.{List, [], ◌∷◌}
use Prim.Native.Nat.{ℕ, zero, suc, ◌+◌, ◌*◌, ◌/◌, ◌%◌, ◌^◌, ◌≤◌, ◌<◌}
use native.Mathlib.Omega.{arith}
use lib.Bits.{bit_and, bit_or, and_block, and_mask}
use lib.Dec.{T, eqb, eqb→eq}
use lib.ListN.{length, get_or}
use Rattle.laws.specs.Digits.{digits, sum_over}
use Rattle.laws.specs.Working.Digits.{pack}
use Rattle.laws.proofs.DigitSums.{digits_length}
use Rattle.laws.proofs.Linear.{digits_bits, pack_digits}
use Rattle.laws.proofs.Tests.{every_bits, every_bits_at}
use Rattle.laws.proofs.Xor.{digit_lt}
use Rattle.words.specs.Working.Bytes.{joined, gathered}
use Rattle.words.proofs.ByteLaws.{low_and_rest}

-- ---- together

-- a 1 in each of n bytes
unfoldable masks : ℕ → ℕ
masks zero = 0
masks (suc n) = masks n * 256 + 1

-- the lowest bit of each of the n low bytes
unfoldable lows : ℕ → ℕ → List ℕ
lows zero x = []
lows (suc n) x = x % 2 ∷ lows n (x / 256)

-- the mask leaves the lowest bit of each byte
masked_low : (n x : ℕ) → bit_and x (masks n) ≡ joined (lows n x)
unfolding joined masks lows
masked_low zero x = and_mask x 0 ∙ omega arith
masked_low (suc n) x =
    let e : x ≡ x / 256 * 256 + x % 256 = omega arith in
    let f : x % 256 % 2 ≡ x % 2 = omega arith in
    ap (λ (y : ℕ). bit_and y (masks n * 256 + 1)) e
    ∙ and_block 8 (x / 256) (masks n) (x % 256) 1 (omega arith) (omega arith)
    ∙ ap₂ (λ (y z : ℕ). y * 256 + z) (masked_low n (x / 256)) (and_mask (x % 256) 1 ∙ f)

lows_length : (n x : ℕ) → length (lows n x) ≡ n
unfolding lows
lows_length zero x = refl
lows_length (suc n) x = ap suc (lows_length n (x / 256))

lows_bits : (n x i : ℕ) → get_or (lows n x) i 0 < 2
unfolding lows
lows_bits zero x i = omega arith
lows_bits (suc n) x zero = digit_lt x
lows_bits (suc n) x (suc i) = lows_bits n (x / 256) i

-- nothing but the lowest bits is gathered
gathered_lows : (n x : ℕ) → gathered n (joined (lows n x)) ≡ gathered n x
unfolding gathered joined lows
gathered_lows zero x = refl
gathered_lows (suc n) x =
    let r : ℕ = joined (lows n (x / 256)) in
    let low : (r * 256 + x % 2) % 2 ≡ x % 2 = omega arith in
    rw ((low_and_rest r {b = x % 2} (omega arith)).1, low) (ap (λ (y : ℕ). y * 2 + x % 2) (gathered_lows n (x / 256)))

-- the steps, where no byte has another bit
unfoldable pub folded : ℕ → ℕ
folded a =
    let b = bit_or a (a / 2 ^ 7) in
    let c = bit_or b (b / 2 ^ 14) in
    bit_and (bit_or c (c / 2 ^ 28)) 255

folds : List ℕ → Bool
folds bs = eqb (folded (joined bs)) (gathered 8 (joined bs))

all_fold : T (every_bits 8 folds)
unfolding every_bits folds folded joined gathered
all_fold = tt

pub folded_gathers : (x : ℕ) → folded (bit_and x 72340172838076673) ≡ gathered 8 x
unfolding folds masks
folded_gathers x =
    ap folded (masked_low 8 x)
    ∙ eqb→eq (folded (joined (lows 8 x))) (gathered 8 (joined (lows 8 x))) (every_bits_at 8 folds all_fold (lows 8 x) (lows_length 8 x) (lows_bits 8 x))
    ∙ gathered_lows 8 x

-- ---- and apart

unfoldable pub spread_out : ℕ → ℕ
spread_out x =
    let a = bit_and (bit_or x (x * 2 ^ 28 % 2 ^ 64)) 64424509455 in
    let b = bit_and (bit_or a (a * 2 ^ 14 % 2 ^ 64)) 844437815230467 in
    bit_and (bit_or b (b * 2 ^ 7 % 2 ^ 64)) 72340172838076673

spreads : List ℕ → Bool
spreads bs = eqb (spread_out (pack bs)) (joined bs)

all_spread : T (every_bits 8 spreads)
unfolding every_bits spreads spread_out joined sum_over
all_spread = tt

pub spread_bits : (x : ℕ) → x < 256 → spread_out x ≡ joined (digits 8 x)
unfolding spreads
spread_bits x h =
    ap spread_out (sym (pack_digits 8 x h))
    ∙ eqb→eq (spread_out (pack (digits 8 x))) (joined (digits 8 x)) (every_bits_at 8 spreads all_spread (digits 8 x) (digits_length 8 x) (digits_bits 8 x))

pub spread_le : (x : ℕ) → joined (digits 8 x) ≤ 72340172838076673
unfolding joined digits
spread_le x = omega arith
