-- Four cells in a byte: packed and put apart again, a byte more a turn; and the steps of masks and shifts that put a byte apart,
-- tested on all bytes.
-- Assumes nothing.
use mathlib.Core.Path.{◌≡◌, refl, sym, ap, ap₂, ◌∙◌}
use mathlib.Core.Bool.{Bool}
use mathlib.Core.List.{List, [], ◌∷◌, ◌++◌}
use Prim.Native.Nat.{ℕ, zero, suc, ◌+◌, ◌*◌, ◌/◌, ◌%◌, ◌^◌, ◌<◌, ◌≤◌}
use native.Mathlib.Nat.{add-zero}
use native.Mathlib.Omega.{arith}
use native.Mathlib.Numerals.{add-one}
use lib.Bits.{bit_and, bit_or}
use lib.Dec.{T, eqb, eqb→eq}
use lib.ListN.{length, get_or, take, drop}
use lib.Seq.{drop-drop, get_or-drop, take-suc}
use Rattle.laws.specs.Digits.{digits, sum_over}
use Rattle.laws.specs.Working.Digits.{pack}
use Rattle.laws.proofs.DigitSums.{digits_length}
use Rattle.laws.proofs.Linear.{digits_bits, pack_digits}
use Rattle.laws.proofs.Tests.{every_at, every_bits, every_bits_at}
use Rattle.words.specs.Working.Bytes.{joined, bytes_of}
use Rattle.words.proofs.ByteLaws.{joined_four, bytes_joined}
use Rattle.blocks.specs.Blocks.{packed, unpacked}
use Rattle.blocks.specs.Working.Adding.{Bytes}

-- ---- lengths

pub length_packed : (n : ℕ) (m : List ℕ) → length (packed n m) ≡ n
unfolding packed
length_packed zero m = refl
length_packed (suc n) m = ap suc (length_packed n (drop 4 m))

pub length_unpacked : (xs : List ℕ) → length (unpacked xs) ≡ length xs * 4
unfolding unpacked
length_unpacked [] = refl
length_unpacked (x ∷ xs) = omega (arith, length_unpacked xs)

-- ---- a byte more

pub unpacked_append : (xs ys : List ℕ) → unpacked (xs ++ ys) ≡ unpacked xs ++ unpacked ys
unfolding unpacked
unpacked_append [] ys = refl
unpacked_append (x ∷ xs) ys =
    ap {B = List ℕ} (λ r. x % 4 ∷ x / 4 % 4 ∷ x / 16 % 4 ∷ x / 64 % 4 ∷ r) (unpacked_append xs ys)

pub unpacked_next : (xs : List ℕ) (i : ℕ) → i < length xs → unpacked (take (i + 1) xs) ≡ unpacked (take i xs) ++ unpacked (get_or xs i 0 ∷ [])
unpacked_next xs i h = rw (add-one i, take-suc xs i 0 h) (unpacked_append (take i xs) (get_or xs i 0 ∷ []))

-- ---- there and back

-- a byte from its four pairs of bits
four_pairs : (x : ℕ) → x < 256 → x % 4 + 4 * (x / 4 % 4) + 16 * (x / 16 % 4) + 64 * (x / 64 % 4) ≡ x
four_pairs x h = eqb→eq (x % 4 + 4 * (x / 4 % 4) + 16 * (x / 16 % 4) + 64 * (x / 64 % 4)) x (every_at joins 256 tt h)
  where
    joins : ℕ → Bool
    joins x = eqb (x % 4 + 4 * (x / 4 % 4) + 16 * (x / 16 % 4) + 64 * (x / 64 % 4)) x

-- the bytes of cells that were put apart
pub packed_unpacked : (xs ys : List ℕ) → Bytes xs → packed (length xs) (unpacked xs ++ ys) ≡ xs
unfolding packed unpacked
packed_unpacked [] ys h = refl
packed_unpacked (x ∷ xs) ys h =
    ap₂ {C = List ℕ} (λ y ys. y ∷ ys) (four_pairs x (h 0)) (packed_unpacked xs ys (λ i. h (suc i)))

-- four cells more than n bytes have
four_more : (n : ℕ) → suc n * 4 ≡ suc (suc (suc (suc (n * 4))))
four_more n = omega arith

-- the four pairs of bits of a byte that was packed
pairs_of : (a b c e : ℕ) → a < 4 → b < 4 → c < 4 → e < 4
    → ((a + 4 * b + 16 * c + 64 * e) % 4 ≡ a) × ((a + 4 * b + 16 * c + 64 * e) / 4 % 4 ≡ b) × ((a + 4 * b + 16 * c + 64 * e) / 16 % 4 ≡ c) × ((a + 4 * b + 16 * c + 64 * e) / 64 % 4 ≡ e)
pairs_of a b c e ha hb hc he =
    let one : (a + 4 * b + 16 * c + 64 * e) / 4 ≡ b + 4 * c + 16 * e = omega arith in
    let two : (a + 4 * b + 16 * c + 64 * e) / 16 ≡ c + 4 * e = omega arith in
    let three : (a + 4 * b + 16 * c + 64 * e) / 64 ≡ e = omega arith in
    (omega arith, rw one (omega arith), rw two (omega arith), rw three (omega arith))

-- cells below 4 that were packed
pub unpacked_packed : (n : ℕ) (m : List ℕ) → ((i : ℕ) → get_or m i 0 < 4) → n * 4 ≤ length m → unpacked (packed n m) ≡ take (n * 4) m
unfolding packed unpacked
unpacked_packed zero m h l = refl
unpacked_packed (suc n) [] h l = absurd (omega arith)
unpacked_packed (suc n) (a ∷ []) h l = absurd (omega arith)
unpacked_packed (suc n) (a ∷ b ∷ []) h l = absurd (omega arith)
unpacked_packed (suc n) (a ∷ b ∷ c ∷ []) h l = absurd (omega arith)
unpacked_packed (suc n) (a ∷ b ∷ c ∷ e ∷ m) h l =
    let d = pairs_of a b c e (h 0) (h 1) (h 2) (h 3) in
    rw (four_more n, d.0, d.1, d.2, d.3) (ap {B = List ℕ} (λ t. a ∷ b ∷ c ∷ e ∷ t) (unpacked_packed n m (λ i. h (suc (suc (suc (suc i))))) (omega arith)))

-- ---- what is packed fits bytes, and what is put apart is below 4

pub packed_bytes : (n : ℕ) (m : List ℕ) → ((i : ℕ) → get_or m i 0 < 4) → Bytes (packed n m)
unfolding packed
packed_bytes zero m h i = omega arith
packed_bytes (suc n) m h zero = omega (arith, h 0, h 1, h 2, h 3)
packed_bytes (suc n) m h (suc i) = packed_bytes n (drop 4 m) (λ j. rw (get_or-drop 4 m j 0) (h (4 + j))) i

unpacked_bytes : (x : ℕ) → Bytes (unpacked (x ∷ []))
unfolding unpacked
unpacked_bytes x zero = omega arith
unpacked_bytes x (suc zero) = omega arith
unpacked_bytes x (suc (suc zero)) = omega arith
unpacked_bytes x (suc (suc (suc zero))) = omega arith
unpacked_bytes x (suc (suc (suc (suc i)))) = omega arith

-- the four cells of a byte, from the number that they were joined to
pub four_bytes : (x : ℕ) → bytes_of 4 (joined (unpacked (x ∷ []))) ≡ unpacked (x ∷ [])
four_bytes x = rw (length_unpacked (x ∷ [])) at (bytes_joined (unpacked (x ∷ [])) (unpacked_bytes x))

-- ---- the steps that put a byte apart

unfoldable pub spread_out : ℕ → ℕ
spread_out x =
    let pairs = bit_and (bit_or x (x * 2 ^ 12 % 2 ^ 64)) 983055 in
    bit_and (bit_or pairs (pairs * 2 ^ 6 % 2 ^ 64)) 50529027

spreads : List ℕ → Bool
spreads bs = eqb (spread_out (pack bs)) (joined (unpacked (pack bs ∷ [])))

all_spread : T (every_bits 8 spreads)
unfolding every_bits spreads spread_out joined unpacked sum_over
all_spread = tt

pub spread_cells : (x : ℕ) → x < 256 → spread_out x ≡ joined (unpacked (x ∷ []))
unfolding spreads
spread_cells x h =
    rw (pack_digits 8 x h) at (eqb→eq (spread_out (pack (digits 8 x))) (joined (unpacked (pack (digits 8 x) ∷ []))) (every_bits_at 8 spreads all_spread (digits 8 x) (digits_length 8 x) (digits_bits 8 x)))

-- ---- the factor that packs four cells

pub factor_packs : (x a b c e : ℕ) → x ≡ a + b * 256 + c * 65536 + e * 16777216 → a < 4 → b < 4 → c < 4 → e < 4
    → (x * 17043520 < 2 ^ 64) × (x * 17043520 / 16777216 % 256 ≡ a + 4 * b + 16 * c + 64 * e)
factor_packs x a b c e f ha hb hc he =
    let above : ℕ = b + 260 * c + 66576 * e in
    let below : ℕ = 266304 * a + 1064960 * b + 4194304 * c in
    let parts : x * 17043520 ≡ 16777216 * (256 * above + (a + 4 * b + 16 * c + 64 * e)) + below = omega arith in
    let little : below < 16777216 = omega arith in
    let high : x * 17043520 / 16777216 ≡ 256 * above + (a + 4 * b + 16 * c + 64 * e) = divided (256 * above + (a + 4 * b + 16 * c + 64 * e)) parts little in
    (omega arith, rw high (omega arith))
  where
    divided : {y r : ℕ} (q : ℕ) → y ≡ 16777216 * q + r → r < 16777216 → y / 16777216 ≡ q
    divided q e h = omega arith

pub packed_one : (m : List ℕ) (at x : ℕ) → at + 4 ≤ length m → ((i : ℕ) → get_or m i 0 < 4) → x ≡ joined (take 4 (drop at m))
    → (x * 17043520 < 2 ^ 64) × ((x * 17043520 / 16777216 % 256 ∷ []) ≡ packed 1 (drop at m))
unfolding packed
packed_one m at x l h e =
    let f = factor_packs x (get_or m at 0) (get_or m (at + 1) 0) (get_or m (at + 2) 0) (get_or m (at + 3) 0) (e ∙ joined_four m at l) (h at) (h (at + 1)) (h (at + 2)) (h (at + 3)) in
    (f.0, ap (λ (y : ℕ). y ∷ []) (f.1 ∙ sym (rw (get_or-drop at m 0 0, get_or-drop at m 1 0, get_or-drop at m 2 0, get_or-drop at m 3 0, add-zero at) refl)))

-- byte i of those that are packed
pub packed_at : (n : ℕ) (m : List ℕ) (i : ℕ) {x : ℕ} → i < n → (x ∷ []) ≡ packed 1 (drop (4 * i) m) → x ≡ get_or (packed n m) i 0
unfolding packed
packed_at zero m i h e = absurd (omega arith)
packed_at (suc n) m zero h e = ap (λ (l : List ℕ). get_or l 0 0) e
packed_at (suc n) m (suc i) h e =
    let k : 4 * suc i ≡ 4 + 4 * i = omega arith in
    packed_at n (drop 4 m) i (omega arith) (e ∙ ap (packed 1) (ap (λ (k : ℕ). drop k m) k ∙ sym (drop-drop (4 * i) 4 m)))
