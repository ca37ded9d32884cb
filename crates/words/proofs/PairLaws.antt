-- Two words beside a list of bytes: eight bytes more a turn, gathered or spread.
-- Assumes nothing.
use mathlib.Core.Path.{◌≡◌, refl, sym, ap, ap₂, ◌∙◌}
use mathlib.Core.List.{List, [], ◌∷◌, ◌++◌, append_assoc, append-nil}
use mathlib.Core.Logic.{◌⊎◌, inl, inr}
use Prim.Native.Nat.{ℕ, zero, suc, ◌+◌, ◌-◌, ◌*◌, ◌/◌, ◌%◌, ◌^◌, ◌≤◌, ◌<◌}
use native.Mathlib.Nat.{suc-add, div-one, zero-add, pow-suc, mul_assoc, add-zero}
use native.Mathlib.Numerals.{add-one}
use native.Mathlib.Omega.{arith}
use lib.Bits.{bit_or, or_shifted_r}
use lib.ListN.{length, get_or, take, drop, length-append, length-drop, take-append-drop, drop_of_length-le}
use lib.Pow.{field, mod-mod-pow}
use borrow.Rule.Slice.PartMut.{put_mid}
use lib.Seq.{sets, sets-eq, take_at, drop_at, take-add, get_or-drop, length-take-le, take_all}
use Rattle.laws.specs.Digits.{digits}
use Rattle.laws.proofs.Bits.{shift_more}
use Rattle.words.specs.Working.Bytes.{joined, bytes_of, gathered}
use Rattle.words.specs.Working.Pairs.{bits_of, pairs_of}
use Rattle.words.proofs.ByteLaws.{bytes_joined}

-- ---- gathered

abbrev pub Bytes : List ℕ → Type 0
Bytes bs = (i : ℕ) → get_or bs i 0 < 256

bits_lt : (j : ℕ) (bs : List ℕ) → bits_of j bs < 2 ^ length bs
unfolding bits_of
bits_lt j [] = omega arith
bits_lt j (b ∷ bs) = rw (pow-suc 2 (length bs)) (omega (arith, bits_lt j bs))

bits_append : (j : ℕ) (cs bs : List ℕ) → bits_of j (cs ++ bs) ≡ bits_of j bs * 2 ^ length cs + bits_of j cs
unfolding bits_of
bits_append j [] bs = omega arith
bits_append j (c ∷ cs) bs = rw (bits_append j cs bs, pow-suc 2 (length cs), ← mul_assoc (bits_of j bs) (2 ^ length cs) 2) (omega arith)

-- bit j of the lowest byte, and of the others, are where they were
record Within (j : ℕ) : Type 0 where
  rest : (r : ℕ) {b : ℕ} → b < 256 → (r * 256 + b) / 2 ^ j / 256 ≡ r / 2 ^ j
  low : (r : ℕ) {b : ℕ} → b < 256 → (r * 256 + b) / 2 ^ j % 2 ≡ b / 2 ^ j % 2

first : Within 0
first = record { rest = λ r h. omega arith; low = λ r h. omega arith }

second : Within 1
second = record { rest = λ r h. omega arith; low = λ r h. omega arith }

gather_joined : (j : ℕ) → Within j → (bs : List ℕ) → Bytes bs → gathered (length bs) (joined bs / 2 ^ j) ≡ bits_of j bs
unfolding gathered joined bits_of
gather_joined j w [] h = refl
gather_joined j w (b ∷ bs) h = rw (w.rest (joined bs) {b = b} (h 0), w.low (joined bs) {b = b} (h 0), gather_joined j w bs (λ i. h (suc i)))

pub bytes_drop : (n : ℕ) (bs : List ℕ) → Bytes bs → Bytes (drop n bs)
bytes_drop n bs h i = rw (get_or-drop n bs i 0) (h (n + i))

pub bytes_take : (n : ℕ) (bs : List ℕ) → Bytes bs → Bytes (take n bs)
bytes_take zero bs h i = omega arith
bytes_take (suc n) [] h i = omega arith
bytes_take (suc n) (b ∷ bs) h zero = h 0
bytes_take (suc n) (b ∷ bs) h (suc i) = bytes_take n bs (λ i. h (suc i)) i

module _ (bytes : List ℕ) (at : ℕ) (room : at + 8 ≤ length bytes) (h : Bytes bytes) (w x g : ℕ) (ex : x ≡ joined (take 8 (drop at bytes))) where
  part_length : length (take 8 (drop at bytes)) ≡ 8
  part_length = length-take-le 8 (drop at bytes) (rw length-drop (omega arith))

  gathered_more : (j : ℕ) → Within j → w ≡ bits_of j (take at bytes) → g ≡ gathered 8 (x / 2 ^ j) → bit_or w (g * 2 ^ at) ≡ bits_of j (take (at + 8) bytes)
  gathered_more j b e eg =
      let part : List ℕ = take 8 (drop at bytes) in
      let long : length (take at bytes) ≡ at = length-take-le at bytes (omega arith) in
      let s : Bytes part = bytes_take 8 (drop at bytes) (bytes_drop at bytes h) in
      let f : g ≡ bits_of j part = eg ∙ ap (λ (n : ℕ). gathered 8 (n / 2 ^ j)) ex ∙ rw part_length at (gather_joined j b part s) in
      let sw : bits_of j (take at bytes) < 2 ^ at = rw long at (bits_lt j (take at bytes)) in
      rw (e, f, or_shifted_r (bits_of j part) at (bits_of j (take at bytes)) sw)
      (sym (rw (take-add at 8 bytes, bits_append j (take at bytes) part, long)))

  pub first_more : w ≡ bits_of 0 (take at bytes) → g ≡ gathered 8 x → bit_or w (g * 2 ^ at) ≡ bits_of 0 (take (at + 8) bytes)
  first_more e eg = gathered_more 0 first e (eg ∙ ap (gathered 8) (sym (div-one x)))

  pub second_more : w ≡ bits_of 1 (take at bytes) → g ≡ gathered 8 (x / 2) → bit_or w (g * 2 ^ at) ≡ bits_of 1 (take (at + 8) bytes)
  second_more = gathered_more 1 second

-- bytes that are cut in two: the first 64, or all
pub bits_cut : (j cut : ℕ) (bytes : List ℕ) → cut ≤ length bytes → (cut ≡ 64) ⊎ (cut ≡ length bytes)
    → bits_of j (drop cut bytes) * 2 ^ 64 + bits_of j (take cut bytes) ≡ bits_of j bytes
unfolding bits_of
bits_cut j cut bytes h (inl e) =
    let whole : bits_of j bytes ≡ bits_of j (drop cut bytes) * 2 ^ length (take cut bytes) + bits_of j (take cut bytes) =
    ap (bits_of j) (sym (take-append-drop cut bytes)) ∙ bits_append j (take cut bytes) (drop cut bytes) in
    sym (whole ∙ ap (λ (k : ℕ). bits_of j (drop cut bytes) * 2 ^ k + bits_of j (take cut bytes)) (length-take-le cut bytes h ∙ e))
bits_cut j cut bytes h (inr e) =
    rw (drop_of_length-le bytes {i = cut} (omega arith), take_all cut bytes (omega arith)) (omega arith)

-- what is asked of each part
pub part_long : (cut : ℕ) (bytes : List ℕ) → cut ≤ length bytes → cut ≡ length (take cut bytes)
part_long cut bytes h = sym (length-take-le cut bytes h)

eights : (cut n : ℕ) → n % 8 ≡ 0 → (cut ≡ 64) ⊎ (cut ≡ n) → cut % 8 ≡ 0
eights cut n h (inl e) = omega arith
eights cut n h (inr e) = omega arith

module _ (cut : ℕ) (bytes : List ℕ) (h : cut ≤ length bytes) (few : length bytes % 8 ≡ 0) (e : (cut ≡ 64) ⊎ (cut ≡ length bytes)) where
  pub front_eights : length (take cut bytes) % 8 ≡ 0
  front_eights = rw (length-take-le cut bytes h) (eights cut (length bytes) few e)

  -- the part behind the cut
  pub back_is : take (length bytes - cut) (drop cut bytes) ≡ drop cut bytes
  back_is = take_all (length bytes - cut) (drop cut bytes) (rw length-drop (omega arith))

  pub back_eights : length (take (length bytes - cut) (drop cut bytes)) % 8 ≡ 0
  back_eights = rw (back_is, length-drop) (omega (arith, eights cut (length bytes) few e))

  pub front_asked : cut ≤ 64 → Bytes bytes → (length (take cut bytes) ≤ 64) × (length (take cut bytes) % 8 ≡ 0) × Bytes (take cut bytes)
  front_asked l b = (rw (length-take-le cut bytes h) l, front_eights, bytes_take cut bytes b)

  pub back_asked : length bytes ≤ 128 → Bytes bytes
      → (length (take (length bytes - cut) (drop cut bytes)) ≤ 64) × (length (take (length bytes - cut) (drop cut bytes)) % 8 ≡ 0) × Bytes (take (length bytes - cut) (drop cut bytes))
  back_asked l b = (rw (back_is, length-drop) (rest e), back_eights, rw back_is (bytes_drop cut bytes b))
    where
      rest : (cut ≡ 64) ⊎ (cut ≡ length bytes) → length bytes - cut ≤ 64
      rest (inl q) = omega arith
      rest (inr q) = omega arith

  -- a word from the bits of both parts
  pub gathered_both : (j v : ℕ) {low high : ℕ} → low ≡ bits_of j (take cut bytes) → high ≡ bits_of j (take (length bytes - cut) (drop cut bytes)) → v ≡ high * 2 ^ 64 + low → v ≡ bits_of j bytes
  gathered_both j v a b q = q ∙ ap₂ (λ (x y : ℕ). x * 2 ^ 64 + y) (b ∙ ap (bits_of j) back_is) a ∙ bits_cut j cut bytes h e

-- ---- spread

pub length_pairs : (k a b : ℕ) → length (pairs_of k a b) ≡ k
unfolding pairs_of
length_pairs zero a b = refl
length_pairs (suc k) a b = ap suc (length_pairs k (a / 2) (b / 2))

pairs_bytes : (k a b : ℕ) → Bytes (pairs_of k a b)
unfolding pairs_of
pairs_bytes zero a b i = omega arith
pairs_bytes (suc k) a b zero = omega arith
pairs_bytes (suc k) a b (suc i) = pairs_bytes k (a / 2) (b / 2) i

pairs_joined : (n v u : ℕ) → joined (digits n v) + 2 * joined (digits n u) ≡ joined (pairs_of n v u)
unfolding joined digits pairs_of
pairs_joined zero v u = refl
pairs_joined (suc n) v u = omega (arith, pairs_joined n (v / 2) (u / 2))

bytes_pairs : (v u : ℕ) → bytes_of 8 (joined (digits 8 v) + 2 * joined (digits 8 u)) ≡ pairs_of 8 v u
bytes_pairs v u = ap (bytes_of 8) (pairs_joined 8 v u) ∙ rw (length_pairs 8 v u) at (bytes_joined (pairs_of 8 v u) (pairs_bytes 8 v u))

pairs_add : (k m a b : ℕ) → pairs_of (k + m) a b ≡ pairs_of k a b ++ pairs_of m (a / 2 ^ k) (b / 2 ^ k)
unfolding pairs_of
pairs_add zero m a b = rw (zero-add, div-one, div-one)
pairs_add (suc k) m a b = rw (suc-add, pairs_add k m (a / 2) (b / 2), shift_more a k, shift_more b k)

pairs_low : (k a b : ℕ) → pairs_of k (a % 2 ^ k) (b % 2 ^ k) ≡ pairs_of k a b
unfolding pairs_of
pairs_low zero a b = refl
pairs_low (suc k) a b =
    rw (← add-one k, mod-mod-pow a k 1, mod-mod-pow b k 1, field a k 1, field b k 1) (ap {B = List ℕ} (λ r. (a % 2 + 2 * (b % 2)) ∷ r) (pairs_low k (a / 2) (b / 2)))

pub spread_turn : (out : List ℕ) (n at a b : ℕ) → at + 8 ≤ length out → length out ≡ n
    → take (at + 8) (sets out at (pairs_of 8 (a % 256) (b % 256))) ++ pairs_of (n - (at + 8)) (a / 256) (b / 256) ≡ take at out ++ pairs_of (n - at) a b
spread_turn out n at a b h l =
    let vs : List ℕ = pairs_of 8 (a % 256) (b % 256) in
    let len : length vs ≡ 8 = length_pairs 8 (a % 256) (b % 256) in
    let room : at + length vs ≤ length out = omega arith in
    let long : length (take at out ++ vs) ≡ at + 8 = rw (length-append (take at out) vs, length-take-le at out (omega arith), len) in
    let more : n - at ≡ 8 + (n - (at + 8)) = omega arith in
    ap (λ (r : List ℕ). take (at + 8) r ++ pairs_of (n - (at + 8)) (a / 256) (b / 256)) (sets-eq vs out at room)
    ∙ ap (λ (r : List ℕ). r ++ pairs_of (n - (at + 8)) (a / 256) (b / 256)) (take_at (take at out ++ vs) (drop (at + length vs) out) (at + 8) long)
    ∙ append_assoc (take at out) vs (pairs_of (n - (at + 8)) (a / 256) (b / 256))
    ∙ ap (λ (r : List ℕ). take at out ++ (r ++ pairs_of (n - (at + 8)) (a / 256) (b / 256))) (pairs_low 8 a b)
    ∙ ap (λ (r : List ℕ). take at out ++ r) (sym (ap (λ (k : ℕ). pairs_of k a b) more ∙ pairs_add 8 (n - (at + 8)) a b))

pub put_pairs : (a b : ℕ) {x y : ℕ} → x ≡ joined (digits 8 (a % 256)) → y ≡ joined (digits 8 (b % 256)) → bytes_of 8 (x + 2 * y) ≡ pairs_of 8 (a % 256) (b % 256)
put_pairs a b ex ey = ap₂ (λ (x y : ℕ). bytes_of 8 (x + 2 * y)) ex ey ∙ bytes_pairs (a % 256) (b % 256)

-- beside a second word of 0, the bytes are the digits of the first
pub pairs_digits : (n a : ℕ) → pairs_of n a 0 ≡ digits n a
unfolding pairs_of digits
pairs_digits zero a = refl
pairs_digits (suc n) a = ap₂ {C = List ℕ} (λ c cs. c ∷ cs) (add-zero (a % 2)) (pairs_digits n (a / 2))

-- no more digits than a list has bytes are read
pairs_cut : (k : ℕ) → k ≤ 64 → (a b : ℕ) → pairs_of k (a % 2 ^ 64) (b % 2 ^ 64) ≡ pairs_of k a b
pairs_cut k h a b =
    sym (pairs_low k (a % 2 ^ 64) (b % 2 ^ 64)) ∙ ap₂ (pairs_of k) (mod_less k h a) (mod_less k h b) ∙ pairs_low k a b
  where
    mod_less : (k : ℕ) → k ≤ 64 → (a : ℕ) → a % 2 ^ 64 % 2 ^ k ≡ a % 2 ^ k
    mod_less k h a =
        let e : 64 ≡ 64 - k + k = omega arith in
        ap (λ (n : ℕ). a % 2 ^ n % 2 ^ k) e ∙ mod-mod-pow a (64 - k) k

-- the first 64 bytes by the low digits, those behind them by the digits above
spread_cut : (cut n a b : ℕ) → cut ≤ n → cut ≤ 64 → (cut ≡ 64) ⊎ (cut ≡ n)
    → pairs_of cut (a % 2 ^ 64) (b % 2 ^ 64) ++ pairs_of (n - cut) (a / 2 ^ 64) (b / 2 ^ 64) ≡ pairs_of n a b
unfolding pairs_of
spread_cut cut n a b h l (inl e) =
    let m : 64 + (n - 64) ≡ n = omega arith in
    rw e (ap (λ (x : List ℕ). x ++ pairs_of (n - 64) (a / 2 ^ 64) (b / 2 ^ 64)) (pairs_cut 64 (omega arith) a b) ∙ sym (pairs_add 64 (n - 64) a b) ∙ ap (λ (k : ℕ). pairs_of k a b) m)
spread_cut cut n a b h l (inr e) =
    let z : n - n ≡ 0 = omega arith in
    rw (e, z) (append-nil (pairs_of n (a % 2 ^ 64) (b % 2 ^ 64)) ∙ pairs_cut n (omega arith) a b)

-- both parts written, y and then z
module _ (cut : ℕ) (bytes y z : List ℕ) (h : cut ≤ length bytes) (few : length bytes % 8 ≡ 0) (e : (cut ≡ 64) ⊎ (cut ≡ length bytes)) (long : length y ≡ length (take cut bytes)) where
  abbrev half : List ℕ
  half = y ++ drop cut bytes

  y_long : length y ≡ cut
  y_long = long ∙ length-take-le cut bytes h

  half_long : length half ≡ length bytes
  half_long = rw (length-append, y_long, length-drop) (omega arith)

  behind_half : drop cut half ≡ drop cut bytes
  behind_half = drop_at y (drop cut bytes) cut y_long

  pub half_eights : length (take (length half - cut) (drop cut half)) % 8 ≡ 0
  half_eights = rw (half_long, behind_half) (back_eights cut bytes h few e)

  pub spread_both : (a b : ℕ) {la lb ha hb : ℕ} → cut ≤ 64 → la ≡ a % 2 ^ 64 → lb ≡ b % 2 ^ 64 → ha ≡ a / 2 ^ 64 → hb ≡ b / 2 ^ 64
      → y ≡ pairs_of (length (take cut bytes)) la lb → z ≡ pairs_of (length (take (length half - cut) (drop cut half))) ha hb
      → put_mid cut (length half - cut) half z ≡ pairs_of (length bytes) a b
  spread_both a b l q1 q2 q3 q4 ey ez =
      let none : drop (length half - cut) (drop cut half) ≡ [] = drop_of_length-le (drop cut half) {i = length half - cut} (rw (length-drop cut half) (omega arith)) in
      let front : take cut half ≡ y = take_at y (drop cut bytes) cut y_long in
      let backs : length (take (length half - cut) (drop cut half)) ≡ length bytes - cut = rw (half_long, behind_half, back_is cut bytes h few e, length-drop) refl in
      let first : y ≡ pairs_of cut (a % 2 ^ 64) (b % 2 ^ 64) = rw (length-take-le cut bytes h, q1, q2) at ey in
      let second : z ≡ pairs_of (length bytes - cut) (a / 2 ^ 64) (b / 2 ^ 64) = rw (backs, q3, q4) at ez in
      ap₂ (λ (u v : List ℕ). u ++ (z ++ v)) front none ∙ ap (λ (u : List ℕ). y ++ u) (append-nil z)
      ∙ ap₂ (λ (u v : List ℕ). u ++ v) first second
      ∙ spread_cut cut (length bytes) a b h l e
