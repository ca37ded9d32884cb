-- The two sums: bytes added one after the other, how large the sums get, and reduced only at the end they are Fletcher's.
-- Assumes nothing.
use mathlib.Core.Path.{◌≡◌, refl, sym, ap, ap₂, ◌∙◌}
use mathlib.Core.List.{List, [], ◌∷◌, ◌++◌}
use Prim.Native.Nat.{ℕ, zero, suc, ◌+◌, ◌*◌, ◌%◌, ◌<◌, ◌≤◌}
use native.Mathlib.Nat.{add-zero, mul-zero, mul-suc, mul-le-mul_right}
use native.Mathlib.Numerals.{add-one}
use native.Mathlib.Omega.{arith}
use lib.ListN.{length, get_or, take, replicate}
use lib.Seq.{take-suc}
use Rattle.blocks.specs.Blocks.{fletcher}
use Rattle.blocks.specs.Working.Adding.{Bytes, added, Room}

pub added_append : (s : ℕ × ℕ) (xs ys : List ℕ) → added s (xs ++ ys) ≡ added (added s xs) ys
unfolding added
added_append s [] ys = refl
added_append s (x ∷ xs) ys = added_append (s.0 + x, s.1 + (s.0 + x)) xs ys

-- one byte more of a list
pub added_next : (s : ℕ × ℕ) (xs : List ℕ) (i : ℕ) → i < length xs → added (added s (take i xs)) (get_or xs i 0 ∷ []) ≡ added s (take (i + 1) xs)
added_next s xs i h = sym (rw (add-one i, take-suc xs i 0 h) (added_append s (take i xs) (get_or xs i 0 ∷ [])))

pub added_zeros : (a b n : ℕ) → added (a, b) (replicate n 0) ≡ (a, b + a * n)
unfolding added
added_zeros a b zero = ap (λ (x : ℕ). (a, x)) (omega (arith, mul-zero a))
added_zeros a b (suc n) =
    ap (λ (x : ℕ). added (x, b + x) (replicate n 0)) (add-zero a) ∙ added_zeros a (b + a) n ∙ ap (λ (x : ℕ). (a, x)) (omega (arith, mul-suc a n))

-- those of four bytes
pub added_four : (a b c e : ℕ) → ◌≡◌ {A = ℕ × ℕ} (a + b + c + e, a + (a + b) + (a + b + c) + (a + b + c + e)) (added (0, 0) (a ∷ b ∷ c ∷ e ∷ []))
unfolding added
added_four a b c e =
    let first : a + b + c + e ≡ 0 + a + b + c + e = omega arith in
    let second : a + (a + b) + (a + b + c) + (a + b + c + e) ≡ 0 + (0 + a) + (0 + a + b) + (0 + a + b + c) + (0 + a + b + c + e) = omega arith in
    ap₂ (λ (x y : ℕ). (x, y)) first second

pub four_small : {a b c e : ℕ} → a < 256 → b < 256 → c < 256 → e < 256 → Bytes (a ∷ b ∷ c ∷ e ∷ [])
four_small p q r s zero = p
four_small p q r s (suc zero) = q
four_small p q r s (suc (suc zero)) = r
four_small p q r s (suc (suc (suc zero))) = s
four_small p q r s (suc (suc (suc (suc i)))) = omega arith

-- ---- room for more bytes

pub room_start : Room 510 (0, 0)
room_start = record { first = omega arith; second = omega arith }

pub room_fewer : (m n : ℕ) (s : ℕ × ℕ) → m ≤ n → Room n s → Room m s
room_fewer m n s h r = record { first = omega (arith, r.first); second = omega (arith, r.second) }

pub room_added : (n : ℕ) (s : ℕ × ℕ) (xs : List ℕ) → Bytes xs → Room (length xs + n) s → Room n (added s xs)
unfolding added
room_added n s [] h r = room_fewer n (0 + n) s (omega arith) r
room_added n s (x ∷ xs) h r =
    room_added n (s.0 + x, s.1 + (s.0 + x)) xs (λ i. h (suc i))
    (record { first = omega (arith, h 0, r.first); second = omega (arith, h 0, r.first, r.second) })

-- A as often as there are bytes of zero
pub room_zeros : (n a b : ℕ) → Room n (a, b) → (a * n ≤ 66325500) × (b + a * n ≤ 66325500)
room_zeros n a b r =
    let h : a * n ≤ 130050 * n = mul-le-mul_right {m = a} {n = 130050} n (omega (arith, r.first)) in
    (omega (arith, r.second), omega (arith, r.second))

-- ---- reduced at the end

mod_sum : (p q : ℕ) → (p % 255 + q % 255) % 255 ≡ (p + q) % 255
mod_sum p q = omega arith

pub sums_reduced : (s : ℕ × ℕ) (xs : List ℕ) → fletcher (s.0 % 255) (s.1 % 255) xs ≡ ((added s xs).0 % 255, (added s xs).1 % 255)
unfolding fletcher added
sums_reduced s [] = refl
sums_reduced s (x ∷ xs) =
    let a : (s.0 % 255 + x) % 255 ≡ (s.0 + x) % 255 = omega arith in
    let b : (s.1 % 255 + (s.0 % 255 + x) % 255) % 255 ≡ (s.1 + (s.0 + x)) % 255 =
    ap (λ (y : ℕ). (s.1 % 255 + y) % 255) a ∙ mod_sum s.1 (s.0 + x) in
    ap₂ (λ (p q : ℕ). fletcher p q xs) a b ∙ sums_reduced (s.0 + x, s.1 + (s.0 + x)) xs
