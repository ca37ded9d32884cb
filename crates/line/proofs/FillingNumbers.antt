-- The two numbers of a filling word: document 02, W-212, "low word first"; document 01, "One line": "bit i serves cell i", and "bits from n
-- up are not read".
-- Assumes nothing.
use mathlib.Core.Path.{◌≡◌, refl, sym, ap, ap₂, ◌∙◌}
use mathlib.Core.Bool.{cond}
use mathlib.Core.List.{List, [], ◌∷◌}
use Prim.Native.Nat.{ℕ, zero, suc, ◌-◌, ◌/◌, ◌%◌, ◌^◌, ◌<◌, ◌≤◌}
use native.Mathlib.Nat.{div-one, zero-lt-suc, le_of_suc-le-suc, not-suc-le-zero, min-le_left}
use native.Mathlib.Omega.{arith}
use lib.ListN.{length, take, drop, length-take}
use lib.Pow as pow
use Rattle.laws.specs.Working.Bits.{bit_at}
use Rattle.laws.proofs.Bits.{shift_more, mod_at}
use Rattle.line.specs.declared.side.Side.{Side}
use Rattle.line.specs.declared.side.Side.TheVariants.{One, Two}
use Rattle.line.specs.Cells.{is_erased, filling_word, filling_bit, filled}

-- ---- bits from n up are not read: words with the same n lowest bits fill a line of at most n cells alike

same_bit : (s : Side) (f g : ℕ) → f % 2 ≡ g % 2 → filling_bit s f ≡ filling_bit s g
same_bit One f g e = e
same_bit Two f g e = ap (λ (b : ℕ). 1 - b) e

pub unread : (s : Side) (n : ℕ) (y : List ℕ) (f g : ℕ) → length y ≤ n → ((k : ℕ) → k < n → bit_at f k ≡ bit_at g k) → filled s y f ≡ filled s y g
unfolding filled
unread s n [] f g h same = refl
unread s zero (c ∷ cs) f g h same = absurd (not-suc-le-zero h)
unread s (suc n) (c ∷ cs) f g h same =
    let first : f % 2 ≡ g % 2 = rw (div-one f, div-one g) at (same 0 (zero-lt-suc n)) in
    let rest : (k : ℕ) → k < n → bit_at (f / 2) k ≡ bit_at (g / 2) k =
    λ k l. ap (λ (x : ℕ). x % 2) (sym (shift_more f k)) ∙ same (suc k) (omega arith) ∙ ap (λ (x : ℕ). x % 2) (shift_more g k) in
    ap₂ (λ (b : ℕ) (l : List ℕ). cond (is_erased c) b c ∷ l) (same_bit s f g first) (unread s n cs (f / 2) (g / 2) (le_of_suc-le-suc h) rest)

-- ---- a line cut in two

filled_take : (s : Side) (k : ℕ) (y : List ℕ) (f : ℕ) → take k (filled s y f) ≡ filled s (take k y) f
unfolding filled
filled_take s zero y f = refl
filled_take s (suc k) [] f = refl
filled_take s (suc k) (c ∷ cs) f = ap (λ (l : List ℕ). cond (is_erased c) (filling_bit s f) c ∷ l) (filled_take s k cs (f / 2))

filled_drop : (s : Side) (k : ℕ) (y : List ℕ) (f : ℕ) → drop k (filled s y f) ≡ filled s (drop k y) (f / 2 ^ k)
unfolding filled
filled_drop s zero y f = ap (filled s y) (sym (div-one f))
filled_drop s (suc k) [] f = refl
filled_drop s (suc k) (c ∷ cs) f = filled_drop s k cs (f / 2) ∙ ap (filled s (drop k cs)) (sym (shift_more f k))

-- the high number serves the cells from 64 on, the low one those below
module _ (s : Side) (y : List ℕ) (low high : ℕ) (fits : low < 2 ^ 64) where
  pub by_high : drop 64 (filled s y (filling_word low high)) ≡ filled s (drop 64 y) high
  by_high = filled_drop s 64 y (filling_word low high) ∙ ap (filled s (drop 64 y)) (pow.high high 64 fits)

  pub by_low : take 64 (filled s y (filling_word low high)) ≡ filled s (take 64 y) low
  by_low =
      filled_take s 64 y (filling_word low high)
      ∙ unread s 64 (take 64 y) (filling_word low high) low (rw (length-take 64 y) (min-le_left 64 (length y))) (λ k l. sym (mod_at (filling_word low high) 64 k l) ∙ ap (λ (x : ℕ). bit_at x k) (pow.low high 64 fits))
