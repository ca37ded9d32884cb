-- Damage of one byte: it changes sum A, but where 0 and 255 were exchanged, and so test 6 applies.
-- Assumes nothing.
use mathlib.Core.Path.{◌≡◌, sym, ap, ◌∙◌}
use mathlib.Core.Bool.{true}
use mathlib.Core.Logic.{◌⊎◌, inl, inr, dite}
use mathlib.Core.List.{List, [], ◌∷◌}
use Prim.Native.Nat.{ℕ, zero, suc, ◌+◌, ◌%◌, ◌<◌}
use native.Mathlib.Decide.{dec_lt}
use native.Mathlib.Omega.{arith}
use lib.Dec.{eqb}
use lib.ListN.{length, get_or, take, set}
use lib.Seq.{get_or-take, get_or-set_other, take-set-lt, length-take-le}
use borrow.Author.Tests.{eqb-true}
use Rattle.laws.proofs.Tests.{and_true}
use Rattle.line.specs.Cells.{cell}
use Rattle.blocks.specs.Blocks.{sum_a, sum_b, summed}
use Rattle.blocks.specs.Working.Adding.{Bytes, added}
use Rattle.blocks.proofs.AddingLaws.{sums_reduced}

-- the bytes added up
unfoldable total : List ℕ → ℕ
total [] = 0
total (x ∷ xs) = x + total xs

total_added : (s : ℕ × ℕ) (xs : List ℕ) → (added s xs).0 ≡ s.0 + total xs
unfolding added total
total_added s [] = omega arith
total_added s (x ∷ xs) = total_added (s.0 + x, s.1 + (s.0 + x)) xs ∙ omega arith

sum_total : (xs : List ℕ) → sum_a xs ≡ total xs % 255
sum_total xs = ap (λ (u : ℕ × ℕ). u.0) (sums_reduced (0, 0) xs) ∙ ap (λ (n : ℕ). n % 255) (total_added (0, 0) xs ∙ omega arith)

total_set : (xs : List ℕ) (p y : ℕ) → p < length xs → total (set xs p y) + get_or xs p 0 ≡ total xs + y
unfolding total
total_set [] p y h = absurd (omega arith)
total_set (x ∷ xs) zero y h = omega arith
total_set (x ∷ xs) (suc p) y h = omega (arith, total_set xs p y (omega arith))

-- 0 and 255, one in the other's place
abbrev pub Exchanged : ℕ → ℕ → Type 0
Exchanged x y = ((x ≡ 0) × (y ≡ 255)) ⊎ ((x ≡ 255) × (y ≡ 0))

same_sum : (s t x y : ℕ) → t + x ≡ s + y → t % 255 ≡ s % 255 → x < 256 → y < 256 → (y ≡ x) ⊎ Exchanged x y
same_sum s t x y e f hx hy =
    dite (dec_lt x y) (λ l. inr (inl (omega arith, omega arith))) (λ n. dite (dec_lt y x) (λ l. inr (inr (omega arith, omega arith))) (λ m. inl (omega arith)))

-- one byte among xs was x and is y: sum A tells, but of an exchange of 0 and 255
pub change_seen : (xs : List ℕ) (p y : ℕ) → Bytes xs → p < length xs → y < 256 → sum_a (set xs p y) ≡ sum_a xs
    → (y ≡ get_or xs p 0) ⊎ Exchanged (get_or xs p 0) y
change_seen xs p y h l hy e =
    same_sum (total xs) (total (set xs p y)) (get_or xs p 0) y (total_set xs p y l) (sym (sum_total (set xs p y)) ∙ e ∙ sum_total xs) (h p) hy

-- so where a block passes test 6, and still does with one of its bytes 0 to 509 changed, that was such an exchange
pub change_refused : (k : List ℕ) (p y : ℕ) → length k ≡ 512 → Bytes (take 510 k) → p < 510 → y < 256 → summed k ≡ true → summed (set k p y) ≡ true
    → (y ≡ cell k p) ⊎ Exchanged (cell k p) y
unfolding summed
change_refused k p y l h hp hy e f =
    let a = eqb-true (cell k 510) (sum_a (take 510 k)) (and_true (eqb (cell k 510) (sum_a (take 510 k))) (eqb (cell k 511) (sum_b (take 510 k))) e).0 in
    let b = eqb-true (cell (set k p y) 510) (sum_a (take 510 (set k p y))) (and_true (eqb (cell (set k p y) 510) (sum_a (take 510 (set k p y)))) (eqb (cell (set k p y) 511) (sum_b (take 510 (set k p y)))) f).0 in
    let kept : cell (set k p y) 510 ≡ cell k 510 = get_or-set_other k p 510 y 0 (λ q. omega arith) in
    let same : sum_a (set (take 510 k) p y) ≡ sum_a (take 510 k) = ap sum_a (sym (take-set-lt 510 k p y hp)) ∙ sym b ∙ kept ∙ a in
    rw (get_or-take 510 k p 0 hp) at (change_seen (take 510 k) p y h (rw (length-take-le 510 k (omega arith)) hp) hy same)
