-- Numbers in decimal: one digit more at the front of those that are written, and what std writes for a number.
-- Assumes nothing.
use Rattle.std.proofs.Common.{◌≡◌, ℕ, zero, suc, ◌+◌, ◌-◌, ◌/◌, ◌%◌, ◌^◌, ◌<◌, ◌≤◌, List, [], ◌∷◌, ◌++◌, length, take, drop, set, decimal, sym, ap, subst, ◌∙◌, add-one, arith}
use Rattle.std.proofs.Math.Numerals.{sub-one}
use Rattle.std.proofs.Math.Seq.{take-set-lt, append_snoc}
use Rattle.std.proofs.lemmas.List.{drop-set, length-take-le}
use Rattle.std.proofs.lemmas.Fmt.{decimal_digit, decimal_step}
use Rattle.std.proofs.Math.Nat.{one-le-pow, not-suc-le-zero}
use Rattle.second.specs.Working.Digits.{last_digits, IsDigitCount}

-- a digit moves from those still to write to the front of those that are written
pub digits_next : (i many rest : ℕ) (room : List ℕ) → 0 < i → i ≤ many → many ≤ length room
    → last_digits (i - 1) (rest / 10) ++ drop (i - 1) (take many (set room (i - 1) (48 + rest % 10))) ≡ last_digits i rest ++ drop i (take many room)
digits_next zero many rest room some h within = absurd (not-suc-le-zero some)
digits_next (suc j) many rest room some h within =
    let front = last_digits j (rest / 10) in
    let digit = 48 + rest % 10 in
    let cells = take many room in
    let inside : j < length cells = subst (λ (n : ℕ). j < n) (sym (length-take-le many room within)) h in
    ap (λ (m : ℕ). last_digits m (rest / 10) ++ drop m (take many (set room m digit))) (sub-one (suc j))
    ∙ ap (λ (l : List ℕ). front ++ drop j l) (take-set-lt many room j digit h)
    ∙ ap (λ (l : List ℕ). front ++ l) (drop-set cells j digit inside ∙ ap (λ (m : ℕ). digit ∷ drop m cells) (add-one j))
    ∙ sym (append_snoc front digit (drop (suc j) cells))

-- the last digits of a number, as many as it has, are the number in decimal
pub last_digits-decimal : (k number : ℕ) → IsDigitCount number k → number < 2 ^ 64 → last_digits k number ≡ decimal number
last_digits-decimal zero number count fits = absurd (not-suc-le-zero count.0)
last_digits-decimal (suc zero) number count fits =
    let small : number < 10 = omega (arith, count.1) in
    let alone : number % 10 ≡ number = omega arith in
    ap (λ (d : ℕ). (48 + d) ∷ []) alone ∙ sym (decimal_digit number small)
last_digits-decimal (suc (suc k)) number count fits =
    let some : 1 ≤ 10 ^ k = one-le-pow k 10 (omega arith) in
    let large : 10 ^ suc k ≤ number = subst (λ (j : ℕ). 10 ^ j ≤ number) (sub-one (suc (suc k))) (count.2 (omega arith)) in
    let fewer : 10 ^ (suc k - 1) ≤ number / 10 = subst (λ (j : ℕ). 10 ^ j ≤ number / 10) (sym (sub-one (suc k))) (omega arith) in
    let front : last_digits (suc k) (number / 10) ≡ decimal (number / 10) = last_digits-decimal (suc k) (number / 10) (omega arith, omega (arith, count.1), λ _. fewer) (omega arith) in
    ap (λ (l : List ℕ). l ++ ((48 + number % 10) ∷ [])) front ∙ sym (decimal_step number (omega arith) fits)
