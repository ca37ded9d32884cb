-- Decimal numbers: what the recursion of the code writes, and that 20 digits hold 64 bits.
-- Assumes nothing.
use mathlib.Core.Path.{◌≡◌, sym, ap, ◌∙◌}
use mathlib.Core.Logic.{dite}
use mathlib.Core.List.{List, [], ◌∷◌, ◌++◌}
use Prim.Native.Nat.{ℕ, zero, suc, ◌+◌, ◌/◌, ◌%◌, ◌^◌, ◌<◌, ◌≤◌}
use native.Mathlib.Nat.{div-lt_iff_lt-mul, pow-suc}
use native.Mathlib.Decide.{dec_lt}
use native.Mathlib.Omega.{arith}
use borrow.Author.Tests.{lt-ltb, le-ltb}
use lib.ListN.{length, length-append}
use Rattle.text.specs.Text.{decimal_digits, decimal}

pub less : (n : ℕ) → 10 ≤ n → n / 10 < n
less n h = omega arith

small : (k n : ℕ) → n < 10 → decimal_digits (suc k) n ≡ (48 + n) ∷ []
unfolding decimal_digits
small k n h = rw (lt-ltb n 10 h)

more : (k n : ℕ) → 10 ≤ n → decimal_digits (suc k) n ≡ decimal_digits k (n / 10) ++ ((48 + n % 10) ∷ [])
unfolding decimal_digits
more k n h = rw (le-ltb n 10 h)

-- the digits do not hang on how many are allowed, where these are enough
enough : (k j n : ℕ) → n < k → n < j → decimal_digits k n ≡ decimal_digits j n
enough zero j n h l = absurd (omega arith)
enough (suc k) zero n h l = absurd (omega arith)
enough (suc k) (suc j) n h l = pick (enough k j (n / 10))
  where
    pick : (n / 10 < k → n / 10 < j → decimal_digits k (n / 10) ≡ decimal_digits j (n / 10)) → decimal_digits (suc k) n ≡ decimal_digits (suc j) n
    pick ih =
        dite (dec_lt n 10)
        (λ q. small k n q ∙ sym (small j n q))
        (λ q.
        let b : 10 ≤ n = omega arith in
        more k n b ∙ ap (λ (x : List ℕ). x ++ ((48 + n % 10) ∷ [])) (ih (omega (arith, less n b)) (omega (arith, less n b))) ∙ sym (more j n b))

pub decimal_small : (n : ℕ) → n < 10 → decimal n ≡ (48 + n) ∷ []
unfolding decimal
decimal_small n h = small n n h

pub decimal_more : (n : ℕ) → 10 ≤ n → decimal n ≡ decimal (n / 10) ++ ((48 + n % 10) ∷ [])
unfolding decimal
decimal_more n h =
    more n n h ∙ ap (λ (x : List ℕ). x ++ ((48 + n % 10) ∷ [])) (enough n (suc (n / 10)) (n / 10) (less n h) (omega arith))

-- one digit more than without the last
pub decimal_rest : (n : ℕ) → 10 ≤ n → length (decimal n) ≡ length (decimal (n / 10)) + 1
decimal_rest n h = rw (decimal_more n h) (length-append (decimal (n / 10)) ((48 + n % 10) ∷ []))

-- k digits hold the numbers below 10 to the power k
fits : (k n : ℕ) → n < 10 ^ suc k → length (decimal n) ≤ suc k
fits zero n h = rw (decimal_small n h) (omega arith)
fits (suc k) n h = pick (fits k (n / 10))
  where
    pick : (n / 10 < 10 ^ suc k → length (decimal (n / 10)) ≤ suc k) → length (decimal n) ≤ suc (suc k)
    pick ih =
        dite (dec_lt n 10)
        (λ q. rw (decimal_small n q) (omega arith))
        (λ q.
        let b : 10 ≤ n = omega arith in
        let l = ih ((div-lt_iff_lt-mul (omega arith)).1 (rw (pow-suc 10 (suc k)) at h)) in
        rw (decimal_more n b, length-append (decimal (n / 10)) ((48 + n % 10) ∷ [])) (omega arith))

pub decimal_length : (n : ℕ) → n < 2 ^ 64 → length (decimal n) ≤ 20
decimal_length n h = fits 19 n (omega arith)
