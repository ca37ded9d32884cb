-- Words that are 0: their test, a word a turn, and their transpose.
-- Assumes nothing.
use mathlib.Core.Path.{◌≡◌, refl, sym, ap, subst, ◌∙◌}
use mathlib.Core.Bool.{Bool, true, ◌&&◌}
use mathlib.Core.List.{List}
use mathlib.Core.Logic.{dite}
use Prim.Native.Nat.{ℕ, zero, suc, ◌+◌, ◌/◌, ◌%◌, ◌^◌}
use native.Mathlib.Nat.{zero-div}
use native.Mathlib.Decide.{dec_lt}
use native.Mathlib.Omega.{arith}
use lib.Bits.{bit_or, or_add_and, and_le_r}
use lib.Dec.{T, eqb, eqb→eq}
use lib.ListN.{length, get_or, get_or-eq_default}
use borrow.Author.Tests.{ne_eqb}
use Rattle.laws.specs.Tests.{every}
use Rattle.laws.proofs.Tests.{every_at, every_next}
use Rattle.words.specs.Working.Network.{Turned}

-- the first k words are 0
abbrev pub are_zero : List ℕ → ℕ → Bool
are_zero words k = every (λ i. eqb (get_or words i 0) 0) k

-- two words joined are 0 where both are
or_is_zero : (x y : ℕ) → eqb (bit_or x y) 0 ≡ (eqb y 0 && eqb x 0)
or_is_zero zero zero = refl
or_is_zero zero (suc y) = ne_eqb (suc y) 0 (λ e. omega arith) ∙ sym (ap (λ (b : Bool). b && true) (ne_eqb (suc y) 0 (λ e. omega arith)))
or_is_zero (suc x) zero =
    ne_eqb (bit_or (suc x) 0) 0 (λ e. omega (arith, or_add_and (suc x) 0, and_le_r (suc x) 0)) ∙ sym (ne_eqb (suc x) 0 (λ e. omega arith))
or_is_zero (suc x) (suc y) =
    ne_eqb (bit_or (suc x) (suc y)) 0 (λ e. omega (arith, or_add_and (suc x) (suc y), and_le_r (suc x) (suc y)))
    ∙ sym (ap (λ (b : Bool). b && eqb (suc x) 0) (ne_eqb (suc y) 0 (λ e. omega arith)))

-- one word more
pub zeros_next : (words : List ℕ) (i any : ℕ) → eqb any 0 ≡ are_zero words i → eqb (bit_or any (get_or words i 0)) 0 ≡ are_zero words (i + 1)
zeros_next words i any h = or_is_zero any (get_or words i 0) ∙ every_next (λ i. eqb (get_or words i 0) 0) i refl h

-- 64 numbers that are 0 are the transpose of such numbers
pub nothing_turned : (a b : List ℕ) → ((i : ℕ) → get_or a i 0 ≡ 0) → length b ≡ 64 → ((i : ℕ) → get_or b i 0 ≡ 0) → Turned a b
nothing_turned a b y l z = record {
  long = l;
  small = λ i. rw (z i) (omega arith);
  bits = λ i j p q. rw (z i, y j) (zero_bit j ∙ sym (zero_bit i));
}
  where
    zero_bit : (j : ℕ) → 0 / 2 ^ j % 2 ≡ 0
    zero_bit j = ap (λ (x : ℕ). x % 2) (zero-div (2 ^ j))

-- and they are their own
pub zeros_turned : (a : List ℕ) → length a ≡ 64 → are_zero a (length a) ≡ true → Turned a a
zeros_turned a l e = nothing_turned a a zero_at l zero_at
  where
    zero_at : (i : ℕ) → get_or a i 0 ≡ 0
    zero_at i =
        dite (dec_lt i (length a))
        (λ h. eqb→eq (get_or a i 0) 0 (every_at (λ i. eqb (get_or a i 0) 0) (length a) (subst T (sym e) tt) h))
        (λ h. get_or-eq_default a 0 {n = i} (omega arith))
