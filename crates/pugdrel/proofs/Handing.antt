-- A slice is handed on whole where the report has its length, and empty where not. What the call below then gives is what the
-- call gives that has the report's length among its tests.
-- Assumes nothing.
use mathlib.Core.Path.{◌≡◌, refl, sym, ◌∙◌}
use mathlib.Core.Bool.{Bool, true, false, cond, not}
use mathlib.Core.List.{List, [], ◌∷◌}
use Prim.Native.Nat.{ℕ, ◌*◌, ◌^◌, ◌≤◌}
use native.Mathlib.Nat.{mul-le-mul}
use native.Mathlib.Omega.{arith}
use lib.Pow.{pow_pos}
use lib.ListN.{length, take}
use lib.Seq.{take_all, length-take-le}
use borrow.Author.Tests.{ne_eqb}
use Rattle.degree.specs.declared.Degree.{Degree}
use Rattle.line.specs.Refusals.{refusal, given, misfit}
use Rattle.line.proofs.Refusing.{given_none}

-- ---- the part that is handed on

pub lent_le : (fit : Bool) (s : List ℕ) {x : ℕ} → x ≡ cond fit (length s) 0 → x ≤ length s
lent_le true s e = omega arith
lent_le false s e = omega arith

pub lent_length : (fit : Bool) (s : List ℕ) {x : ℕ} → x ≡ cond fit (length s) 0 → x ≡ length (take x s)
lent_length fit s {x} e = sym (length-take-le x s (lent_le fit s e))

pub lent_part : (fit : Bool) (s : List ℕ) {x : ℕ} → x ≡ cond fit (length s) 0 → take x s ≡ cond fit s []
lent_part true s {x} e = take_all x s (omega arith)
lent_part false s e = rw e

-- ---- lengths that are wrong

-- no cells are neither n nor n by n
pub no_line : (degree : ℕ) → misfit 0 (2 ^ degree) ≡ true
no_line degree = rw (ne_eqb 0 (2 ^ degree) (λ e. omega (arith, pow_pos degree)))

pub no_array : (degree : ℕ) → misfit 0 (2 ^ degree * 2 ^ degree) ≡ true
no_array degree =
    let h : 1 ≤ 2 ^ degree * 2 ^ degree = mul-le-mul {n₁ = 1} {m₁ = 1} (pow_pos degree) (pow_pos degree) in
    rw (ne_eqb 0 (2 ^ degree * 2 ^ degree) (λ e. omega arith))

-- ---- two calls that come to the same

-- `tests` are those of a call by the slice that it is lent and by whether further lengths are wrong: a length that is right changes
-- nothing, and one that is wrong is refused as an empty slice is
pub record Alike (tests : List ℕ → List Bool → List (ℕ × Bool)) (s : List ℕ) : Type 0 where
  pub right : refusal (tests s []) ≡ refusal (tests s (false ∷ []))
  pub wrong : refusal (tests [] []) ≡ refusal (tests s (true ∷ []))
  pub refused : refusal (tests s (true ∷ [])) ≡ 0 → ⊥

given_same : {A : Type 0} (degree : ℕ) (ts us : List (ℕ × Bool)) (asked : Degree → A) (other : A) → refusal ts ≡ refusal us
    → given degree ts asked other ≡ given degree us asked other
unfolding given
given_same degree ts us asked other e = rw e

module _ (tests : List ℕ → List Bool → List (ℕ × Bool)) (s : List ℕ) (a : Alike tests s) where
  pub same_refusal : (fit : Bool) → refusal (tests (cond fit s []) []) ≡ refusal (tests s (not fit ∷ []))
  same_refusal true = a.right
  same_refusal false = a.wrong

  -- what is given by the slice that is handed on
  pub same_given : {A : Type 0} (fit : Bool) (degree : ℕ) (asked : List ℕ → Degree → A) (other : A)
      → given degree (tests (cond fit s []) []) (asked (cond fit s [])) other ≡ given degree (tests s (not fit ∷ [])) (asked s) other
  same_given true degree asked other = given_same degree (tests s []) (tests s (false ∷ [])) (asked s) other a.right
  same_given false degree asked other =
      given_none (tests [] []) degree (asked []) other (λ z. a.refused (sym a.wrong ∙ z))
      ∙ sym (given_none (tests s (true ∷ [])) degree (asked s) other a.refused)

  -- a call that is taken has a report that fits
  pub taken_fits : (fit : Bool) → refusal (tests s (not fit ∷ [])) ≡ 0 → fit ≡ true
  taken_fits true z = refl
  taken_fits false z = absurd (a.refused z)
