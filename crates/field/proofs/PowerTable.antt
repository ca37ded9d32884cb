-- A table of powers, by its doubling rule: the first entry is 1, and each next entry is the double of the one before.
-- The rule is a test that the checker computes over the whole table, once for each degree. And the powers of each degree as a list, for
-- other tests that the checker computes: to look one up costs it far less than to multiply.
-- Assumes nothing.
use mathlib.Core.Path.{◌≡◌, refl, sym, ap, ◌∙◌}
use mathlib.Core.Bool.{Bool, true, false, ◌&&◌}
use mathlib.Core.List.{List, [], ◌∷◌}
use Prim.Native.Nat.{ℕ, zero, suc, ◌<◌}
use native.Mathlib.Nat.{le_of_suc-le-suc, not-suc-le-zero}
use native.Mathlib.Numerals.{add-one}
use lib.Dec.{T, eqb, eqb→eq, eqb_refl}
use lib.ListN.{length, get_or}
use Rattle.laws.proofs.Tests.{and_left, and_right}
use Rattle.degree.specs.declared.Degree.{Degree}
use Rattle.degree.specs.Degree.{order}
use Rattle.field.specs.Field.{double, times_power}
use Rattle.field.specs.Working.Tables.{Powers}
use Rattle.field.proofs.Doubling.{times_add}

module _ (d : Degree) where
  -- the first entry is x, each next one is the double of the one before
  abbrev pub doubles? : ℕ → List ℕ → Bool
  doubles? x [] = true
  doubles? x (p ∷ ps) = eqb p x && doubles? (double d p) ps

  doubled_at : (x : ℕ) (ps : List ℕ) → T (doubles? x ps) → (i : ℕ) → i < length ps → get_or ps i 0 ≡ times_power d i x
  unfolding times_power
  doubled_at x [] t i h = absurd (not-suc-le-zero h)
  doubled_at x (p ∷ ps) t zero h = eqb→eq p x (and_left (eqb p x) (doubles? (double d p) ps) t)
  doubled_at x (p ∷ ps) t (suc i) h =
      doubled_at (double d p) ps (and_right (eqb p x) (doubles? (double d p) ps) t) i (le_of_suc-le-suc h)
      ∙ ap (λ (y : ℕ). times_power d i (double d y)) (eqb→eq p x (and_left (eqb p x) (doubles? (double d p) ps) t))
      ∙ sym (times_add d i 1 x)
      ∙ ap (λ (k : ℕ). times_power d k x) (add-one i)

  pub powers_rule : (ps : List ℕ) → T (doubles? 1 ps) → length ps ≡ order d → Powers d ps
  powers_rule ps t e = record { long = e; at = λ i h. doubled_at 1 ps t i (rw e h) }

-- ---- the powers as a list

module _ (d : Degree) where
  -- x and its products with α, α^2 and so on, n of them
  unfoldable pub products_from : ℕ → ℕ → List ℕ
  products_from zero x = []
  products_from (suc n) x = x ∷ products_from n (double d x)

  -- α^0 to α^(n - 2)
  abbrev pub powers_of : List ℕ
  powers_of = products_from (order d) 1

  products_long : (n x : ℕ) → length (products_from n x) ≡ n
  unfolding products_from
  products_long zero x = refl
  products_long (suc n) x = ap suc (products_long n (double d x))

  products_pass : (n x : ℕ) → T (doubles? d x (products_from n x))
  unfolding products_from
  products_pass zero x = tt
  products_pass (suc n) x = both (eqb x x) (doubles? d (double d x) (products_from n (double d x))) (eqb_refl x) (products_pass n (double d x))
    where
      both : (a b : Bool) → T a → T b → T (a && b)
      both true b t u = u
      both false b t u = absurd t

  pub powers_listed : Powers d powers_of
  powers_listed = powers_rule d powers_of (products_pass (order d) 1) (products_long (order d) 1)
