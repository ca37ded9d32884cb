-- What the first that is found is: it has what each that is found has, and where nothing is found, none of all is.
-- Assumes nothing.
use mathlib.Core.Path.{◌≡◌, refl, sym, ap, ◌∙◌, subst}
use mathlib.Core.Logic.{◌≢◌, dite}
use Prim.Native.Nat.{ℕ, zero, suc, ◌<◌}
use native.Mathlib.Decide.{dec_lt}
use native.Mathlib.Omega.{arith}
use Rattle.laws.specs.Searches.{first_of}

-- `or_else a b` is a, or b where a is `none`
pub record Choice {A : Type 0} (or_else : A → A → A) (none : A) : Type 0 where
  pub none? : (a : A) → Dec (a ≡ none)
  pub first : (a b : A) → a ≢ none → or_else a b ≡ a
  pub second : (b : A) → or_else none b ≡ b

module _ {A : Type 0} {or_else : A → A → A} {none : A} (c : Choice or_else none) where
  -- ---- nothing is found

  pub or_left : (a b : A) → or_else a b ≡ none → a ≡ none
  or_left a b e = pick (c.none? a)
    where
      pick : Dec (a ≡ none) → a ≡ none
      pick (yes z) = z
      pick (no z) = sym (c.first a b z) ∙ e

  pub or_right : (a b : A) → or_else a b ≡ none → b ≡ none
  or_right a b e = sym (c.second b) ∙ subst (λ (x : A). or_else x b ≡ none) (or_left a b e) e

  pub first_none : (f : ℕ → A) (n : ℕ) → first_of or_else none f n ≡ none → (i : ℕ) → i < n → f i ≡ none
  unfolding first_of
  first_none f zero e i h = absurd (omega arith)
  first_none f (suc n) e i h =
      dite (dec_lt i n) (λ l. first_none f n (or_left (first_of or_else none f n) (f n) e) i l)
      (λ l. let z : i ≡ n = omega arith in ap f z ∙ or_right (first_of or_else none f n) (f n) e)

  -- ---- what holds of each that is found holds of the first

  module _ (Q : A → Type 0) where
    pub or_keeps : (a b : A) → (a ≢ none → Q a) → (b ≢ none → Q b) → or_else a b ≢ none → Q (or_else a b)
    or_keeps a b f g h = pick (c.none? a)
      where
        pick : Dec (a ≡ none) → Q (or_else a b)
        pick (yes z) =
            let e : or_else a b ≡ b = ap (λ (x : A). or_else x b) z ∙ c.second b in
            subst Q (sym e) (g (λ n. h (e ∙ n)))
        pick (no z) = subst Q (sym (c.first a b z)) (f z)

    pub first_keeps : (f : ℕ → A) (n : ℕ) → ((i : ℕ) → i < n → f i ≢ none → Q (f i)) → first_of or_else none f n ≢ none → Q (first_of or_else none f n)
    unfolding first_of
    first_keeps f zero h k = absurd (k refl)
    first_keeps f (suc n) h k =
        or_keeps (first_of or_else none f n) (f n) (first_keeps f n (λ i l. h i (omega arith))) (h n (omega arith)) k
