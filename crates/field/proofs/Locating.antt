-- What `located` says: its answer fits the two check sums, it is the only one that does, and where it is none, none does.
-- Assumes nothing.
use mathlib.Core.Path.{◌≡◌, refl, sym, ◌∙◌, subst}
use mathlib.Core.Bool.{Bool, true, false, ◌&&◌}
use mathlib.Core.Logic.{◌≢◌}
use Prim.Native.Nat.{ℕ, ◌*◌, ◌≤◌}
use native.Mathlib.Omega.{arith}
use borrow.Author.Tests.{eqb-true, eq-eqb}
use lib.Dec.{eqb}
use Rattle.laws.specs.Searches.{first_of}
use Rattle.laws.proofs.Searches.{Choice, or_left, or_right, or_keeps, first_none, first_keeps}
use Rattle.degree.specs.declared.Degree.{Degree}
use Rattle.field.specs.declared.locate.Positions.{Positions}
use Rattle.field.specs.declared.locate.Positions.TheVariants.{Zero, One, Two, Unfit}
use Rattle.degree.specs.Degree.{order}
use Rattle.field.specs.Field.{power}
use Rattle.field.specs.Working.Positions.{total, fitting, or_else, searched, located, usable, Below}
use Rattle.field.specs.Working.Fitting.{Within, Fits}
use Rattle.field.proofs.Uniqueness.{unique}

-- is there an answer
pub zero≢unfit : Zero ≢ Unfit
zero≢unfit e = let z : ◌≡◌ {A = ℕ} 0 1 = cc in omega arith

pub one≢unfit : {i : ℕ} → One i ≢ Unfit
one≢unfit e = let z : ◌≡◌ {A = ℕ} 0 1 = cc in omega arith

pub two≢unfit : {i j : ℕ} → Two i j ≢ Unfit
two≢unfit e = let z : ◌≡◌ {A = ℕ} 0 1 = cc in omega arith

unfit? : (q : Positions) → Dec (q ≡ Unfit)
unfit? Zero = no zero≢unfit
unfit? (One i) = no one≢unfit
unfit? (Two i j) = no two≢unfit
unfit? Unfit = yes refl

choice : Choice or_else Unfit
choice = record { none? = unfit?; first = first; second = λ q. refl }
  where
    first : (p q : Positions) → p ≢ Unfit → or_else p q ≡ p
    first Zero q h = refl
    first (One i) q h = refl
    first (Two i j) q h = refl
    first Unfit q h = absurd (h refl)

-- ---- a search at no, one or two positions

module _ {A : Type 0} {or_else : A → A → A} {none : A} (c : Choice or_else none) (f : Positions → A) (n : ℕ) where
  -- what holds of each that is found holds of the one that the search finds
  pub searched_keeps : (Q : A → Type 0) → ((p : Positions) → Within n p → f p ≢ none → Q (f p)) → searched or_else none f n ≢ none → Q (searched or_else none f n)
  unfolding searched
  searched_keeps Q h =
      or_keeps c Q (f Zero) _ (h Zero tt)
      (or_keeps c Q _ _ (first_keeps c Q (λ i. f (One i)) n (λ i l. h (One i) l))
      (first_keeps c Q (λ j. first_of or_else none (λ i. f (Two i j)) j) n
      (λ j l. first_keeps c Q (λ i. f (Two i j)) j (λ i k. h (Two i j) (k, l)))))

  -- where it finds none, there is none
  pub searched_none : searched or_else none f n ≡ none → (p : Positions) → Within n p → f p ≡ none
  unfolding searched
  searched_none e Zero w = or_left c (f Zero) _ e
  searched_none e (One i) w = first_none c (λ i. f (One i)) n (or_left c _ _ (or_right c (f Zero) _ e)) i w
  searched_none e (Two i j) w =
      first_none c (λ i. f (Two i j)) j
      (first_none c (λ j. first_of or_else none (λ i. f (Two i j)) j) n
      (or_right c (first_of or_else none (λ i. f (One i)) n) _ (or_right c (f Zero) _ e)) j w.1) i w.0
  searched_none e Unfit w = absurd w

module _ (d : Degree) (s1 s3 : ℕ) where
  -- what the test of one answer lets through fits
  fitting_fits : (p : Positions) → Within (order d) p → fitting d s1 s3 p ≢ Unfit → Fits d s1 s3 (fitting d s1 s3 p)
  unfolding fitting
  fitting_fits p w =
      pick (eqb (total (λ i. power d i) p) s1) (eqb (total (λ i. power d (3 * i)) p) s3) (eqb-true (total (λ i. power d i) p) s1)
      (eqb-true (total (λ i. power d (3 * i)) p) s3)
    where
      pick : (a b : Bool) → (a ≡ true → total (λ i. power d i) p ≡ s1) → (b ≡ true → total (λ i. power d (3 * i)) p ≡ s3)
          → elim (a && b) [ true ↦ p | false ↦ Unfit ] ≢ Unfit → Fits d s1 s3 (elim (a && b) [ true ↦ p | false ↦ Unfit ])
      pick true true e f h = record { within = w; sum1 = e refl; sum3 = f refl }
      pick true false e f h = absurd (h refl)
      pick false b e f h = absurd (h refl)

  -- and what fits passes it
  fits_fitting : (p : Positions) → Fits d s1 s3 p → fitting d s1 s3 p ≢ Unfit
  unfolding fitting
  fits_fitting p f e = never p f.within (sym passed ∙ e)
    where
      passed : elim (eqb (total (λ i. power d i) p) s1 && eqb (total (λ i. power d (3 * i)) p) s3) [ true ↦ p | false ↦ Unfit ] ≡ p
      passed = simp (eq-eqb (total (λ i. power d i) p) s1 f.sum1, eq-eqb (total (λ i. power d (3 * i)) p) s3 f.sum3)

      never : (p : Positions) → Within (order d) p → p ≢ Unfit
      never p w e = subst (Within (order d)) e w

  -- ---- the laws

  -- an answer fits
  pub located_fits : located d s1 s3 ≢ Unfit → Fits d s1 s3 (located d s1 s3)
  unfolding located
  located_fits = searched_keeps choice (fitting d s1 s3) (order d) (Fits d s1 s3) fitting_fits

  -- where none is answered, none fits
  pub located_none : located d s1 s3 ≡ Unfit → (p : Positions) → ¬ (Fits d s1 s3 p)
  unfolding located
  located_none e p f = fits_fitting p f (searched_none choice (fitting d s1 s3) (order d) e p f.within)

  -- what fits is the answer
  pub located_is : (p : Positions) → Fits d s1 s3 p → located d s1 s3 ≡ p
  located_is p f = pick (unfit? (located d s1 s3))
    where
      pick : Dec (located d s1 s3 ≡ Unfit) → located d s1 s3 ≡ p
      pick (yes e) = absurd (located_none e p f)
      pick (no e) =
          let g = located_fits e in
          unique d (located d s1 s3) p g.within f.within (g.sum1 ∙ sym f.sum1) (g.sum3 ∙ sym f.sum3)

  -- where none fits, none is answered
  pub located_unfit : ((p : Positions) → ¬ (Fits d s1 s3 p)) → located d s1 s3 ≡ Unfit
  located_unfit n = pick (unfit? (located d s1 s3))
    where
      pick : Dec (located d s1 s3 ≡ Unfit) → located d s1 s3 ≡ Unfit
      pick (yes e) = e
      pick (no e) = absurd (n (located d s1 s3) (located_fits e))

-- located positions are cells
pub located_below : (d : Degree) (n s1 s3 : ℕ) → order d ≤ n → Below n (located d s1 s3)
located_below d n s1 s3 h = go (located d s1 s3) (located_fits d s1 s3)
  where
    go : (p : Positions) → (p ≢ Unfit → Fits d s1 s3 p) → Below n p
    go Zero f = tt
    go (One i) f = let w = (f one≢unfit).within in omega arith
    go (Two i j) f = let w = (f two≢unfit).within in (omega arith, omega arith)
    go Unfit f = tt

-- and so are those of them that can be of use
pub usable_below : (n : ℕ) (even : Bool) (p : Positions) → Below n p → Below n (usable even p)
usable_below n true p h = h
usable_below n false Zero h = tt
usable_below n false (One i) h = h
usable_below n false (Two i j) h = tt
usable_below n false Unfit h = tt

-- what tells two positions from none only where the ones are even in number is the same of the positions that can be of use
pub usable_same : {A : Type 0} (f : Positions → Bool → A) → ((i j : ℕ) → f Unfit false ≡ f (Two i j) false)
    → (even : Bool) (p : Positions) → f (usable even p) even ≡ f p even
usable_same f e true p = refl
usable_same f e false Zero = refl
usable_same f e false (One i) = refl
usable_same f e false (Two i j) = e i j
usable_same f e false Unfit = refl
