-- The polynomial of each degree is primitive: one test a degree, which the checker computes, and what it says.
-- A further degree adds a line to `passes`.
-- Assumes nothing.
use mathlib.Core.Path.{◌≡◌, refl, sym, ap, ◌∙◌}
use mathlib.Core.Bool.{Bool, true, false, ◌&&◌}
use mathlib.Core.Logic.{◌≢◌}
use mathlib.Core.List.{List, [], ◌∷◌}
use Prim.Native.Nat.{ℕ, zero, suc, ◌*◌, ◌/◌, ◌<◌, ◌≤◌}
use native.Mathlib.Omega.{arith}
use lib.Dec.{T, eqb, ltb, leb, eqb→eq, ltb→lt, leb→le}
use lib.ListN.{length, get_or}
use Rattle.laws.proofs.Tests.{and_left, and_right, every, every_at}
use Rattle.degree.specs.declared.Degree.{Degree}
use Rattle.degree.specs.declared.Degree.TheVariants.{Four, Six, Seven}
use Rattle.degree.specs.Degree.{bits, size, order}
use Rattle.field.specs.Field.{polynomial, double, times_power, power}
use Rattle.field.specs.Working.Products.{product_of}
use Rattle.field.proofs.PowerTable.{products_from, powers_of, powers_listed}

pub record Primitive (d : Degree) : Type 0 where
  -- doubling an element gives an element
  pub stays : {x : ℕ} → x < size d → double d x < size d
  -- every element but 0 is a power
  pub found : (x : ℕ) → x < size d → x ≢ 0 → (i : ℕ) × (i < order d) × (power d i ≡ x)
  -- and just one power below n - 1
  pub once : {i j : ℕ} → i < order d → j < order d → power d i ≡ power d j → i ≡ j
  -- α^(n - 1) is 1
  pub closes : power d (order d) ≡ 1
  -- the polynomial is 0 at α
  pub root : product_of d (suc (bits d)) (polynomial d) 1 ≡ 0
  -- 0 and 1 are different elements, and an element has at most 7 binary digits
  pub more : 1 < size d
  pub room : size d ≤ 128
  -- there are at least three powers
  pub three : 3 ≤ order d
  -- a word's cells are whole bytes
  pub bytes : size d / 8 * 8 ≡ size d

-- the place of the first x in a list, or its length
abbrev place_in : List ℕ → ℕ → ℕ
place_in [] x = 0
place_in (p ∷ ps) x = elim (eqb p x) [ true ↦ 0 | false ↦ suc (place_in ps x) ]

place_holds : (ps : List ℕ) (x : ℕ) → place_in ps x < length ps → get_or ps (place_in ps x) 0 ≡ x
place_holds [] x h = absurd (omega arith)
place_holds (p ∷ ps) x h = pick (eqb p x) (eqb→eq p x) (place_holds ps x) h
  where
    pick : (b : Bool) → (T b → p ≡ x) → (place_in ps x < length ps → get_or ps (place_in ps x) 0 ≡ x)
        → elim b [ true ↦ 0 | false ↦ suc (place_in ps x) ] < suc (length ps) → get_or (p ∷ ps) (elim b [ true ↦ 0 | false ↦ suc (place_in ps x) ]) 0 ≡ x
    pick true e ih h = e tt
    pick false e ih h = ih (omega arith)

module _ (d : Degree) where
  -- the exponent of an element, looked up
  abbrev log : ℕ → ℕ
  log x = place_in (powers_of d) x

  -- The tests. All of them are handed one list of the powers, so that these are computed once.

  abbrev stays? : ℕ → Bool
  stays? x = ltb (double d x) (size d)

  abbrev found? : List ℕ → ℕ → Bool
  found? ps y = ltb (place_in ps (suc y)) (order d)

  abbrev once? : List ℕ → ℕ → Bool
  once? ps i = eqb (place_in ps (get_or ps i 0)) i

  abbrev small? : Bool
  small? = ltb 1 (size d) && (leb (size d) 128 && (leb 3 (order d) && eqb (size d / 8 * 8) (size d)))

  abbrev root? : Bool
  root? = eqb (power d (order d)) 1 && eqb (product_of d (suc (bits d)) (polynomial d) 1) 0

  unfoldable primitive? : List ℕ → Bool
  primitive? ps = every stays? (size d) && (every (found? ps) (order d) && (every (once? ps) (order d) && (small? && root?)))

  found_at : T (every (found? (powers_of d)) (order d)) → (x : ℕ) → x < size d → x ≢ 0 → (i : ℕ) × (i < order d) × (power d i ≡ x)
  found_at t zero h f = absurd (f refl)
  found_at t (suc y) h f =
      let i = log (suc y) in
      let low : i < order d = ltb→lt i (order d) (every_at (found? (powers_of d)) (order d) t {k = y} (omega arith)) in
      let listed = powers_listed d in
      (i, low, sym (listed.at i low) ∙ place_holds (powers_of d) (suc y) (rw listed.long low))

  once_at : T (every (once? (powers_of d)) (order d)) → {i : ℕ} → i < order d → log (power d i) ≡ i
  once_at t {i} h =
      ap log (sym ((powers_listed d).at i h)) ∙ eqb→eq (log (get_or (powers_of d) i 0)) i (every_at (once? (powers_of d)) (order d) t h)

  -- what the test says
  told : T (primitive? (powers_of d)) → Primitive d
  unfolding primitive?
  told t =
      let stay : T (every stays? (size d)) = search (and_left, and_right) in
      let find : T (every (found? (powers_of d)) (order d)) = search (and_left, and_right) in
      let one : T (every (once? (powers_of d)) (order d)) = search (and_left, and_right) in
      record {
        stays = λ {x} h. ltb→lt (double d x) (size d) (every_at stays? (size d) stay h);
        found = found_at find;
        once = λ {i} {j} hi hj e. sym (once_at one {i = i} hi) ∙ ap log e ∙ once_at one {i = j} hj;
        closes = eqb→eq (power d (order d)) 1 (search (and_left, and_right));
        root = eqb→eq (product_of d (suc (bits d)) (polynomial d) 1) 0 (search (and_left, and_right));
        more = ltb→lt 1 (size d) (search (and_left, and_right));
        room = leb→le (size d) 128 (search (and_left, and_right));
        three = leb→le 3 (order d) (search (and_left, and_right) depth 8);
        bytes = eqb→eq (size d / 8 * 8) (size d) (search (and_left, and_right) depth 8);
      }

passes : (d : Degree) → T (primitive? d (powers_of d))
unfolding primitive? products_from double times_power product_of
passes Four = tt
passes Six = tt
passes Seven = tt

pub primitive : (d : Degree) → Primitive d
primitive d = told d (passes d)
