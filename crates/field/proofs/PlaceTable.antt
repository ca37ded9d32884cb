-- A table of error positions, by its rule: each entry fits its two check sums, or nothing fits them. The rule is a test that the
-- checker computes over the whole table, and one law carries it to each entry.
-- Assumes nothing.
use mathlib.Core.Path.{◌≡◌, refl, sym, ap, ap₂, ◌∙◌, subst}
use mathlib.Core.Bool.{Bool, true, cond, ◌&&◌}
use mathlib.Core.Logic.{◌≢◌}
use mathlib.Core.List.{List, [], ◌∷◌}
use Prim.Native.Nat.{ℕ, zero, suc, ◌+◌, ◌*◌, ◌/◌, ◌%◌, ◌<◌}
use native.Mathlib.Nat.{add-zero, zero-add, mul-zero, mul-suc, le_of_suc-le-suc, not-suc-le-zero}
use native.Mathlib.Omega.{arith}
use lib.Bits.{bit_xor, xor_self, xor_zero_r}
use lib.Dec.{T, eqb, ltb, eqb→eq, ltb→lt}
use lib.ListN.{get_or, drop}
use lib.Seq.{get_or-drop, drop-drop}
use Rattle.laws.proofs.Tests.{and_left, and_right, every, every_at}
use Rattle.laws.proofs.Xor.{xors}
use Rattle.degree.specs.declared.Degree.{Degree}
use Rattle.degree.specs.declared.Degree.TheVariants.{Six}
use Rattle.degree.specs.Degree.{size, order}
use Rattle.field.specs.declared.locate.Positions.{Positions}
use Rattle.field.specs.declared.locate.Positions.TheVariants.{Zero, One, Two, Unfit}
use Rattle.field.specs.Field.{double, power}
use Rattle.field.specs.Working.Positions.{located}
use Rattle.field.specs.Working.Fitting.{Fits}
use Rattle.field.specs.Working.Places.{positions_of, Places}
use Rattle.field.proofs.Locating.{located_is, located_unfit, zero≢unfit, one≢unfit, two≢unfit}
use Rattle.field.proofs.PowerTable.{products_from, powers_of, powers_listed}
use Rattle.field.proofs.Powers.{power_lt, power_pos, looked_up, looked_up_lem}

-- an entry that is no mark
abbrev fit? : ℕ → Bool
fit? e = ltb e 49152

fit_is : (e : ℕ) → T (fit? e) → positions_of e ≢ Unfit
fit_is e t = go (e / 16384) (omega (arith, ltb→lt e 49152 t))
  where
    go : (q : ℕ) → q < 3 → cond (eqb q 0) Zero (cond (eqb q 1) (One (e % 128)) (cond (eqb q 2) (Two (e % 128) (e / 128 % 128)) Unfit)) ≢ Unfit
    go zero h = zero≢unfit
    go (suc zero) h = one≢unfit
    go (suc (suc zero)) h = two≢unfit
    go (suc (suc (suc q))) h = absurd (omega arith)

-- ks has the cube of each element
module _ (d : Degree) (ks : List ℕ) where
  abbrev P : ℕ → ℕ
  P i = get_or (powers_of d) i 0

  abbrev K : ℕ → ℕ
  K x = get_or ks x 0

  unfoldable pub cubes? : Bool
  cubes? = eqb (K 0) 0 && every (λ i. eqb (K (P i)) (looked_up d (3 * i))) (order d)

  -- positions fit the check sums s1 and s3
  abbrev fits? : ℕ → ℕ → Positions → Bool
  fits? s1 s3 Zero = eqb 0 s1 && eqb 0 s3
  fits? s1 s3 (One i) = ltb i (order d) && (eqb (P i) s1 && eqb (K (P i)) s3)
  fits? s1 s3 (Two i j) = (ltb i j && ltb j (order d)) && (eqb (bit_xor (P i) (P j)) s1 && eqb (bit_xor (K (P i)) (K (P j))) s3)
  fits? s1 s3 Unfit = true

  -- the entry of the cube of x and of what x leaves of s1 is no mark: x and that are powers whose sum is s1
  abbrev met? : ℕ → List ℕ → ℕ → Bool
  met? s1 t x = fit? (get_or t (bit_xor (K x) (K (bit_xor s1 x))) 0)

  -- an entry of s1 that is no mark fits
  abbrev entry? : ℕ → List ℕ → ℕ → Bool
  entry? s1 t s3 = fits? s1 s3 (positions_of (get_or t s3 0))

  -- so do all n of them; and where positions fit there is no mark
  abbrev row? : ℕ → List ℕ → Bool
  row? s1 t = every (entry? s1 t) (size d) && every (λ x. met? s1 t (suc x)) (order d)

  unfoldable pub rows? : ℕ → ℕ → List ℕ → Bool
  rows? zero s1 t = true
  rows? (suc n) s1 t = row? s1 t && rows? n (suc s1) (drop (size d) t)

  -- the rule, over all entries
  unfoldable pub places? : List ℕ → Bool
  places? t = rows? (size d) 0 t

  -- ---- what the test says of an entry

  rows_at : (n s1 : ℕ) (t : List ℕ) → T (rows? n s1 t) → (r : ℕ) → r < n → T (row? (s1 + r) (drop (size d * r) t))
  unfolding rows?
  rows_at zero s1 t p r h = absurd (not-suc-le-zero h)
  rows_at (suc n) s1 t p zero h = rw (add-zero s1, mul-zero (size d)) (and_left (row? s1 t) (rows? n (suc s1) (drop (size d) t)) p)
  rows_at (suc n) s1 t p (suc r) h =
      let q = rows_at n (suc s1) (drop (size d) t) (and_right (row? s1 t) (rows? n (suc s1) (drop (size d) t)) p) r (le_of_suc-le-suc h) in
      let e : suc s1 + r ≡ s1 + suc r = omega arith in
      let more : size d + size d * r ≡ size d * suc r = omega (arith, mul-suc (size d) r) in
      let f : drop (size d * r) (drop (size d) t) ≡ drop (size d * suc r) t = drop-drop (size d * r) (size d) t ∙ ap (λ (k : ℕ). drop k t) more in
      subst (λ (k : ℕ). T (row? k (drop (size d * suc r) t))) e (subst (λ (u : List ℕ). T (row? (suc s1 + r) u)) f q)

  module _ (cubes : T cubes?) where
    listed : (i : ℕ) → i < order d → (P i ≡ power d i) × (K (P i) ≡ power d (3 * i))
    unfolding cubes?
    listed i h =
        let t : T (eqb (K (P i)) (looked_up d (3 * i))) = every_at (λ i. eqb (K (P i)) (looked_up d (3 * i))) (order d) (and_right (eqb (K 0) 0) _ cubes) {k = i} h in
        ((powers_listed d).at i h, eqb→eq (K (P i)) (looked_up d (3 * i)) t ∙ looked_up_lem d (3 * i))

    no_cube : K 0 ≡ 0
    unfolding cubes?
    no_cube = eqb→eq (K 0) 0 (and_left (eqb (K 0) 0) _ cubes)

    cube : (i : ℕ) → i < order d → K (power d i) ≡ power d (3 * i)
    cube i h = let l = listed i h in rw l.0 at l.1

    -- positions that pass the test fit
    passed : (s1 s3 : ℕ) (p : Positions) → p ≢ Unfit → T (fits? s1 s3 p) → Fits d s1 s3 p
    passed s1 s3 Zero n t =
        record { within = tt; sum1 = eqb→eq 0 s1 (and_left (eqb 0 s1) (eqb 0 s3) t); sum3 = eqb→eq 0 s3 (and_right (eqb 0 s1) (eqb 0 s3) t) }
    passed s1 s3 (One i) n t =
        let sums = and_right (ltb i (order d)) _ t in
        let h = ltb→lt i (order d) (and_left (ltb i (order d)) _ t) in
        let l = listed i h in
        record {
          within = h;
          sum1 = sym l.0 ∙ eqb→eq (P i) s1 (and_left (eqb (P i) s1) _ sums);
          sum3 = sym l.1 ∙ eqb→eq (K (P i)) s3 (and_right (eqb (P i) s1) _ sums);
        }
    passed s1 s3 (Two i j) n t =
        let places = and_left (ltb i j && ltb j (order d)) _ t in
        let sums = and_right (ltb i j && ltb j (order d)) _ t in
        let low = ltb→lt i j (and_left (ltb i j) (ltb j (order d)) places) in
        let high = ltb→lt j (order d) (and_right (ltb i j) (ltb j (order d)) places) in
        let l = listed i (omega arith) in
        let m = listed j high in
        record {
          within = (low, high);
          sum1 = ap₂ bit_xor (sym l.0) (sym m.0) ∙ eqb→eq (bit_xor (P i) (P j)) s1 (and_left (eqb (bit_xor (P i) (P j)) s1) _ sums);
          sum3 = ap₂ bit_xor (sym l.1) (sym m.1) ∙ eqb→eq (bit_xor (K (P i)) (K (P j))) s3 (and_right (eqb (bit_xor (P i) (P j)) s1) _ sums);
        }
    passed s1 s3 Unfit n t = absurd (n refl)

    -- positions that fit are met: the lower one leaves the power of the other of s1
    meets : (s1 s3 : ℕ) (q : Positions) → Fits d s1 s3 q → (i : ℕ) × (bit_xor (K (power d i)) (K (bit_xor s1 (power d i))) ≡ s3)
    meets s1 s3 Zero f =
        (0, ap (λ (x : ℕ). bit_xor (K (power d 0)) (K (bit_xor x (power d 0)))) (sym f.sum1) ∙ xor_self (K (power d 0)) ∙ f.sum3)
    meets s1 s3 (One i) f =
        let left : bit_xor s1 (power d i) ≡ 0 = ap (λ (x : ℕ). bit_xor x (power d i)) (sym f.sum1) ∙ xor_self (power d i) in
        (i, ap₂ bit_xor (cube i f.within) (ap K left ∙ no_cube) ∙ xor_zero_r (power d (3 * i)) ∙ f.sum3)
    meets s1 s3 (Two i j) f =
        let left : bit_xor s1 (power d i) ≡ power d j = ap (λ (x : ℕ). bit_xor x (power d i)) (sym f.sum1) ∙ simp xors in
        (i, ap₂ bit_xor (cube i (omega (arith, f.within.0, f.within.1))) (ap K left ∙ cube j f.within.1) ∙ f.sum3)
    meets s1 s3 Unfit f = absurd f.within

    -- the rule at an entry: it stands for the positions that fit
    pub places_rule : (t : List ℕ) → T (places? t) → Places d t
    unfolding places?
    places_rule t p s1 s3 h1 h3 = go (positions_of entry) refl tested
      where
        row : List ℕ
        row = drop (size d * s1) t

        entry : ℕ
        entry = get_or t (size d * s1 + s3) 0

        test : T (row? s1 row)
        test = rw (zero-add s1) at (rows_at (size d) 0 t p s1 h1)

        fitting : ℕ → Bool
        fitting = entry? s1 row

        meeting : ℕ → Bool
        meeting x = met? s1 row (suc x)

        tested : T (fits? s1 s3 (positions_of entry))
        tested = subst (λ (e : ℕ). T (fits? s1 s3 (positions_of e))) (get_or-drop (size d * s1) t s3 0) (every_at fitting (size d) (and_left (every fitting (size d)) (every meeting (order d)) test) {k = s3} h3)

        met : (x : ℕ) → x ≢ 0 → x < size d → bit_xor (K x) (K (bit_xor s1 x)) ≡ s3 → T (fit? entry)
        met zero n h e = absurd (n refl)
        met (suc x) n h e =
            subst (λ (k : ℕ). T (fit? k)) (ap (λ (k : ℕ). get_or row k 0) e ∙ get_or-drop (size d * s1) t s3 0)
            (every_at meeting (order d) (and_right (every fitting (size d)) (every meeting (order d)) test) {k = x} (omega (arith, h)))

        none : positions_of entry ≡ Unfit → (q : Positions) → ¬ (Fits d s1 s3 q)
        none e q f =
            let m = meets s1 s3 q f in
            fit_is entry (met (power d m.0) (power_pos d m.0) (power_lt d m.0) m.1) e

        go : (p : Positions) → positions_of entry ≡ p → T (fits? s1 s3 p) → positions_of entry ≡ located d s1 s3
        go Zero e t = e ∙ sym (located_is d s1 s3 Zero (passed s1 s3 Zero zero≢unfit t))
        go (One i) e t = e ∙ sym (located_is d s1 s3 (One i) (passed s1 s3 (One i) one≢unfit t))
        go (Two i j) e t = e ∙ sym (located_is d s1 s3 (Two i j) (passed s1 s3 (Two i j) two≢unfit t))
        go Unfit e t = e ∙ sym (located_unfit d s1 s3 (none e))

-- ---- degree 6

-- the cube of each element
unfoldable pub cubes_six : List ℕ
cubes_six = 0 ∷ 1 ∷ 8 ∷ 15 ∷ 3 ∷ 22 ∷ 59 ∷ 40 ∷ 24 ∷ 18 ∷ 54 ∷ 58 ∷ 17 ∷ 15 ∷ 15 ∷ 23 ∷ 5 ∷ 24 ∷ 22 ∷ 13 ∷ 58 ∷ 51 ∷ 25 ∷ 22 ∷ 14 ∷ 24 ∷ 59 ∷ 43 ∷ 59 ∷ 57 ∷ 62 ∷ 58 ∷ 40 ∷ 57 ∷ 5 ∷ 18 ∷ 54 ∷ 51 ∷ 43 ∷ 40 ∷ 25 ∷ 3 ∷ 18 ∷ 14 ∷ 13 ∷ 3 ∷ 54 ∷ 62 ∷ 51 ∷ 62 ∷ 5 ∷ 14 ∷ 17 ∷ 8 ∷ 23 ∷ 8 ∷ 17 ∷ 23 ∷ 1 ∷ 1 ∷ 57 ∷ 43 ∷ 25 ∷ 13 ∷ []

pub cubes_six_lem : T (cubes? Six cubes_six)
unfolding cubes? cubes_six products_from double
cubes_six_lem = tt

-- the table of degree 6: what the test of its rule says
pub places_six : (t : List ℕ) → T (places? Six cubes_six t) → Places Six t
places_six t p = places_rule Six cubes_six cubes_six_lem t p
