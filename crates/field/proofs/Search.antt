-- The search for positions that fit: one is known by s1, and the other of two by the first and what it leaves of s1.
-- Assumes nothing.
use mathlib.Core.Path.{◌≡◌, refl, sym, ap, ◌∙◌}
use mathlib.Core.Logic.{◌≢◌, inl, inr, ⊎_elim, dite}
use Rattle.std.specs.Prelude.{Option, None, Some, MatchOption}
use Rattle.std.specs.Option.{unwrap_or}
use Prim.Native.Nat.{ℕ, ◌+◌, ◌*◌, ◌/◌, ◌%◌, ◌<◌}
use native.Mathlib.Decide.{dec_lt}
use native.Mathlib.Omega.{arith}
use lib.Bits.{bit_xor, xor_comm, xor_self}
use Rattle.laws.proofs.Xor.{xors, xor_cancel}
use Rattle.degree.specs.declared.Degree.{Degree}
use Rattle.field.specs.declared.locate.Positions.{Positions}
use Rattle.field.specs.declared.locate.Positions.TheVariants.{Zero, One, Two, Unfit}
use Rattle.degree.specs.Degree.{order}
use Rattle.field.specs.Field.{power}
use Rattle.field.specs.Working.Positions.{located, at_most_one}
use Rattle.field.specs.Working.Tables.{weight}
use Rattle.field.specs.Working.Fitting.{Fits, Paired}
use Rattle.field.proofs.Locating.{zero≢unfit, one≢unfit, two≢unfit, located_fits, located_is, located_unfit}
use Rattle.field.proofs.Primitive.{primitive}
use Rattle.field.proofs.Powers.{power_pos}
use Rattle.field.proofs.Weights.{weight_power, weight_cube, weight_two}
use Rattle.field.proofs.Uniqueness.{pair_pos}

-- ---- at most one position

module _ (d : Degree) (s1 s3 : ℕ) where
  -- s1 alone is 0: none fit
  none_zero : s1 ≡ 0 → s3 ≢ 0 → (p : Positions) → ¬ (Fits d s1 s3 p)
  none_zero z f Zero h = f (sym h.sum3)
  none_zero z f (One a) h = power_pos d a (h.sum1 ∙ z)
  none_zero z f (Two a b) h = pair_pos d h.within.0 h.within.1 (h.sum1 ∙ z)
  none_zero z f Unfit h = h.within

  -- both sums are 0
  pub nowhere : s1 ≡ 0 → s3 ≡ 0 → Zero ≡ located d s1 s3
  nowhere e e3 = sym (located_is d s1 s3 Zero (record { within = tt; sum1 = sym e; sum3 = sym e3 }))

  pub single_zero : s1 ≡ 0 → s3 ≡ 0 → Zero ≡ at_most_one (located d s1 s3)
  single_zero e e3 = ap at_most_one (nowhere e e3)

  -- s1 alone is 0
  pub single_unlike : s1 ≡ 0 → s3 ≢ 0 → Unfit ≡ at_most_one (located d s1 s3)
  single_unlike e f = sym (ap at_most_one (located_unfit d s1 s3 (none_zero e f)))

  -- s1 is the power of position i
  module _ (i : ℕ) (h : i < order d) (e : power d i ≡ s1) where
    -- and s3 that of its cube
    pub single_one : weight d i / 128 % 128 ≡ s3 → One i ≡ at_most_one (located d s1 s3)
    single_one e3 =
        sym (ap at_most_one (located_is d s1 s3 (One i) (record { within = h; sum1 = e; sum3 = sym (weight_cube d i h) ∙ e3 })))

    -- and s3 is not
    pub single_unfit : s1 ≢ 0 → weight d i / 128 % 128 ≢ s3 → Unfit ≡ at_most_one (located d s1 s3)
    single_unfit f g = go (located d s1 s3) (located_fits d s1 s3)
      where
        go : (p : Positions) → (p ≢ Unfit → Fits d s1 s3 p) → Unfit ≡ at_most_one p
        go Zero a = absurd (f (sym (a zero≢unfit).sum1))
        go (One k) a =
            let b = a one≢unfit in
            let q : i ≡ k = (primitive d).once h b.within (e ∙ sym b.sum1) in
            absurd (g (weight_cube d i h ∙ ap (λ (n : ℕ). power d (3 * n)) q ∙ b.sum3))
        go (Two j k) a = refl
        go Unfit a = refl

-- ---- two positions, one of them i, as the code finds them: by weights

module _ (d : Degree) (s1 s3 i : ℕ) (h : i < order d) where
  abbrev P : ℕ → ℕ
  P i = power d i

  -- what is left of s1
  left : bit_xor s1 (weight d i % 128) ≡ bit_xor s1 (P i)
  left = ap (bit_xor s1) (weight_power d i h)

  -- which is the power of the second
  second_power : {j : ℕ} → Fits d s1 s3 (Two i j) → P j ≡ bit_xor s1 (weight d i % 128)
  second_power {j} f = sym (left ∙ rw (← f.sum1) (xor_comm (bit_xor (P i) (P j)) (P i) ∙ xor_cancel (P i) (P j)))

  -- nothing is left
  pub second_alone : bit_xor s1 (weight d i % 128) ≡ 0 → Paired d s1 s3 i None
  second_alone e j f = power_pos d j (second_power f ∙ e)

  -- α^j is left
  module _ (j : ℕ) (hj : j < order d) (e : P j ≡ bit_xor s1 (weight d i % 128)) where
    add_up : bit_xor (P i) (P j) ≡ s1
    add_up = rw (e, left) (simp xors)

    -- the first section of two entries added is s1
    sums : bit_xor (weight d i) (weight d j) ≡ s1 + 128 * bit_xor (P (3 * i)) (P (3 * j))
    sums = weight_two d i j h hj ∙ ap (λ (x : ℕ). x + 128 * bit_xor (P (3 * i)) (P (3 * j))) add_up

    -- i and j fit
    pub second_fits : s1 ≢ 0 → bit_xor (weight d i) (weight d j) ≡ s1 + 128 * s3 → Paired d s1 s3 i (Some (Two i j))
    second_fits f e3 = (j, refl, dite (dec_lt i j) (λ a. inl (above a)) (λ a. inr (under a)))
      where
        cubes : bit_xor (P (3 * i)) (P (3 * j)) ≡ s3
        cubes = omega (arith, sums)

        differ : i ≢ j
        differ q = f (sym add_up ∙ ap (λ (k : ℕ). bit_xor (P k) (P j)) q ∙ xor_self (P j))

        above : i < j → Fits d s1 s3 (Two i j)
        above a = record { within = (a, hj); sum1 = add_up; sum3 = cubes }

        under : ¬ (i < j) → Fits d s1 s3 (Two j i)
        under a = record { within = (omega (arith, differ), h); sum1 = xor_comm (P j) (P i) ∙ add_up; sum3 = xor_comm (P (3 * j)) (P (3 * i)) ∙ cubes }

    -- they do not, and no other can
    pub second_unfit : bit_xor (weight d i) (weight d j) ≢ s1 + 128 * s3 → Paired d s1 s3 i None
    second_unfit g k f =
        let q : k ≡ j = (primitive d).once f.within.1 hj (second_power f ∙ sym e) in
        g (sums ∙ ap (λ (x : ℕ). s1 + 128 * x) (ap (λ (n : ℕ). bit_xor (P (3 * i)) (P (3 * n))) (sym q) ∙ f.sum3))

-- ---- the search over the lower one

module _ (d : Degree) (s1 s3 : ℕ) where
  -- no two fit with the lower one below i
  abbrev pub NoneBelow : ℕ → Type 0
  NoneBelow i = (a b : ℕ) → a < i → ¬ (Fits d s1 s3 (Two a b))

  -- two are found: the other one is above, or it would have been met before
  pub pair_found : (i : ℕ) (p : Positions) → NoneBelow i → Paired d s1 s3 i (Some p) → p ≡ located d s1 s3
  pair_found i p n s =
      s.1 ∙ ⊎_elim (λ f. sym (located_is d s1 s3 (Two i s.0) f)) (λ f. absurd (n s.0 i f.within.0 f)) s.2

  -- none are
  pub pair_unfit : at_most_one (located d s1 s3) ≡ Unfit → NoneBelow (order d) → Unfit ≡ located d s1 s3
  pair_unfit e n = go (located d s1 s3) e (located_fits d s1 s3)
    where
      go : (p : Positions) → at_most_one p ≡ Unfit → (p ≢ Unfit → Fits d s1 s3 p) → Unfit ≡ p
      go Zero z f = sym z
      go (One i) z f = sym z
      go (Two i j) z f =
          let a = f two≢unfit in
          absurd (n i j (omega (arith, a.within)) a)
      go Unfit z f = refl

  -- the first that is found, else none
  pub pair_first : (r : Option Positions) → at_most_one (located d s1 s3) ≡ Unfit
      → MatchOption r ((k : ℕ) → k < order d → Paired d s1 s3 k None) (λ p. (i : ℕ) × (i < order d) × Paired d s1 s3 i (Some p) × ((k : ℕ) → k < i → Paired d s1 s3 k None))
      → unwrap_or r Unfit ≡ located d s1 s3
  pair_first None e h = pair_unfit e (λ a b l. h a l b)
  pair_first (Some p) e h = pair_found h.0 p (λ a b l. h.3 a l b) h.2

  -- ---- the answer of at most one position is the answer

  -- where s1 is 0
  pub single_at_zero : (r : Positions) → r ≡ at_most_one (located d s1 s3) → s1 ≡ 0 → r ≡ located d s1 s3
  single_at_zero r e z = e ∙ go (located d s1 s3) (located_fits d s1 s3)
    where
      go : (p : Positions) → (p ≢ Unfit → Fits d s1 s3 p) → at_most_one p ≡ p
      go Zero f = refl
      go (One i) f = refl
      go (Two i j) f =
          let a = f two≢unfit in
          absurd (pair_pos d a.within.0 a.within.1 (a.sum1 ∙ z))
      go Unfit f = refl
