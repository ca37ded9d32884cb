-- Two sets of at most two positions with equal check sums s1 and s3 are equal: in the field, this is the minimum distance
-- of the code. With s = a + b = c + d, not 0: a³ + b³ = s³ + s a b, so a b = c d, so (a + c) (a + d) = 0.
-- Assumes nothing.
use mathlib.Core.Path.{◌≡◌, refl, sym, ap, ap₂, ◌∙◌}
use mathlib.Core.Logic.{◌≢◌, ◌⊎◌, inl, inr}
use Prim.Native.Nat.{ℕ, ◌+◌, ◌*◌, ◌<◌}
use native.Mathlib.Decide.{ℕ_discrete}
use native.Mathlib.Omega.{arith}
use lib.Bits.{bit_xor, xor_zero_r, xor_comm}
use Rattle.laws.proofs.Xor.{xors, xor_eq, xor_inj}
use Rattle.degree.specs.declared.Degree.{Degree}
use Rattle.field.specs.declared.locate.Positions.{Positions}
use Rattle.field.specs.declared.locate.Positions.TheVariants.{Zero, One, Two, Unfit}
use Rattle.degree.specs.Degree.{order}
use Rattle.field.specs.Field.{times_power, power}
use Rattle.field.specs.Working.Positions.{total}
use Rattle.field.specs.Working.Fitting.{Within}
use Rattle.field.proofs.Doubling.{times_xor, times_add}
use Rattle.field.proofs.Primitive.{primitive}
use Rattle.field.proofs.Powers.{power_pos, power_cancel, sum_power}

module _ (d : Degree) where
  abbrev P : ℕ → ℕ
  P i = power d i

  -- where one power is the sum of two
  module _ (k a b : ℕ) (e : P k ≡ bit_xor (P a) (P b)) where
    -- each multiple of it is the sum of their multiples
    split : (j m p q : ℕ) → (m ≡ j + k) × (p ≡ j + a) × (q ≡ j + b) → P m ≡ bit_xor (P p) (P q)
    split j m p q h =
        ap P h.0 ∙ times_add d j k 1 ∙ ap (times_power d j) e ∙ times_xor d j (P a) (P b)
        ∙ ap₂ bit_xor (sym (ap P h.1 ∙ times_add d j a 1)) (sym (ap P h.2 ∙ times_add d j b 1))

    -- a³ + b³ is s³ + s a b
    cubes : bit_xor (P (3 * a)) (P (3 * b)) ≡ bit_xor (P (3 * k)) (P (k + (a + b)))
    cubes =
        rw (
          split (k + k) (3 * k) (a + k + k) (b + k + k) (omega arith),
          split (a + k) (a + k + k) (a + a + k) (a + b + k) (omega arith),
          split (b + k) (b + k + k) (a + b + k) (b + b + k) (omega arith),
          split (a + a) (a + a + k) (3 * a) (a + a + b) (omega arith),
          split (b + b) (b + b + k) (a + b + b) (3 * b) (omega arith),
          split (a + b) (k + (a + b)) (a + a + b) (a + b + b) (omega arith),
        ) (simp xors)

  -- equal sums and equal sums of cubes have equal products
  equal_products : (a b c e : ℕ) → P a ≢ P b → bit_xor (P a) (P b) ≡ bit_xor (P c) (P e)
      → bit_xor (P (3 * a)) (P (3 * b)) ≡ bit_xor (P (3 * c)) (P (3 * e)) → P (a + b) ≡ P (c + e)
  equal_products a b c e f e1 e3 =
      let k = sum_power d a b f in
      power_cancel d k.0 (a + b) (c + e)
      (xor_inj (P (3 * k.0)) (sym (cubes k.0 a b k.1) ∙ e3 ∙ cubes k.0 c e (k.1 ∙ e1)))

  across : (a b c e : ℕ) → bit_xor a b ≡ bit_xor c e → bit_xor a c ≡ bit_xor e b
  across a b c e h =
      let l : bit_xor a c ≡ bit_xor (bit_xor a b) (bit_xor b c) = simp xors in
      l ∙ ap (λ (x : ℕ). bit_xor x (bit_xor b c)) h ∙ simp xors

  -- equal sums and equal products: a is c or e
  either : (a b c e : ℕ) → P a ≢ P b → bit_xor (P a) (P b) ≡ bit_xor (P c) (P e) → P (a + b) ≡ P (c + e)
      → P a ≢ P c → P a ≡ P e
  either a b c e f e1 e2 g =
      let k = sum_power d a b f in
      let m = sum_power d a c g in
      let s : bit_xor (P (a + a)) (P (a + b)) ≡ bit_xor (P (a + c)) (P (a + e)) =
      sym (split k.0 a b k.1 a (a + k.0) (a + a) (a + b) (omega arith)) ∙ split k.0 c e (k.1 ∙ e1) a (a + k.0) (a + c) (a + e) (omega arith) in
      power_cancel d m.0 a e
      (split m.0 a c m.1 a (m.0 + a) (a + a) (a + c) (omega arith)
      ∙ across (P (a + a)) (P (a + b)) (P (a + c)) (P (a + e)) s
      ∙ ap (bit_xor (P (a + e))) e2
      ∙ sym (split m.0 a c m.1 e (m.0 + e) (a + e) (c + e) (omega arith)))

  same_pair : (a b c e : ℕ) → a < order d → b < order d → c < order d → e < order d → a ≢ b
      → bit_xor (P a) (P b) ≡ bit_xor (P c) (P e) → bit_xor (P (3 * a)) (P (3 * b)) ≡ bit_xor (P (3 * c)) (P (3 * e))
      → ((a ≡ c) × (b ≡ e)) ⊎ ((a ≡ e) × (b ≡ c))
  same_pair a b c e ha hb hc he f e1 e3 = pick (ℕ_discrete a c)
    where
      differ : P a ≢ P b
      differ h = f ((primitive d).once ha hb h)

      pick : Dec (a ≡ c) → ((a ≡ c) × (b ≡ e)) ⊎ ((a ≡ e) × (b ≡ c))
      pick (yes h) = inl (h, (primitive d).once hb he (xor_inj (P a) (e1 ∙ ap (λ (k : ℕ). bit_xor (P k) (P e)) (sym h))))
      pick (no g) =
          let h : a ≡ e = (primitive d).once ha he (either a b c e differ e1 (equal_products a b c e differ e1 e3) (λ p. g ((primitive d).once ha hc p))) in
          inr (h, (primitive d).once hb hc (xor_inj (P a) (e1 ∙ xor_comm (P c) (P e) ∙ ap (λ (k : ℕ). bit_xor (P k) (P c)) (sym h))))

  -- three powers that add up to 0 have cubes that do not
  three_cubes : (i a b : ℕ) → P i ≡ bit_xor (P a) (P b) → P (3 * i) ≢ bit_xor (P (3 * a)) (P (3 * b))
  three_cubes i a b e1 e3 =
      power_pos d (i + (a + b))
      (xor_inj (P (3 * i)) (sym (cubes i a b e1) ∙ sym e3 ∙ sym (xor_zero_r (P (3 * i)))))

  pub pair_pos : {i j : ℕ} → i < j → j < order d → bit_xor (P i) (P j) ≢ 0
  pair_pos l h e = let e = (primitive d).once (omega arith) h (xor_eq e) in omega arith

  -- at most two positions are known by their two check sums
  pub unique : (p q : Positions) → Within (order d) p → Within (order d) q → total (λ i. power d i) p ≡ total (λ i. power d i) q
      → total (λ i. power d (3 * i)) p ≡ total (λ i. power d (3 * i)) q → p ≡ q
  unique Zero Zero hp hq e1 e3 = refl
  unique Zero (One i) hp hq e1 e3 = absurd (power_pos d i (sym e1))
  unique Zero (Two i j) hp hq e1 e3 = absurd (pair_pos hq.0 hq.1 (sym e1))
  unique Zero Unfit hp hq e1 e3 = absurd hq
  unique (One i) Zero hp hq e1 e3 = absurd (power_pos d i e1)
  unique (One i) (One j) hp hq e1 e3 = ap One ((primitive d).once hp hq e1)
  unique (One i) (Two a b) hp hq e1 e3 = absurd (three_cubes i a b e1 e3)
  unique (One i) Unfit hp hq e1 e3 = absurd hq
  unique (Two i j) Zero hp hq e1 e3 = absurd (pair_pos hp.0 hp.1 e1)
  unique (Two a b) (One i) hp hq e1 e3 = absurd (three_cubes i a b (sym e1) (sym e3))
  unique (Two a b) (Two c e) hp hq e1 e3 =
      pick (same_pair a b c e (omega arith) hp.1 (omega arith) hq.1 (omega arith) e1 e3)
    where
      pick : ((a ≡ c) × (b ≡ e)) ⊎ ((a ≡ e) × (b ≡ c)) → Two a b ≡ Two c e
      pick (inl h) = ap₂ Two h.0 h.1
      pick (inr h) = absurd (omega arith)
  unique (Two i j) Unfit hp hq e1 e3 = absurd hq
  unique Unfit q hp hq e1 e3 = absurd hp
