-- Bounded-distance decoding from the error positions that fit the two check sums, and the parity.
-- Assumes nothing.
use mathlib.Core.Path.{◌≡◌, refl, sym, ap, ◌∙◌, subst}
use mathlib.Core.Bool.{Bool, true, false}
use mathlib.Core.Logic.{◌≢◌}
use mathlib.Core.List.{List}
use Prim.Native.Nat.{ℕ, suc, ◌+◌, ◌%◌, ◌≤◌}
use native.Mathlib.Omega.{arith}
use lib.Bits.{bit_xor, xor_self}
use lib.Dec.{eqb}
use lib.ListN.{take}
use borrow.Author.Tests.{eqb-true, eqb-false}
use Rattle.laws.proofs.Xor.{xor_eq}
use Rattle.degree.specs.declared.Degree.{Degree}
use Rattle.field.specs.declared.locate.Positions.{Positions}
use Rattle.field.specs.declared.locate.Positions.TheVariants.{Zero, One, Two, Unfit}
use Rattle.degree.specs.Degree.{size, order}
use Rattle.field.specs.Working.Positions.{total}
use Rattle.laws.specs.Digits.{sum_over}
use Rattle.field.specs.Syndrome.{s1, s3, parity}
use Rattle.field.specs.Working.Fitting.{Within, Fits}
use Rattle.field.proofs.Locating.{zero≢unfit, one≢unfit, two≢unfit}
use Rattle.field.proofs.Uniqueness.{unique}
use Rattle.field.proofs.Primitive.{primitive}
use Rattle.line.specs.Cells.{IsWord, distance, flip}
use Rattle.line.specs.Codeword.{Codeword}
use Rattle.line.specs.Bounded.{Found, Failed, bounded}
use Rattle.line.specs.Working.Tries.{mended}
use Rattle.line.proofs.CellLaws.{distance_parts}
use Rattle.line.proofs.SumLaws.{ones_distance, take_flip, take_flip_past}
use Rattle.line.proofs.Flips.{flipped, many, Reached, reached, within_le, flipped_word, flipped_near, flipped_sum, flipped_ones, take_flipped}
use Rattle.line.proofs.Distances.{front_word, word_parity, finds_exactly, fails_exactly}

module _ (d : Degree) (w : List ℕ) (l : IsWord (size d) w) where
  -- the positions fit the check sums of the word
  abbrev FitsWord : Positions → Type 0
  FitsWord p = Fits d (s1 d w) (s3 d w) p

  front : IsWord (order d) (take (order d) w)
  front = front_word d l

  -- a codeword within 2 shows positions that fit
  shown : {c : List ℕ} → Codeword d c → distance w c ≤ 2 → (p : Positions) × (FitsWord p) × (many p ≤ distance w c)
  shown {c} q h = (r.positions, record { within = inside; sum1 = sum _ q.first; sum3 = sum _ q.third }, omega (arith, nearer, r.number))
    where
      nearer : distance (take (order d) w) (take (order d) c) ≤ distance w c
      nearer = omega (arith, distance_parts (order d) w c)

      fc : IsWord (order d) (take (order d) c)
      fc = front_word d q.word

      r : Reached (take (order d) w) (take (order d) c)
      r = reached (take (order d) w) (take (order d) c) front.small fc.small (front.long ∙ sym fc.long) (omega (arith, nearer))

      inside : Within (order d) r.positions
      inside = subst (λ (n : ℕ). Within n r.positions) front.long r.within

      sum : (f : ℕ → ℕ) → sum_over f (take (order d) c) ≡ 0 → total f r.positions ≡ sum_over f (take (order d) w)
      sum f z = xor_eq (sym (flipped_sum f (take (order d) w) r.positions front inside) ∙ ap (sum_over f) (sym r.is) ∙ z)

  -- where no positions fit, it fails
  pub unfit_fails : ((p : Positions) → Fits d (s1 d w) (s3 d w) p → ⊥) → bounded d w ≡ Failed
  unfit_fails n = (fails_exactly d l).1 (λ c q h. let r = shown q h in n r.0 r.1)

  only : {p q : Positions} → FitsWord p → FitsWord q → p ≡ q
  only {p} {q} a b = unique d p q a.within b.within (a.sum1 ∙ sym b.sum1) (a.sum3 ∙ sym b.sum3)

  -- positions q over all n cells, which are p below n - 1, and an even number of ones
  finds : (p q : Positions) → Within (size d) q → FitsWord p
      → take (order d) (flipped q w) ≡ flipped p (take (order d) w) → (parity d w + many q) % 2 ≡ 0
      → bounded d w ≡ Found (flipped q w)
  finds p q h a e o =
      let lq = flipped_word q l in
      (finds_exactly d l).1 (
        record { word = lq; first = sum _ a.sum1; third = sum _ a.sum3; even = omega (arith, word_parity d l, word_parity d lq, flipped_ones w q l h) },
        flipped_near w q l h,
      )
    where
      sum : (f : ℕ → ℕ) → total f p ≡ sum_over f (take (order d) w) → sum_over f (take (order d) (flipped q w)) ≡ 0
      sum f t =
          let s = flipped_sum f (take (order d) w) p front a.within in
          ap (sum_over f) e ∙ s ∙ ap (λ (x : ℕ). bit_xor x (sum_over f (take (order d) w))) t ∙ xor_self (sum_over f (take (order d) w))

  -- two positions that fit and an odd number of ones: no codeword is within 2
  odd_fails : {i j : ℕ} → FitsWord (Two i j) → parity d w ≢ 0 → bounded d w ≡ Failed
  odd_fails {i} {j} a o = (fails_exactly d l).1 none
    where
      none : (c : List ℕ) → Codeword d c → distance w c ≤ 2 → ⊥
      none c q h =
          let r = shown q h in
          let two : 2 ≤ distance w c = subst (λ (p : Positions). many p ≤ distance w c) (only r.1 a) r.2 in
          omega (arith, q.even, word_parity d l, word_parity d q.word, ones_distance w c l.small q.word.small (l.long ∙ sym q.word.long))

  -- positions that fit and the parity say what is found
  pub fit_mends : (p : Positions) → Fits d (s1 d w) (s3 d w) p → bounded d w ≡ mended d w p (eqb (parity d w) 0)
  fit_mends p a = go (eqb (parity d w) 0) refl p a
    where
      more : suc (order d) ≡ size d
      more = omega (arith, (primitive d).more)

      wide : (p : Positions) → FitsWord p → Within (size d) p
      wide p a = within_le p (omega (arith, more)) a.within

      odd : parity d w ≢ 0 → parity d w ≡ 1
      odd o = omega arith

      go : (b : Bool) → eqb (parity d w) 0 ≡ b → (p : Positions) → FitsWord p → bounded d w ≡ mended d w p b
      go true e Zero a = finds Zero Zero tt a refl (rw (eqb-true (parity d w) 0 e))
      go false e Zero a =
          finds Zero (One (order d)) (omega (arith, more)) a (take_flip_past (order d) w) (rw (odd (eqb-false (parity d w) 0 e)))
      go true e (One i) a =
          finds (One i) (Two i (order d)) (a.within, omega (arith, more)) a
          (take_flip (order d) i (flip (order d) w) a.within ∙ ap (flip i) (take_flip_past (order d) w))
          (rw (eqb-true (parity d w) 0 e))
      go false e (One i) a =
          finds (One i) (One i) (wide (One i) a) a (take_flipped (order d) w (One i) a.within) (rw (odd (eqb-false (parity d w) 0 e)))
      go true e (Two i j) a =
          finds (Two i j) (Two i j) (wide (Two i j) a) a (take_flipped (order d) w (Two i j) a.within) (rw (eqb-true (parity d w) 0 e))
      go false e (Two i j) a = odd_fails a (eqb-false (parity d w) 0 e)
      go true e Unfit a = absurd a.within
      go false e Unfit a = absurd a.within

  -- so an answer to the two check sums, positions that fit or Unfit where nothing fits, says with the parity what is found
  pub answer_mends : (p : Positions) → (p ≢ Unfit → Fits d (s1 d w) (s3 d w) p)
      → (p ≡ Unfit → (q : Positions) → Fits d (s1 d w) (s3 d w) q → ⊥)
      → bounded d w ≡ mended d w p (eqb (parity d w) 0)
  answer_mends Zero a n = fit_mends Zero (a zero≢unfit)
  answer_mends (One i) a n = fit_mends (One i) (a one≢unfit)
  answer_mends (Two i j) a n = fit_mends (Two i j) (a two≢unfit)
  answer_mends Unfit a n = unfit_fails (n refl)
