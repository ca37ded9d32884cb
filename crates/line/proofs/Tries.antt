-- Bounded-distance decoding in packed words: from the located positions and the parity to the answer.
-- Assumes nothing.
use mathlib.Core.Path.{◌≡◌, refl, sym, ap, ◌∙◌, subst}
use mathlib.Core.Bool.{Bool, true, false, cond}
use mathlib.Core.Logic.{◌≢◌}
use mathlib.Core.List.{List}
use Prim.Native.Nat.{ℕ, zero, suc, ◌+◌, ◌/◌, ◌%◌, ◌<◌, ◌≤◌}
use native.Mathlib.Omega.{arith}
use lib.Dec.{eqb}
use borrow.Author.Tests.{ne_eqb}
use Rattle.degree.specs.declared.Degree.{Degree}
use Rattle.field.specs.declared.locate.Place.{Place}
use Rattle.field.specs.declared.locate.Positions.{Positions}
use Rattle.field.specs.declared.locate.Positions.TheVariants.{Zero, One, Two, Unfit}
use Rattle.degree.specs.Degree.{size, order}
use Rattle.field.specs.Syndrome.{s1, s3, parity}
use Rattle.field.specs.Working.Fitting.{Fits}
use Rattle.field.specs.Working.Places.{positions_of, IsPlace}
use Rattle.field.specs.Working.Positions.{located, usable, Below}
use Rattle.field.proofs.Primitive.{primitive}
use Rattle.field.proofs.Locating.{one≢unfit, two≢unfit, located_fits, located_none, located_below, usable_below, usable_same}
use Rattle.line.specs.declared.bounded.Correction.{Correction}
use Rattle.std.specs.Prelude.{Option, None, Some, IfSome}
use Rattle.line.specs.Cells.{IsWord, flip}
use Rattle.line.specs.Bounded.{bounded, changed}
use Rattle.line.specs.Working.Packed.{PacksWord}
use Rattle.words.specs.Working.Word.{value}
use Rattle.line.specs.Working.Tries.{failed, found, mended, changes, Mends, Decodes}
use Rattle.line.proofs.CellLaws.{distance_self}
use Rattle.line.proofs.Flips.{flipped_far}
use Rattle.line.proofs.Mending.{answer_mends}

pub last_below : (d : Degree) → order d < size d
last_below d = omega (arith, (primitive d).more)

-- the positions of an entry that can be of use are cells, where they are those of the located ones
pub place_below : (d : Degree) (a b e : ℕ) (even : Bool) → usable even (positions_of e) ≡ usable even (located d a b)
    → Below (size d) (usable even (positions_of e))
place_below d a b e even h =
    subst (Below (size d)) (sym h) (usable_below (size d) even (located d a b) (located_below d (size d) a b (omega (arith, last_below d))))

-- ---- a word mended by an entry of places

module _ (d : Degree) (ws : List ℕ) where
  -- three flips, each made or not, by the number of positions and the parity
  abbrev flips : ℕ → ℕ → (i j : ℕ) → List ℕ
  flips number parity i j =
      let last = (number + parity) % 2 in
      let a = cond (eqb last 1) (flip (order d) ws) ws in
      let b = cond (eqb (number / 2 % 2) 1) (flip j a) a in
      cond (eqb ((number + 1) / 2 % 2) 1) (flip i b) b

  module _ (i j : ℕ) where
    -- what an entry with that number of positions stands for
    abbrev entry_is : ℕ → Positions
    entry_is number = cond (eqb number 0) Zero (cond (eqb number 1) (One i) (cond (eqb number 2) (Two i j) Unfit))

    -- at most two cells are changed
    pub some_mends : (number parity : ℕ) → parity < 2 → number + (number + parity) % 2 ≤ 2 → {m : Correction} → m.changed ≡ number + (number + parity) % 2
        → PacksWord (size d) (flips number parity i j) (value m.word) → (p : Positions) → p ≡ entry_is number → Mends d ws p (eqb parity 0) (Some m)
    some_mends zero zero k l c q p e = rw e (record { answer = found q; changed = c })
    some_mends zero (suc zero) k l c q p e = rw e (record { answer = found q; changed = c })
    some_mends zero (suc (suc y)) k l c q p e = absurd (omega arith)
    some_mends (suc zero) zero k l c q p e = rw e (record { answer = found q; changed = c })
    some_mends (suc zero) (suc zero) k l c q p e = rw e (record { answer = found q; changed = c })
    some_mends (suc zero) (suc (suc y)) k l c q p e = absurd (omega arith)
    some_mends (suc (suc zero)) zero k l c q p e = rw e (record { answer = found q; changed = c })
    some_mends (suc (suc zero)) (suc zero) k l c q p e = absurd (omega arith)
    some_mends (suc (suc zero)) (suc (suc y)) k l c q p e = absurd (omega arith)
    some_mends (suc (suc (suc x))) y k l c q p e = absurd (omega arith)

    -- more than two are too many
    pub none_mends : (number parity : ℕ) → parity < 2 → 2 < number + (number + parity) % 2
        → (p : Positions) → p ≡ entry_is number → Mends d ws p (eqb parity 0) None
    none_mends zero zero k l p e = absurd (omega arith)
    none_mends zero (suc zero) k l p e = absurd (omega arith)
    none_mends zero (suc (suc y)) k l p e = absurd (omega arith)
    none_mends (suc zero) zero k l p e = absurd (omega arith)
    none_mends (suc zero) (suc zero) k l p e = absurd (omega arith)
    none_mends (suc zero) (suc (suc y)) k l p e = absurd (omega arith)
    none_mends (suc (suc zero)) zero k l p e = absurd (omega arith)
    none_mends (suc (suc zero)) (suc zero) k l p e = rw e (record { answer = failed; changed = tt })
    none_mends (suc (suc zero)) (suc (suc y)) k l p e = absurd (omega arith)
    none_mends (suc (suc (suc x))) y k l p e = rw (e ∙ unfit) (record { answer = failed; changed = tt })
      where
        n : ℕ
        n = suc (suc (suc x))

        unfit : entry_is n ≡ Unfit
        unfit = rw (ne_eqb n 0 (λ z. omega arith), ne_eqb n 1 (λ z. omega arith), ne_eqb n 2 (λ z. omega arith)) refl

-- where a word is mended, the positions of its entry are cells: the first of one or two, and the second of two
module _ (n e parity : ℕ) (small : parity < 2) (few : e / 16384 + (e / 16384 + parity) % 2 ≤ 2) (h : Below n (usable (eqb parity 0) (positions_of e))) where
  abbrev entry : ℕ → Positions
  entry q = cond (eqb q 0) Zero (cond (eqb q 1) (One (e % 128)) (cond (eqb q 2) (Two (e % 128) (e / 128 % 128)) Unfit))

  pub first_below : (e / 16384 + 1) / 2 % 2 ≡ 1 → e % 128 < n
  first_below = go (e / 16384) parity small few h
    where
      go : (q p : ℕ) → p < 2 → q + (q + p) % 2 ≤ 2 → Below n (usable (eqb p 0) (entry q)) → (q + 1) / 2 % 2 ≡ 1 → e % 128 < n
      go zero p o l b z = absurd (omega arith)
      go (suc zero) zero o l b z = b
      go (suc zero) (suc zero) o l b z = b
      go (suc zero) (suc (suc p)) o l b z = absurd (omega arith)
      go (suc (suc zero)) zero o l b z = b.0
      go (suc (suc zero)) (suc p) o l b z = absurd (omega arith)
      go (suc (suc (suc q))) p o l b z = absurd (omega arith)

  pub second_below : e / 16384 / 2 % 2 ≡ 1 → e / 128 % 128 < n
  second_below = go (e / 16384) parity small few h
    where
      go : (q p : ℕ) → p < 2 → q + (q + p) % 2 ≤ 2 → Below n (usable (eqb p 0) (entry q)) → q / 2 % 2 ≡ 1 → e / 128 % 128 < n
      go zero p o l b z = absurd (omega arith)
      go (suc zero) p o l b z = absurd (omega arith)
      go (suc (suc zero)) zero o l b z = b.1
      go (suc (suc zero)) (suc p) o l b z = absurd (omega arith)
      go (suc (suc (suc q))) p o l b z = absurd (omega arith)

-- ---- the word's own check sums

-- as many cells are changed as what is found differs from the word in
changes_is : (d : Degree) (ws : List ℕ) (l : IsWord (size d) ws) {a b : ℕ} (p : Positions) (even : Bool) → (p ≢ Unfit → Fits d a b p)
    → changes p even ≡ changed ws (mended d ws p even)
changes_is d ws l Zero true f = sym (distance_self ws)
changes_is d ws l Zero false f = sym (flipped_far ws (One (order d)) l (last_below d))
changes_is d ws l (One i) true f = sym (flipped_far ws (Two i (order d)) l ((f one≢unfit).within, last_below d))
changes_is d ws l (One i) false f = let w = (f one≢unfit).within in sym (flipped_far ws (One i) l (omega (arith, last_below d)))
changes_is d ws l (Two i j) true f = let w = (f two≢unfit).within in sym (flipped_far ws (Two i j) l (w.0, omega (arith, last_below d)))
changes_is d ws l (Two i j) false f = refl
changes_is d ws l Unfit even f = refl

same_number : (t : Option Correction) {a b : ℕ} → IfSome t (λ m. m.changed ≡ a) → a ≡ b → IfSome t (λ m. m.changed ≡ b)
same_number None h e = tt
same_number (Some m) h e = h ∙ e

pub tried_bounded : (d : Degree) (r : Place) {ws : List ℕ} {w : ℕ} {t : Option Correction} → PacksWord (size d) ws w → IsPlace d ws r
    → Mends d ws (positions_of r.entry) (eqb r.parity 0) t → Decodes d ws t
tried_bounded d r {ws} {t} q place a =
    let e = r.entry in
    let p = located d (s1 d ws) (s3 d ws) in
    let even = eqb (parity d ws) 0 in
    let fits = located_fits d (s1 d ws) (s3 d ws) in
    let l : usable even (positions_of e) ≡ usable even p = rw place.parity at place.fits in
    let m : Mends d ws (positions_of e) even t = rw place.parity at a in
    let is : bounded d ws ≡ mended d ws p even = answer_mends d ws q.cells p fits (located_none d (s1 d ws) (s3 d ws)) in
    let found = usable_same (mended d ws) (λ i j. refl) even in
    let far = usable_same changes (λ i j. refl) even in
    let alike : mended d ws (positions_of e) even ≡ bounded d ws =
    sym (found (positions_of e)) ∙ ap (λ (x : Positions). mended d ws x even) l ∙ found p ∙ sym is in
    let number : changes (positions_of e) even ≡ changes p even = sym (far (positions_of e)) ∙ ap (λ (x : Positions). changes x even) l ∙ far p in
    record {
      answer = rw (← alike) m.answer;
      changed = same_number t m.changed (number ∙ changes_is d ws q.cells p even fits ∙ ap (changed ws) (sym is));
    }
