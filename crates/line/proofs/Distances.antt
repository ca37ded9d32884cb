-- The distance of the code, and bounded-distance decoding. Document 01, "The code": two codewords differ in 0 or in at least
-- 6 cells; "One line": the one codeword within 2 of a full word, and it fails exactly if no codeword lies within 2.
-- Assumes nothing.
use mathlib.Core.Path.{◌≡◌, refl, sym, ap, ◌∙◌}
use mathlib.Core.Bool.{Bool, true, false, cond, ◌&&◌}
use mathlib.Core.Logic.{◌↔◌, ◌≢◌}
use mathlib.Core.List.{List}
use Prim.Native.Nat.{ℕ, ◌*◌, ◌%◌, ◌<◌, ◌≤◌}
use native.Mathlib.Nat.{le_refl}
use native.Mathlib.Omega.{arith}
use lib.Bits.{xor_comm}
use lib.Dec.{eqb}
use lib.ListN.{length, take, drop, length-drop}
use lib.Seq.{length-take-le, take_all}
use borrow.Author.Tests.{eqb-true}
use Rattle.laws.proofs.Xor.{xor_inj}
use Rattle.laws.proofs.Tests.{and_true}
use Rattle.laws.proofs.Searches.{Choice}
use Rattle.degree.specs.declared.Degree.{Degree}
use Rattle.field.specs.declared.locate.Positions.{Positions}
use Rattle.degree.specs.Degree.{size, order}
use Rattle.field.specs.Field.{power}
use Rattle.field.specs.Working.Positions.{total, searched}
use Rattle.laws.specs.Digits.{sum_over, ones_in}
use Rattle.field.specs.Syndrome.{s1, s3, parity}
use Rattle.field.specs.Working.Fitting.{Within}
use Rattle.field.proofs.Uniqueness.{unique}
use Rattle.field.proofs.Primitive.{primitive}
use Rattle.field.proofs.Locating.{searched_keeps, searched_none}
use Rattle.line.specs.Cells.{IsWord, distance, designed_distance}
use Rattle.line.specs.Codeword.{Codeword, is_codeword}
use Rattle.line.specs.Bounded.{Answer, Found, Failed, or_else, itself, one_flipped, two_flipped, within2, bounded}
use Rattle.line.proofs.CellLaws.{take_bits, word_known, distance_self, distance_parts, distance_length, triangle}
use Rattle.line.proofs.SumLaws.{ones_distance}
use Rattle.line.proofs.Flips.{flipped, Reached, reached, distance_zero, Between, between, flipped_word, flipped_near, flipped_sum}
use Rattle.line.proofs.Decoders.{Decoder, found_failed}

-- ---- the search

choice : Choice or_else Failed
choice = record { none? = failed?; first = first; second = λ b. refl }
  where
    failed? : (a : Answer) → Dec (a ≡ Failed)
    failed? (Found c) = no (found_failed refl)
    failed? Failed = yes refl

    first : (a b : Answer) → a ≢ Failed → or_else a b ≡ a
    first (Found c) b h = refl
    first Failed b h = absurd (h refl)

module _ (passes : List ℕ → Bool) where
  itself_sound : (w c : List ℕ) → itself passes w ≡ Found c → (c ≡ w) × (passes c ≡ true)
  unfolding itself
  itself_sound w c e = go (passes w) refl e
    where
      go : (p : Bool) → passes w ≡ p → cond p (Found w) Failed ≡ Found c → (c ≡ w) × (passes c ≡ true)
      go true ep e = let q : c ≡ w = cc in (q, ap passes q ∙ ep)
      go false ep e = absurd (found_failed e refl)

  itself_found : (w : List ℕ) → passes w ≡ true → itself passes w ≡ Found w
  unfolding itself
  itself_found w e = rw e

  -- the word with its cells flipped at given positions, where it passes
  abbrev turned : List ℕ → Positions → Answer
  turned w p = itself passes (flipped p w)

  -- what the search finds is the word with at most two flips, and passes
  search_sound : (w c : List ℕ) → within2 passes w ≡ Found c
      → (p : Positions) × (Within (length w) p) × (c ≡ flipped p w) × (passes c ≡ true)
  unfolding within2 one_flipped two_flipped searched
  search_sound w c e =
      searched_keeps choice (turned w) (length w)
      (λ a. (c : List ℕ) → a ≡ Found c → (p : Positions) × (Within (length w) p) × (c ≡ flipped p w) × (passes c ≡ true))
      (λ p h n c e. let r = itself_sound (flipped p w) c e in (p, h, r.0, r.1)) (found_failed e) c e

  -- it finds something where at most two flips give a word that passes
  search_some : (w : List ℕ) (p : Positions) → Within (length w) p → passes (flipped p w) ≡ true → within2 passes w ≢ Failed
  unfolding within2 one_flipped two_flipped searched
  search_some w p h t e = found_failed (itself_found (flipped p w) t) (searched_none choice (turned w) (length w) e p h)

-- ---- the code

module _ (d : Degree) where
  -- the cells that the two check sums go over are a word of n - 1 cells
  pub front_word : {w : List ℕ} → IsWord (size d) w → IsWord (order d) (take (order d) w)
  front_word {w} l = record {
    long = length-take-le (order d) w (rw l.long (omega arith));
    small = take_bits (order d) w l.small;
  }

  -- the parity of a word is that of its ones
  pub word_parity : {w : List ℕ} → IsWord (size d) w → parity d w ≡ ones_in w % 2
  word_parity {w} l = rw (take_all (size d) w (rw l.long (le_refl (size d))))

  -- the test of a word says whether it is a codeword
  pub is_codeword_lem : {w : List ℕ} → IsWord (size d) w → (is_codeword d w ≡ true) ↔ Codeword d w
  unfolding is_codeword
  is_codeword_lem {w} l = (to, λ p. rw (p.even, p.first, p.third))
    where
      to : (eqb (parity d w) 0 && (eqb (s1 d w) 0 && eqb (s3 d w) 0)) ≡ true → Codeword d w
      to e =
          let a = and_true (eqb (parity d w) 0) (eqb (s1 d w) 0 && eqb (s3 d w) 0) e in
          let b = and_true (eqb (s1 d w) 0) (eqb (s3 d w) 0) a.1 in
          record {
            word = l;
            first = eqb-true (s1 d w) 0 b.0;
            third = eqb-true (s3 d w) 0 b.1;
            even = eqb-true (parity d w) 0 a.0;
          }

  -- words of n - 1 cells with equal check sums and at most 4 apart are equal
  same_front : (a b : List ℕ) → IsWord (order d) a → IsWord (order d) b
      → sum_over (λ i. power d i) a ≡ sum_over (λ i. power d i) b
      → sum_over (λ i. power d (3 * i)) a ≡ sum_over (λ i. power d (3 * i)) b → distance a b ≤ 4 → a ≡ b
  same_front a b la lb e1 e3 h = p.is ∙ ap (λ (q : Positions). flipped q mid) same ∙ sym q.is
    where
      m : Between 2 2 a b
      m = between 2 2 a b la.small lb.small (la.long ∙ sym lb.long) h

      mid : List ℕ
      mid = m.mid

      lm : IsWord (order d) mid
      lm = record { long = m.long ∙ la.long; small = m.bits }

      p : Reached mid a
      p = reached mid a m.bits la.small m.long m.near_a

      q : Reached mid b
      q = reached mid b m.bits lb.small (lm.long ∙ sym lb.long) m.near_b

      inside : (p : Positions) → Within (length mid) p → Within (order d) p
      inside p h = rw lm.long at h

      sum : (f : ℕ → ℕ) → sum_over f a ≡ sum_over f b → total f p.positions ≡ total f q.positions
      sum f e =
          let ep = flipped_sum f mid p.positions lm (inside p.positions p.within) in
          let eq = flipped_sum f mid q.positions lm (inside q.positions q.within) in
          xor_inj (sum_over f mid)
          (xor_comm (sum_over f mid) (total f p.positions) ∙ sym ep ∙ ap (sum_over f) (sym p.is) ∙ e
          ∙ ap (sum_over f) q.is ∙ eq ∙ xor_comm (total f q.positions) (sum_over f mid))

      same : p.positions ≡ q.positions
      same =
          unique d p.positions q.positions (inside p.positions p.within) (inside q.positions q.within)
          (sum (λ i. power d i) e1) (sum (λ i. power d (3 * i)) e3)

  -- two codewords differ in 0 or in at least 6 cells
  pub codewords_apart : {c e : List ℕ} → Codeword d c → Codeword d e → distance c e < designed_distance → c ≡ e
  codewords_apart {c} {e} p q h =
      let long : length c ≡ length e = p.word.long ∙ sym q.word.long in
      let parts = distance_parts (order d) c e in
      let even : distance c e % 2 ≡ 0 =
      omega (arith, ones_distance c e p.word.small q.word.small long, p.even, q.even, word_parity p.word, word_parity q.word) in
      let fronts : take (order d) c ≡ take (order d) e =
      same_front (take (order d) c) (take (order d) e) (front_word p.word) (front_word q.word) (p.first ∙ sym q.first) (p.third ∙ sym q.third) (omega arith) in
      let none : distance (take (order d) c) (take (order d) e) ≡ 0 =
      ap (distance (take (order d) c)) (sym fronts) ∙ distance_self (take (order d) c) in
      let last : distance (drop (order d) c) (drop (order d) e) ≤ 1 =
      omega (arith, distance_length (drop (order d) c) (drop (order d) e), length-drop (order d) c, p.word.long, (primitive d).more) in
      distance_zero c e p.word.small q.word.small long (omega arith)

  -- at most one codeword lies within 2 of a word
  pub at_most_one : {w c e : List ℕ} → IsWord (size d) w → Codeword d c → Codeword d e
      → distance w c ≤ 2 → distance w e ≤ 2 → c ≡ e
  at_most_one {w} {c} {e} l p q hc he =
      codewords_apart p q
      (omega (arith, triangle w c e (p.word.long ∙ sym l.long) (q.word.long ∙ sym l.long), word_known w l.small))

  bounded_sound : {w c : List ℕ} → IsWord (size d) w → bounded d w ≡ Found c → Codeword d c × (distance w c ≤ 2)
  unfolding bounded
  bounded_sound {w} {c} l e =
      let r = search_sound (is_codeword d) w c e in
      let inside : Within (size d) r.0 = rw l.long at r.1 in
      let lc : IsWord (size d) c = rw r.2 (flipped_word r.0 l) in
      ((is_codeword_lem lc).0 r.3, rw r.2 (flipped_near w r.0 l inside))

  bounded_complete : {w c : List ℕ} → IsWord (size d) w → Codeword d c → distance w c ≤ 2 → bounded d w ≡ Found c
  unfolding bounded
  bounded_complete {w} {c} l p h = go (bounded d w) refl
    where
      r : Reached w c
      r = reached w c l.small p.word.small (l.long ∙ sym p.word.long) h

      some : bounded d w ≢ Failed
      some =
          search_some (is_codeword d) w r.positions r.within (ap (is_codeword d) (sym r.is) ∙ (is_codeword_lem p.word).1 p)

      go : (a : Answer) → bounded d w ≡ a → bounded d w ≡ Found c
      go (Found x) e = let t = bounded_sound l e in e ∙ ap Found (at_most_one l t.0 p t.1 h)
      go Failed e = absurd (some e)

  -- bounded-distance decoding finds exactly the codewords within 2
  pub bounded_decoder : Decoder (size d) (Codeword d) (bounded d)
  bounded_decoder =
      record { word = λ p. p.word; sound = bounded_sound; spaced = codewords_apart; complete = bounded_complete }

  -- it finds the codeword within 2
  pub finds_exactly : {w c : List ℕ} → IsWord (size d) w → (bounded d w ≡ Found c) ↔ (Codeword d c × (distance w c ≤ 2))
  finds_exactly l = (bounded_sound l, λ p. bounded_complete l p.0 p.1)

  -- it fails exactly if no codeword lies within 2
  pub fails_exactly : {w : List ℕ} → IsWord (size d) w
      → (bounded d w ≡ Failed) ↔ ((c : List ℕ) → Codeword d c → distance w c ≤ 2 → ⊥)
  fails_exactly {w} l = (λ e c p h. found_failed (bounded_complete l p h) e, λ n. go n (bounded d w) refl)
    where
      go : ((c : List ℕ) → Codeword d c → distance w c ≤ 2 → ⊥) → (a : Answer) → bounded d w ≡ a → bounded d w ≡ Failed
      go n Failed e = e
      go n (Found c) e = let s = bounded_sound l e in absurd (n c s.0 s.1)
