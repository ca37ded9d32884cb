-- A grid of words: one looked up and put, and all of them transposed by their four quarters.
-- Assumes nothing.
use mathlib.Core.Path.{◌≡◌, refl, sym, ap, ◌∙◌}
use mathlib.Core.List.{List, ◌++◌}
use mathlib.Core.Logic.{dite}
use Prim.Native.Nat.{ℕ, ◌+◌, ◌-◌, ◌/◌, ◌%◌, ◌^◌, ◌<◌, ◌≤◌}
use native.Mathlib.Decide.{dec_lt, ℕ_discrete}
use native.Mathlib.Omega.{arith}
use lib.ListN.{length, get_or, set, take, drop, length-drop, get_or-eq_default}
use lib.Pow.{pow_mono}
use lib.Seq.{get_or-set_same, get_or-set_other, get_or-take, get_or-drop, length-take-le, take_at, drop_at}
use Rattle.laws.specs.Working.Bits.{bit_at}
use Rattle.words.specs.declared.word.grid.Grid.{Grid}
use Rattle.words.specs.Working.Grid.{word_in, WordPut, Within, GridTurned}
use Rattle.words.specs.Working.Network.{Turned}
use Rattle.words.specs.Working.Quarters.{Small, Quarters}
use Rattle.words.proofs.Halves.{halves_lt, bit_low, bit_high}
use Rattle.words.proofs.ZeroLaws.{nothing_turned}

-- ---- one word

-- both numbers of word i replaced
pub word_put : (a b : Grid) (i v : ℕ) → i < length a.low → i < length a.high → b.low ≡ set a.low i (v % 2 ^ 64) → b.high ≡ set a.high i (v / 2 ^ 64) → WordPut a i v b
unfolding word_in
word_put a b i v p q l u = record {
  here = rw (l, u, get_or-set_same a.low i (v % 2 ^ 64) 0 p, get_or-set_same a.high i (v / 2 ^ 64) 0 q) (omega arith);
  others = λ j n. rw (l, u, get_or-set_other a.low i j (v % 2 ^ 64) 0 n, get_or-set_other a.high i j (v / 2 ^ 64) 0 n);
}

-- what holds of the first a words of a grid, and of the next one that is put, holds of one word more
pub put_next : (P : ℕ → ℕ → Type 0) (g g' : Grid) (a v : ℕ) → WordPut g a v g' → ((b : ℕ) → b < a → P b (word_in g b)) → P a v → (b : ℕ) → b < a + 1 → P b (word_in g' b)
put_next P g g' a v w first next b q = pick (ℕ_discrete b a)
  where
    pick : Dec (b ≡ a) → P b (word_in g' b)
    pick (yes z) = rw (z, w.here) next
    pick (no z) = rw (w.others b z) (first b (omega (arith, z)))

-- ---- quarters

-- a number by the half of the list that has it
front_at : (l : List ℕ) (i : ℕ) → i < 64 → get_or l i 0 ≡ get_or (take 64 l) i 0
front_at l i h = sym (get_or-take 64 l i 0 h)

back_at : (l : List ℕ) (i : ℕ) → 64 ≤ i → get_or l i 0 ≡ get_or (drop 64 l) (i - 64) 0
back_at l i h =
    let e : 64 + (i - 64) ≡ i = omega arith in
    sym (get_or-drop 64 l (i - 64) 0 ∙ ap (λ (n : ℕ). get_or l n 0) e)

-- at most 64 words of at most 64 bits: the first quarter transposed is enough
module _ (n : ℕ) (few : n ≤ 64) (a b : Grid) (low_long : length a.low ≡ 128) (high_long : length a.high ≡ 128) (w : Within n a) where
  low_none : (i : ℕ) → 64 ≤ i → get_or a.low i 0 ≡ 0
  unfolding word_in
  low_none i h =
      dite (dec_lt i 128) (λ q. omega (arith, w.none i (omega arith) q)) (λ q. get_or-eq_default a.low 0 {n = i} (omega (arith, low_long)))

  pub narrow_small : Small a.low
  unfolding word_in
  narrow_small i =
      dite (dec_lt i 128) (λ q. omega (arith, w.short i q, pow_mono {i = n} {j = 64} few)) (λ q. rw (low_none i (omega arith)) (omega arith))

  high_none : (i : ℕ) → get_or a.high i 0 ≡ 0
  unfolding word_in
  high_none i =
      dite (dec_lt i 128) (λ q. omega (arith, w.short i q, pow_mono {i = n} {j = 64} few)) (λ q. get_or-eq_default a.high 0 {n = i} (omega (arith, high_long)))

  pub narrow_quarters : Turned (take 64 a.low) (take 64 b.low) → drop 64 b.low ≡ drop 64 a.low → b.high ≡ a.high → Quarters a.low a.high b.low b.high
  narrow_quarters t l h = record {
    first = t;
    below = nothing_turned (take 64 a.high) (drop 64 b.low) front (rw l (rw (length-drop, low_long) refl)) (λ i. rw l (back i));
    right = nothing_turned (drop 64 a.low) (take 64 b.high) back (rw h (length-take-le 64 a.high (omega (arith, high_long)))) (λ i. rw h (front i));
    last = nothing_turned (drop 64 a.high) (drop 64 b.high) behind (rw h (rw (length-drop, high_long) refl)) (λ i. rw h (behind i));
  }
    where
      back : (i : ℕ) → get_or (drop 64 a.low) i 0 ≡ 0
      back i = get_or-drop 64 a.low i 0 ∙ low_none (64 + i) (omega arith)

      behind : (i : ℕ) → get_or (drop 64 a.high) i 0 ≡ 0
      behind i = get_or-drop 64 a.high i 0 ∙ high_none (64 + i)

      front : (i : ℕ) → get_or (take 64 a.high) i 0 ≡ 0
      front i =
          dite (dec_lt i 64) (λ q. get_or-take 64 a.high i 0 q ∙ high_none i)
          (λ q. get_or-eq_default (take 64 a.high) 0 {n = i} (omega (arith, length-take-le 64 a.high (omega (arith, high_long)))))

-- a list by its halves
pub both_small : (l : List ℕ) → Small (take 64 l) → Small (drop 64 l) → Small l
both_small l f b i = dite (dec_lt i 64) (λ h. rw (front_at l i h) (f i)) (λ h. rw (back_at l i (omega arith)) (b (i - 64)))

-- each quarter transposed, and the inner two exchanged
pub quarters : (low high a b c e : List ℕ) {s o : List ℕ} → Turned (take 64 low) a → Turned (drop 64 low) b → Turned (take 64 high) c → Turned (drop 64 high) e → s ≡ c → o ≡ b
    → Quarters low high (a ++ s) (o ++ e)
quarters low high a b c e {s} {o} p q r t es eo =
    let long : length o ≡ 64 = ap length eo ∙ q.long in
    record {
      first = rw (take_at a s 64 p.long) p;
      below = rw (drop_at a s 64 p.long, es) r;
      right = rw (take_at o e 64 long, eo) q;
      last = rw (drop_at o e 64 long) t;
    }

-- ---- all words

-- bit k of a word
module _ (g : Grid) (i k : ℕ) (small : get_or g.low i 0 < 2 ^ 64) where
  low_at : k < 64 → bit_at (word_in g i) k ≡ bit_at (get_or g.low i 0) k
  unfolding word_in
  low_at h =
      let e : k % 64 ≡ k = omega arith in
      sym (ap (bit_at (get_or g.low i 0)) (sym e) ∙ bit_low (get_or g.high i 0) (get_or g.low i 0) k small h)

  high_at : 64 ≤ k → k < 128 → bit_at (word_in g i) k ≡ bit_at (get_or g.high i 0) (k - 64)
  unfolding word_in
  high_at h l =
      let e : k % 64 ≡ k - 64 = omega arith in
      sym (ap (bit_at (get_or g.high i 0)) (sym e) ∙ bit_high (get_or g.high i 0) (get_or g.low i 0) k small h l)

module _ (a b : Grid) (fits : Small a.low) (q : Quarters a.low a.high b.low b.high) where
  low_small : Small b.low
  low_small = both_small b.low q.first.small q.below.small

  high_small : Small b.high
  high_small = both_small b.high q.right.small q.last.small

  word_small : (i : ℕ) → word_in b i < 2 ^ 128
  unfolding word_in
  word_small i = halves_lt 64 64 (get_or b.high i 0) (get_or b.low i 0) (high_small i) (low_small i)

  turned_bits : (i j : ℕ) → i < 128 → j < 128 → bit_at (word_in b i) j ≡ bit_at (word_in a j) i
  turned_bits i j hi hj =
      dite (dec_lt i 64)
      (λ l. dite (dec_lt j 64)
      (λ m. low_at b i j (low_small i) m ∙ ap (λ (x : ℕ). bit_at x j) (front_at b.low i l) ∙ q.first.bits i j l m ∙ ap (λ (x : ℕ). bit_at x i) (sym (front_at a.low j m)) ∙ sym (low_at a j i (fits j) l))
      (λ m. high_at b i j (low_small i) (omega arith) hj ∙ ap (λ (x : ℕ). bit_at x (j - 64)) (front_at b.high i l) ∙ q.right.bits i (j - 64) l (omega arith)
      ∙ ap (λ (x : ℕ). bit_at x i) (sym (back_at a.low j (omega arith))) ∙ sym (low_at a j i (fits j) l)))
      (λ l. dite (dec_lt j 64)
      (λ m. low_at b i j (low_small i) m ∙ ap (λ (x : ℕ). bit_at x j) (back_at b.low i (omega arith)) ∙ q.below.bits (i - 64) j (omega arith) m
      ∙ ap (λ (x : ℕ). bit_at x (i - 64)) (sym (front_at a.high j m)) ∙ sym (high_at a j i (fits j) (omega arith) hi))
      (λ m. high_at b i j (low_small i) (omega arith) hj ∙ ap (λ (x : ℕ). bit_at x (j - 64)) (back_at b.high i (omega arith)) ∙ q.last.bits (i - 64) (j - 64) (omega arith) (omega arith)
      ∙ ap (λ (x : ℕ). bit_at x (i - 64)) (sym (back_at a.high j (omega arith))) ∙ sym (high_at a j i (fits j) (omega arith) hi)))

  pub grid_turned : GridTurned a b
  grid_turned = record { small = word_small; bits = turned_bits }
