-- Words with at most two cells flipped: each word within 2 is one, and what the flips do to the sums.
-- Assumes nothing.
use mathlib.Core.Path.{◌≡◌, refl, sym, ap, ◌∙◌, subst}
use mathlib.Core.Logic.{◌≢◌}
use mathlib.Core.List.{List, [], ◌∷◌}
use Prim.Native.Nat.{ℕ, zero, suc, ◌+◌, ◌-◌, ◌%◌, ◌<◌, ◌≤◌, suc-le-suc}
use native.Mathlib.Nat.{suc_inj, zero-lt-suc}
use native.Mathlib.Decide.{ℕ_discrete}
use native.Mathlib.Omega.{arith}
use lib.Bits.{bit_xor}
use lib.ListN.{length, take}
use Rattle.laws.proofs.Xor.{xor_assoc}
use Rattle.field.specs.declared.locate.Positions.{Positions}
use Rattle.field.specs.declared.locate.Positions.TheVariants.{Zero, One, Two, Unfit}
use Rattle.field.specs.Working.Positions.{total}
use Rattle.laws.specs.Digits.{sum_over, ones_in}
use Rattle.field.specs.Working.Fitting.{Within}
use lib.Seq.{get_or-set_other}
use Rattle.line.specs.Cells.{IsWord, cell, distance, flip}
use Rattle.line.specs.Working.OneCell.{differs}
use Rattle.line.proofs.CellLaws.{Bits, differs_equal, differs_other, flip_word, distance_self, distance_flip}
use Rattle.line.proofs.SumLaws.{sum_flip, ones_flip, take_flip}

-- the word with the cells at the positions flipped
abbrev pub flipped : Positions → List ℕ → List ℕ
flipped Zero w = w
flipped (One i) w = flip i w
flipped (Two i j) w = flip i (flip j w)
flipped Unfit w = w

-- the number of positions
abbrev pub many : Positions → ℕ
many Zero = 0
many (One i) = 1
many (Two i j) = 2
many Unfit = 0

-- ---- from one word to another

-- the positions that take one word to another
pub record Reached (w c : List ℕ) : Type 0 where
  pub positions : Positions
  pub within : Within (length w) positions
  pub number : many positions ≡ distance w c
  pub is : c ≡ flipped positions w

-- the same positions in a word with one more cell in front
abbrev shift : Positions → Positions
shift Zero = Zero
shift (One i) = One (suc i)
shift (Two i j) = Two (suc i) (suc j)
shift Unfit = Unfit

shift_within : (n : ℕ) (p : Positions) → Within n p → Within (suc n) (shift p)
shift_within n Zero h = tt
shift_within n (One i) h = suc-le-suc h
shift_within n (Two i j) h = (suc-le-suc h.0, suc-le-suc h.1)
shift_within n Unfit h = h

shift_flipped : (p : Positions) (b : ℕ) (bs : List ℕ) → b ∷ flipped p bs ≡ flipped (shift p) (b ∷ bs)
unfolding flip
shift_flipped Zero b bs = refl
shift_flipped (One i) b bs = refl
shift_flipped (Two i j) b bs = refl
shift_flipped Unfit b bs = refl

shift_many : (p : Positions) → many (shift p) ≡ many p
shift_many Zero = refl
shift_many (One i) = refl
shift_many (Two i j) = refl
shift_many Unfit = refl

equal_first : (b : ℕ) (w c : List ℕ) → Reached w c → Reached (b ∷ w) (b ∷ c)
unfolding distance
equal_first b w c r = record {
  positions = shift r.positions;
  within = shift_within (length w) r.positions r.within;
  number = omega (arith, shift_many r.positions, r.number, differs_equal {b = b} {c = b} refl);
  is = ap (λ (l : List ℕ). b ∷ l) r.is ∙ shift_flipped r.positions b w;
}

other_first : (b c : ℕ) (w v : List ℕ) → b < 2 → c < 2 → b ≢ c → distance w v ≤ 1 → Reached w v → Reached (b ∷ w) (c ∷ v)
unfolding distance flip
other_first b c w v hb hc n h r = go r.positions r.within r.number r.is
  where
    one : differs b c ≡ 1
    one = differs_other {b = b} {c = c} hb n

    both : {u : List ℕ} → v ≡ u → c ∷ v ≡ (1 - b) ∷ u
    both e = let o : c ≡ 1 - b = omega arith in cc

    go : (p : Positions) → Within (length w) p → many p ≡ distance w v → v ≡ flipped p w → Reached (b ∷ w) (c ∷ v)
    go Zero l q e = record { positions = One 0; within = zero-lt-suc _; number = omega (arith, one); is = both e }
    go (One i) l q e =
        record { positions = Two 0 (suc i); within = (zero-lt-suc i, suc-le-suc l); number = omega (arith, one); is = both e }
    go (Two i j) l q e = absurd (omega arith)
    go Unfit l q e = absurd l

-- a word within 2 is reached by at most two flips
pub reached : (w c : List ℕ) → Bits w → Bits c → length w ≡ length c → distance w c ≤ 2 → Reached w c
unfolding distance
reached [] [] hw hc e h = record { positions = Zero; within = tt; number = refl; is = refl }
reached [] (c ∷ cs) hw hc e h = absurd (omega arith)
reached (b ∷ bs) [] hw hc e h = absurd (omega arith)
reached (b ∷ bs) (c ∷ cs) hw hc e h =
    go (ℕ_discrete b c) (reached bs cs (λ i. hw (suc i)) (λ i. hc (suc i)) (suc_inj e) (omega arith))
  where
    go : Dec (b ≡ c) → Reached bs cs → Reached (b ∷ bs) (c ∷ cs)
    go (yes p) r = subst (λ (x : ℕ). Reached (b ∷ bs) (x ∷ cs)) p (equal_first b bs cs r)
    go (no p) r =
        other_first b c bs cs (hw 0) (hc 0) p (omega (arith, differs_other {b = b} {c = c} (hw 0) p)) r

-- words at distance 0 are equal
pub distance_zero : (w c : List ℕ) → Bits w → Bits c → length w ≡ length c → distance w c ≡ 0 → w ≡ c
distance_zero w c hw hc e z = let r = reached w c hw hc e (omega arith) in sym (go r.positions r.number r.is)
  where
    go : (p : Positions) → many p ≡ distance w c → c ≡ flipped p w → c ≡ w
    go Zero s i = i
    go (One i) s e = absurd (omega arith)
    go (Two i j) s e = absurd (omega arith)
    go Unfit s i = i

-- a word between two others: within s of the one and t of the other
pub record Between (s t : ℕ) (a b : List ℕ) : Type 0 where
  pub mid : List ℕ
  pub bits : Bits mid
  pub long : length mid ≡ length a
  pub near_a : distance mid a ≤ s
  pub near_b : distance mid b ≤ t

cons_bits : (b : ℕ) (bs : List ℕ) → b < 2 → Bits bs → Bits (b ∷ bs)
cons_bits b bs h k zero = h
cons_bits b bs h k (suc i) = k i

-- words at most s + t apart have a word between them
pub between : (s t : ℕ) (a b : List ℕ) → Bits a → Bits b → length a ≡ length b → distance a b ≤ s + t → Between s t a b
unfolding distance
between s t [] [] ha hb e h = record { mid = []; bits = ha; long = refl; near_a = omega arith; near_b = omega arith }
between s t [] (b ∷ bs) ha hb e h = absurd (omega arith)
between s t (a ∷ us) [] ha hb e h = absurd (omega arith)
between s t (a ∷ us) (b ∷ bs) ha hb e h =
    go (ℕ_discrete a b) s t h (λ s t. between s t us bs (λ i. ha (suc i)) (λ i. hb (suc i)) (suc_inj e))
  where
    -- the cell of a, or the cell of b, put before a word between the others
    first : {s t s' t' : ℕ} → differs a b + t ≤ t' → s ≤ s' → Between s t us bs → Between s' t' (a ∷ us) (b ∷ bs)
    first h k m = record {
      mid = a ∷ m.mid;
      bits = cons_bits a m.mid (ha 0) m.bits;
      long = ap suc m.long;
      near_a = omega (arith, differs_equal {b = a} {c = a} refl, m.near_a);
      near_b = omega (arith, m.near_b);
    }

    second : {s t s' t' : ℕ} → differs b a + s ≤ s' → t ≤ t' → Between s t us bs → Between s' t' (a ∷ us) (b ∷ bs)
    second h k m = record {
      mid = b ∷ m.mid;
      bits = cons_bits b m.mid (hb 0) m.bits;
      long = ap suc m.long;
      near_a = omega (arith, m.near_a);
      near_b = omega (arith, differs_equal {b = b} {c = b} refl, m.near_b);
    }

    go : Dec (a ≡ b) → (s t : ℕ) → differs a b + distance us bs ≤ s + t
        → ((s t : ℕ) → distance us bs ≤ s + t → Between s t us bs) → Between s t (a ∷ us) (b ∷ bs)
    go (yes p) s t h r =
        let z : differs a b ≡ 0 = differs_equal p in first (omega arith) (omega arith) (r s t (omega arith))
    go (no p) (suc s) t h r =
        let o : differs a b ≡ 1 = differs_other (ha 0) p in
        let q : differs b a ≡ 1 = differs_other (hb 0) (λ e. p (sym e)) in
        second (omega arith) (omega arith) (r s t (omega arith))
    go (no p) zero (suc t) h r =
        let o : differs a b ≡ 1 = differs_other (ha 0) p in first (omega arith) (omega arith) (r 0 t (omega arith))
    go (no p) zero zero h r = absurd (omega (arith, differs_other {b = a} {c = b} (ha 0) p))

-- ---- what the flips do

-- positions below m are below any larger number
pub within_le : {m n : ℕ} (p : Positions) → m ≤ n → Within m p → Within n p
within_le Zero l h = tt
within_le (One i) l h = omega arith
within_le (Two i j) l h = omega arith
within_le Unfit l h = h

-- a word with cells flipped is a word
pub flipped_word : {n : ℕ} {w : List ℕ} (p : Positions) → IsWord n w → IsWord n (flipped p w)
flipped_word Zero l = l
flipped_word (One i) l = flip_word i l
flipped_word (Two i j) l = flip_word i (flip_word j l)
flipped_word Unfit l = l

-- a word differs from itself with cells flipped in just those cells
pub flipped_far : {n : ℕ} (w : List ℕ) (p : Positions) → IsWord n w → Within n p → distance w (flipped p w) ≡ many p
unfolding flip
flipped_far w Zero l h = distance_self w
flipped_far w (One i) l h = distance_flip w w i l.long l h refl ∙ ap suc (distance_self w)
flipped_far w (Two i j) l h =
    distance_flip w (flip j w) i l.long (flip_word j l) (omega arith) (sym (other j i (λ z. omega arith)))
    ∙ ap suc (distance_flip w w j l.long l h.1 refl ∙ ap suc (distance_self w))
  where
    other : (j i : ℕ) → (i ≡ j → ⊥) → cell (flip j w) i ≡ cell w i
    other j i = get_or-set_other w j i (1 - cell w j) 0
flipped_far w Unfit l h = absurd h

-- at most two
pub flipped_near : {n : ℕ} (w : List ℕ) (p : Positions) → IsWord n w → Within n p → distance w (flipped p w) ≤ 2
flipped_near w p l h = rw (flipped_far w p l h) (few p)
  where
    few : (p : Positions) → many p ≤ 2
    few Zero = omega arith
    few (One i) = omega arith
    few (Two i j) = omega arith
    few Unfit = omega arith

-- the positions' sum is added to the word's sum
pub flipped_sum : (f : ℕ → ℕ) {n : ℕ} (w : List ℕ) (p : Positions) → IsWord n w → Within n p
    → sum_over f (flipped p w) ≡ bit_xor (total f p) (sum_over f w)
flipped_sum f w Zero l h = refl
flipped_sum f w (One i) l h = sum_flip f w i l.small (rw l.long h)
flipped_sum f w (Two i j) l h =
    sum_flip f (flip j w) i (flip_word j l).small (rw (flip_word j l).long (omega arith))
    ∙ ap (bit_xor (f i)) (sum_flip f w j l.small (rw l.long h.1))
    ∙ sym (xor_assoc (f i) (f j) (sum_over f w))
flipped_sum f w Unfit l h = refl

-- each position turns the parity
pub flipped_ones : {n : ℕ} (w : List ℕ) (p : Positions) → IsWord n w → Within n p
    → (ones_in (flipped p w) + ones_in w + many p) % 2 ≡ 0
flipped_ones w Zero l h = omega arith
flipped_ones w (One i) l h = omega (arith, ones_flip w i l.small (rw l.long h))
flipped_ones w (Two i j) l h =
    let lj = flip_word j l in
    omega (arith, ones_flip w j l.small (rw l.long h.1), ones_flip (flip j w) i lj.small (rw lj.long (omega arith)))
flipped_ones w Unfit l h = absurd h

-- flips below m are flips of the first m cells
pub take_flipped : (m : ℕ) (w : List ℕ) (p : Positions) → Within m p → take m (flipped p w) ≡ flipped p (take m w)
take_flipped m w Zero h = refl
take_flipped m w (One i) h = take_flip m i w h
take_flipped m w (Two i j) h = take_flip m i (flip j w) (omega arith) ∙ ap (flip i) (take_flip m j w h.1)
take_flipped m w Unfit h = refl
