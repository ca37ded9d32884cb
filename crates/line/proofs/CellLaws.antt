-- Cells, filled words and distances.
-- Assumes nothing.
use mathlib.Core.Path.{◌≡◌, refl, sym, ap, ◌∙◌}
use mathlib.Core.Bool.{Bool, true, false, cond}
use mathlib.Core.Logic.{◌≢◌, ◌⊎◌, inl, inr}
use mathlib.Core.List.{List, [], ◌∷◌}
use Prim.Native.Nat.{ℕ, zero, suc, ◌+◌, ◌-◌, ◌*◌, ◌/◌, ◌<◌, ◌≤◌}
use native.Mathlib.Nat.{mod-lt, zero-lt-suc, le_of_suc-le-suc, not-suc-le-zero, suc_inj}
use native.Mathlib.Omega.{arith}
use lib.Dec.{eqb}
use lib.ListN.{length, set, take, drop, length-set}
use Rattle.laws.specs.Sums.{sum_to}
use Rattle.laws.proofs.Sums.{sum_first}
use borrow.Author.Tests.{eqb-true, eqb-false, eq-eqb, ne_eqb}
use Rattle.line.specs.declared.side.Side.{Side}
use Rattle.line.specs.declared.side.Side.TheVariants.{One, Two}
use Rattle.line.specs.Cells.{cell, Cells, IsWord, is_erased, bit, erasures, distance, filling_bit, filled, flip}
use Rattle.line.specs.Working.OneCell.{differs, filled_cell}
use Rattle.line.specs.Working.Packed.{IsLine}

-- all cells are 0 or 1
abbrev pub Bits : List ℕ → Type 0
Bits l = (i : ℕ) → cell l i < 2

-- a word is a line
pub word_line : {n : ℕ} {w : List ℕ} → IsWord n w → IsLine n w
word_line l = record { long = l.long; small = λ i. omega (arith, l.small i) }

-- ---- one cell

-- equal cells do not differ
pub differs_equal : {b c : ℕ} → b ≡ c → differs b c ≡ 0
differs_equal {b} {c} e = rw (eq-eqb b c e) (go (is_erased b))
  where
    go : (x : Bool) → ◌≡◌ {A = ℕ} (cond x 0 0) 0
    go true = refl
    go false = refl

-- a bit differs from every other cell
pub differs_other : {b c : ℕ} → b < 2 → b ≢ c → differs b c ≡ 1
differs_other {b} {c} h n = rw (ne_eqb b 2 (omega arith), ne_eqb b c n)

-- twice for a wrong cell, once for an erased one, is at most 2
pub differs_le : (b c : ℕ) → 2 * differs b c + bit (is_erased b) ≤ 2
differs_le b c = go (is_erased b) (eqb b c)
  where
    go : (p q : Bool) → 2 * cond p 0 (cond q 0 1) + cond p 1 0 ≤ 2
    go true q = omega arith
    go false true = omega arith
    go false false = omega arith

-- an erased cell counts as one erasure, a known one as none
pub erased_or_known : (c : ℕ) → ((c ≡ 2) × (bit (is_erased c) ≡ 1)) ⊎ ((c ≢ 2) × (bit (is_erased c) ≡ 0))
erased_or_known c = go (is_erased c) refl
  where
    go : (x : Bool) → is_erased c ≡ x → ((c ≡ 2) × (bit (is_erased c) ≡ 1)) ⊎ ((c ≢ 2) × (bit (is_erased c) ≡ 0))
    go true e = inl (eqb-true c 2 e, rw e)
    go false e = inr (eqb-false c 2 e, rw e)

-- the bit of a filling word is a bit, on either side
pub filling_bit_lt : (s : Side) (f : ℕ) → filling_bit s f < 2
filling_bit_lt One f = mod-lt f (zero-lt-suc 1)
filling_bit_lt Two f = omega arith

-- a known cell stays as it is
pub filled_known : {c : ℕ} (b : ℕ) → c ≢ 2 → filled_cell c b ≡ c
filled_known {c} b n = rw (ne_eqb c 2 n)

-- an erased cell takes the bit
pub filled_erased : {c : ℕ} (b : ℕ) → c ≡ 2 → filled_cell c b ≡ b
filled_erased {c} b e = rw (eq-eqb c 2 e)

-- a filled cell is a bit
pub filled_lt : (c b : ℕ) → c < 3 → b < 2 → filled_cell c b < 2
filled_lt c b h l = go (is_erased c) refl
  where
    go : (x : Bool) → is_erased c ≡ x → cond x b c < 2
    go true e = l
    go false e = omega (arith, eqb-false c 2 e)

-- ---- filled words

-- what is left of a filling word at cell k
abbrev pub bits_from : ℕ → ℕ → ℕ
bits_from zero f = f
bits_from (suc k) f = bits_from k (f / 2)

-- a filled word is as long as its line
pub filled_length : (s : Side) (y : List ℕ) (f : ℕ) → length (filled s y f) ≡ length y
unfolding filled
filled_length s [] f = refl
filled_length s (c ∷ cs) f = ap suc (filled_length s cs (f / 2))

-- cell k of a filled word
pub filled_cell_lem : (s : Side) (y : List ℕ) (f k : ℕ) → k < length y
    → cell (filled s y f) k ≡ filled_cell (cell y k) (filling_bit s (bits_from k f))
unfolding filled
filled_cell_lem s [] f k h = absurd (not-suc-le-zero h)
filled_cell_lem s (c ∷ cs) f zero h = refl
filled_cell_lem s (c ∷ cs) f (suc k) h = filled_cell_lem s cs (f / 2) k (le_of_suc-le-suc h)

-- to replace a cell and fill is to fill and replace the cell
pub filled_set : (s : Side) (y : List ℕ) (f k x : ℕ)
    → filled s (set y k x) f ≡ set (filled s y f) k (filled_cell x (filling_bit s (bits_from k f)))
unfolding filled
filled_set s [] f k x = refl
filled_set s (c ∷ cs) f zero x = refl
filled_set s (c ∷ cs) f (suc k) x = rw (filled_set s cs (f / 2) k x)

filled_bits : (s : Side) (y : List ℕ) (f : ℕ) → ((i : ℕ) → cell y i < 3) → Bits (filled s y f)
unfolding filled
filled_bits s [] f h i = omega arith
filled_bits s (c ∷ cs) f h zero = filled_lt c (filling_bit s f) (h 0) (filling_bit_lt s f)
filled_bits s (c ∷ cs) f h (suc i) = filled_bits s cs (f / 2) (λ j. h (suc j)) i

-- a filled line is a word
pub filled_word : (s : Side) {n : ℕ} {y : List ℕ} (f : ℕ) → IsLine n y → IsWord n (filled s y f)
filled_word s {y} f l = record { long = filled_length s y f ∙ l.long; small = filled_bits s y f l.small }

-- ---- one cell of a list replaced

-- a list with a cell replaced keeps its length and its bound
pub set_cells : {b n : ℕ} {l : List ℕ} (k x : ℕ) → x < b → Cells b n l → Cells b n (set l k x)
set_cells {b} {l} k x h c = record { long = length-set l k x ∙ c.long; small = λ i. go l k i c.small }
  where
    go : (l : List ℕ) (k i : ℕ) → ((i : ℕ) → cell l i < b) → cell (set l k x) i < b
    go [] k i s = s i
    go (c ∷ cs) zero zero s = h
    go (c ∷ cs) zero (suc i) s = s (suc i)
    go (c ∷ cs) (suc k) zero s = s zero
    go (c ∷ cs) (suc k) (suc i) s = go cs k i (λ j. s (suc j))

-- how a replaced cell changes the number of erasures
pub erasures_set : (y : List ℕ) (k x : ℕ) → k < length y
    → erasures (set y k x) + bit (is_erased (cell y k)) ≡ erasures y + bit (is_erased x)
unfolding erasures
erasures_set [] k x h = absurd (not-suc-le-zero h)
erasures_set (c ∷ cs) zero x h = omega arith
erasures_set (c ∷ cs) (suc k) x h = omega (arith, erasures_set cs k x (le_of_suc-le-suc h))

-- how a replaced cell changes a distance
pub distance_set : (l w : List ℕ) (k x : ℕ) → k < length l → k < length w
    → distance (set l k x) w + differs (cell l k) (cell w k) ≡ distance l w + differs x (cell w k)
unfolding distance
distance_set [] w k x h g = absurd (not-suc-le-zero h)
distance_set (c ∷ cs) [] k x h g = absurd (not-suc-le-zero g)
distance_set (c ∷ cs) (w ∷ ws) zero x h g = omega arith
distance_set (c ∷ cs) (w ∷ ws) (suc k) x h g =
    omega (arith, distance_set cs ws k x (le_of_suc-le-suc h) (le_of_suc-le-suc g))

-- a word with a cell flipped is a word
pub flip_word : {n : ℕ} {w : List ℕ} (i : ℕ) → IsWord n w → IsWord n (flip i w)
unfolding flip
flip_word {w} i l = set_cells i (1 - cell w i) (omega arith) l

-- ---- distances

-- the first cells of a word are bits
pub take_bits : (m : ℕ) (l : List ℕ) → Bits l → Bits (take m l)
take_bits zero l h i = omega arith
take_bits (suc m) [] h i = h i
take_bits (suc m) (c ∷ cs) h zero = h 0
take_bits (suc m) (c ∷ cs) h (suc i) = take_bits m cs (λ j. h (suc j)) i

-- a word has no erasures
pub word_known : (w : List ℕ) → Bits w → erasures w ≡ 0
unfolding erasures
word_known [] h = refl
word_known (b ∷ bs) h = rw (ne_eqb b 2 (omega (arith, h 0))) (omega (arith, word_known bs (λ i. h (suc i))))

-- a list is at distance 0 from itself
pub distance_self : (w : List ℕ) → distance w w ≡ 0
unfolding distance
distance_self [] = refl
distance_self (b ∷ bs) = omega (arith, differs_equal {b = b} {c = b} refl, distance_self bs)

distance_nil : (c : List ℕ) → distance c [] ≡ 0
unfolding distance
distance_nil [] = refl
distance_nil (c ∷ cs) = refl

-- the distance of two lists is that of their first m cells and that of the others
pub distance_parts : (m : ℕ) (c e : List ℕ)
    → distance c e ≡ distance (take m c) (take m e) + distance (drop m c) (drop m e)
unfolding distance
distance_parts zero c e = omega arith
distance_parts (suc m) [] e = refl
distance_parts (suc m) (c ∷ cs) [] = omega (arith, distance_nil (drop m cs))
distance_parts (suc m) (c ∷ cs) (e ∷ es) = omega (arith, distance_parts m cs es)

-- at most every cell differs
pub distance_length : (c e : List ℕ) → distance c e ≤ length c
unfolding distance
distance_length [] e = omega arith
distance_length (c ∷ cs) [] = omega arith
distance_length (c ∷ cs) (e ∷ es) = omega (arith, distance_length cs es, differs_le c e)

-- a flip where two words have the same cell takes them one further apart
pub distance_flip : {n : ℕ} (c w : List ℕ) (i : ℕ) → length c ≡ n → IsWord n w → i < n → cell c i ≡ cell w i
    → distance c (flip i w) ≡ suc (distance c w)
unfolding distance flip
distance_flip c w i e l h = go c w i (rw e l.long) l.small (rw l.long h)
  where
    go : (c w : List ℕ) (i : ℕ) → length w ≡ length c → Bits w → i < length w → cell c i ≡ cell w i
        → distance c (set w i (1 - cell w i)) ≡ suc (distance c w)
    go c [] i e s h q = absurd (not-suc-le-zero h)
    go [] (b ∷ bs) i e s h q = absurd (omega arith)
    go (c ∷ cs) (b ∷ bs) zero e s h q =
        let k = s 0 in
        omega (arith, differs_equal {b = c} {c = b} q, differs_other {b = c} {c = 1 - b} (omega arith) (λ z. omega arith))
    go (c ∷ cs) (b ∷ bs) (suc i) e s h q = omega (arith, go cs bs i (suc_inj e) (λ i. s (suc i)) (le_of_suc-le-suc h) q)

cell_triangle : (y c e : ℕ) → differs c e ≤ differs y c + differs y e + bit (is_erased y)
cell_triangle y c e = go (is_erased y) (eqb y c) refl (eqb y e) refl
  where
    go : (p a : Bool) → eqb y c ≡ a → (b : Bool) → eqb y e ≡ b
        → differs c e ≤ cond p 0 (cond a 0 1) + cond p 0 (cond b 0 1) + cond p 1 0
    go true a ea b eb = omega (arith, differs_le c e)
    go false true ea true eb =
        omega (arith, differs_equal {b = c} {c = e} (sym (eqb-true y c ea) ∙ eqb-true y e eb))
    go false true ea false eb = omega (arith, differs_le c e)
    go false false ea true eb = omega (arith, differs_le c e)
    go false false ea false eb = omega (arith, differs_le c e)

-- two words are no further apart than by way of a line, its erasures counted
pub triangle : (y c e : List ℕ) → length c ≡ length y → length e ≡ length y
    → distance c e ≤ distance y c + distance y e + erasures y
unfolding distance erasures
triangle [] [] e p q = omega arith
triangle [] (c ∷ cs) e p q = absurd (omega arith)
triangle (y ∷ ys) [] e p q = absurd (omega arith)
triangle (y ∷ ys) (c ∷ cs) [] p q = absurd (omega arith)
triangle (y ∷ ys) (c ∷ cs) (e ∷ es) p q =
    omega (arith, triangle ys cs es (suc_inj p) (suc_inj q), cell_triangle y c e)

-- ---- distances and erasures, cell by cell

pub distance_sum : (r s : List ℕ) → length r ≡ length s → distance r s ≡ sum_to (λ k. differs (cell r k) (cell s k)) (length r)
unfolding distance sum_to
distance_sum [] [] e = refl
distance_sum [] (x ∷ s) e = absurd (omega arith)
distance_sum (c ∷ r) [] e = absurd (omega arith)
distance_sum (c ∷ r) (x ∷ s) e = omega (arith, distance_sum r s (suc_inj e), sum_first (λ k. differs (cell (c ∷ r) k) (cell (x ∷ s) k)) (length r))

pub erasures_sum : (r : List ℕ) → erasures r ≡ sum_to (λ k. bit (is_erased (cell r k))) (length r)
unfolding erasures sum_to
erasures_sum [] = refl
erasures_sum (c ∷ r) = omega (arith, erasures_sum r, sum_first (λ k. bit (is_erased (cell (c ∷ r) k))) (length r))
