-- Packed lines: what the functions on them lean on.
-- Assumes nothing.
use mathlib.Core.Path.{◌≡◌, refl, sym, ap, ap₂, ◌∙◌}
use mathlib.Core.Bool.{Bool, true, false, cond}
use mathlib.Core.List.{List, [], ◌∷◌}
use Prim.Native.Nat.{ℕ, zero, suc, ◌+◌, ◌-◌, ◌*◌, ◌/◌, ◌%◌, ◌^◌, ◌<◌, ◌≤◌}
use native.Mathlib.Nat.{zero-mul}
use native.Mathlib.Omega.{arith}
use lib.Bits.{bit_and, bit_or, bit_xor, xor_self, xor_zero_r, and_zero_l, or_zero_r, and_le_l}
use lib.Count.{ones}
use lib.Dec.{eqb}
use lib.ListN.{length, set}
use Rattle.laws.specs.Bits.{bit}
use Rattle.laws.specs.Working.Bits.{xorb}
use Rattle.laws.proofs.Xor.{bit_ind, xors}
use Rattle.laws.proofs.Bits.{bit_one, xor_bit, low_bit, half_bit}
use Rattle.words.specs.Working.Pairs.{bits_of, pairs_of}
use Rattle.line.specs.declared.side.Side.{Side}
use Rattle.line.specs.declared.side.Side.TheVariants.{One, Two}
use Rattle.words.specs.declared.word.Word.{Word}
use Rattle.line.specs.declared.packed.Line.{Line}
use Rattle.words.specs.Working.Word.{value, width}
use Rattle.line.specs.Cells.{cell, is_erased, erasures, distance, filled, flip}
use Rattle.line.specs.Working.Packed.{is_one, pack_by, Packs, PacksWord}
use Rattle.line.proofs.CellLaws.{set_cells, filled_word}
use Rattle.line.proofs.PackBits.{Small, pack_by_lt, pack_by_bit, pack_by_set, cell_ind, cell_of_lem, filled_first, filled_second, no_erased, ones_erased, ones_differing}

-- the bits of a packed line at cell k
pub one_at : {n : ℕ} {cs : List ℕ} {l : Line} (k : ℕ) → Packs n cs l → value l.ones / 2 ^ k % 2 ≡ bit (is_one (cell cs k))
one_at {cs} k p = rw p.ones (pack_by_bit is_one refl cs k)

pub erased_at : {n : ℕ} {cs : List ℕ} {l : Line} (k : ℕ) → Packs n cs l → value l.erased / 2 ^ k % 2 ≡ bit (is_erased (cell cs k))
erased_at {cs} k p = rw p.erased (pack_by_bit is_erased refl cs k)

-- where its erased bit is not set, a cell is known
pub known_at : {n : ℕ} {cs : List ℕ} {l : Line} (k : ℕ) → Packs n cs l → value l.erased / 2 ^ k % 2 ≡ 0 → is_erased (cell cs k) ≡ false
known_at {cs} k p z = go (is_erased (cell cs k)) (sym (erased_at k p) ∙ z)
  where
    go : (t : Bool) → bit t ≡ 0 → t ≡ false
    go true e = absurd (omega arith)
    go false e = refl

-- cell k of a packed line
pub cell_of_line : {n : ℕ} {cs : List ℕ} {l : Line} (k : ℕ) → Packs n cs l → value l.ones / 2 ^ k % 2 + 2 * (value l.erased / 2 ^ k % 2) ≡ cell cs k
cell_of_line k p = rw (one_at k p, erased_at k p) (cell_of_lem (p.cells.small k))

-- cell k of a packed word
pub bit_of_word : {n : ℕ} {ws : List ℕ} {w : ℕ} (k : ℕ) → PacksWord n ws w → w / 2 ^ k % 2 ≡ cell ws k
bit_of_word {ws} k p = rw (p.ones, pack_by_bit is_one refl ws k) (bit_one (p.cells.small k))

put_by : (p : ℕ → Bool) → p 0 ≡ false → (cs : List ℕ) (w k c x : ℕ) → w ≡ pack_by p cs → k < length cs → x ≡ bit (p c)
    → bit_xor w (bit_xor (w / 2 ^ k % 2) x * 2 ^ k) ≡ pack_by p (set cs k c)
put_by p z cs w k c x e h g = rw (e, g, pack_by_bit p z cs k, xor_bit (p (cell cs k)) (p c)) (pack_by_set p cs k c h)

-- a cell put in a packed line
pub put_cell : {n : ℕ} {cs : List ℕ} {l : Line} (k c : ℕ) → Packs n cs l → k < n → c < 3
    → {o e : Word} → value o ≡ bit_xor (value l.ones) (bit_xor (value l.ones / 2 ^ k % 2) (c % 2) * 2 ^ k)
    → value e ≡ bit_xor (value l.erased) (bit_xor (value l.erased / 2 ^ k % 2) (c / 2 % 2) * 2 ^ k)
    → Packs n (set cs k c) (record { ones = o; erased = e })
put_cell {cs} {l} k c p h g eo ee =
    let m : k < length cs = rw p.cells.long h in record {
      room = p.room;
      cells = set_cells k c g p.cells;
      ones = eo ∙ put_by is_one refl cs (value l.ones) k c (c % 2) p.ones m (cell_ind (λ (c : ℕ). c % 2 ≡ bit (is_one c)) refl refl refl g);
      erased = ee ∙ put_by is_erased refl cs (value l.erased) k c (c / 2 % 2) p.erased m (cell_ind (λ (c : ℕ). c / 2 % 2 ≡ bit (is_erased c)) refl refl refl g);
    }

pub filled_one : {n : ℕ} {cs : List ℕ} {l : Line} (f : ℕ) → Packs n cs l → PacksWord n (filled One cs f) (bit_or (value l.ones) (bit_and (value l.erased) f))
filled_one {cs} f p = record { room = p.room; cells = filled_word One f p.cells; ones = rw (p.ones, p.erased) (filled_first cs f p.cells.small) }

pub filled_two : {n : ℕ} {cs : List ℕ} {l : Line} (f : ℕ) → Packs n cs l → PacksWord n (filled Two cs f) (bit_xor (bit_or (value l.ones) (bit_and (value l.erased) f)) (value l.erased))
filled_two {cs} f p =
    record { room = p.room; cells = filled_word Two f p.cells; ones = rw (p.ones, p.erased, filled_first cs f p.cells.small) (filled_second cs f p.cells.small) }

-- the words of a line of n cells are below 2^n
pub ones_lt : {n : ℕ} {cs : List ℕ} {l : Line} → Packs n cs l → value l.ones < 2 ^ n
ones_lt {n} {cs} p = rw (p.ones, ← p.cells.long) (pack_by_lt is_one cs)

pub erased_lt : {n : ℕ} {cs : List ℕ} {l : Line} → Packs n cs l → value l.erased < 2 ^ n
erased_lt {n} {cs} p = rw (p.erased, ← p.cells.long) (pack_by_lt is_erased cs)

-- a word that packs cells by another name
pub packed_as : {n : ℕ} {ws : List ℕ} {v w : ℕ} → v ≡ w → PacksWord n ws w → PacksWord n ws v
packed_as e p = record { room = p.room; cells = p.cells; ones = e ∙ p.ones }

-- without erasures both filled words are the line's own
pub filled_none : {n : ℕ} {cs : List ℕ} {l : Line} (f : ℕ) → Packs n cs l → value l.erased ≡ 0 → (s : Side) → PacksWord n (filled s cs f) (value l.ones)
filled_none {n} {cs} {l} f p z s = elim s as (λ (s : Side). PacksWord n (filled s cs f) (value l.ones)) [ One ↦ packed_as (sym one) (filled_one f p) | Two ↦ packed_as (sym two) (filled_two f p) ]
  where
    one : bit_or (value l.ones) (bit_and (value l.erased) f) ≡ value l.ones
    one = ap (λ (e : ℕ). bit_or (value l.ones) (bit_and e f)) z ∙ ap (bit_or (value l.ones)) (and_zero_l f) ∙ or_zero_r (value l.ones)

    two : bit_xor (bit_or (value l.ones) (bit_and (value l.erased) f)) (value l.erased) ≡ value l.ones
    two = ap₂ bit_xor one z ∙ xor_zero_r (value l.ones)

-- a word is a line with no erasure
pub as_line : {n : ℕ} {ws : List ℕ} {w none : Word} → value none ≡ 0 → PacksWord n ws (value w) → Packs n ws (record { ones = w; erased = none })
as_line {ws} z p =
    record {
      room = p.room;
      cells = record { long = p.cells.long; small = λ i. let h : cell ws i < 2 = p.cells.small i in omega arith };
      ones = p.ones;
      erased = z ∙ sym (no_erased ws p.cells.small);
    }

pub erasures_of : {n : ℕ} {cs : List ℕ} {l : Line} → Packs n cs l → ones (value l.erased) ≡ erasures cs
erasures_of {cs} p = rw p.erased (ones_erased cs)

-- the ones of an xor under the known mask
pub differences_of : {n : ℕ} {cs ws : List ℕ} {l : Line} {w : ℕ} → Packs n cs l → PacksWord n ws w
    → ones (bit_and (bit_xor w (value l.ones)) (2 ^ width - 1 - value l.erased)) ≡ distance cs ws
differences_of {cs} {ws} p q =
    rw (p.ones, p.erased, q.ones) (ones_differing width cs ws (q.cells.long ∙ sym p.cells.long) (rw p.cells.long p.room) p.cells.small q.cells.small)

-- a line whose erased word is 0 has no erasure
pub no_erasures : {n : ℕ} {cs : List ℕ} {l : Line} → Packs n cs l → value l.erased ≡ 0 → 0 ≡ erasures cs
unfolding ones
no_erasures p e = rw e at (erasures_of p)

-- a line that holds the ones of a word differs from it in no known cell
pub no_differences : {n : ℕ} {cs ws : List ℕ} {l : Line} {w : ℕ} → Packs n cs l → PacksWord n ws w → w ≡ value l.ones → 0 ≡ distance cs ws
unfolding ones
no_differences {l} {w} p q e =
    let known = 2 ^ width - 1 - value l.erased in
    let none : bit_xor w (value l.ones) ≡ 0 = rw (← e) (xor_self w) in
    let left : bit_and 0 known ≡ 0 = omega (arith, and_le_l 0 known) in
    let zero : ones (bit_and (bit_xor w (value l.ones)) known) ≡ 0 = rw (none, left) refl in
    sym zero ∙ differences_of p q

-- a cell of a packed word flipped, where x is 1
pub flip_packed : {n : ℕ} {ws : List ℕ} {v w x : ℕ} (k : ℕ) → x < 2 → v ≡ bit_xor w (x * 2 ^ k) → PacksWord n ws w → (x ≡ 1 → k < n)
    → PacksWord n (cond (eqb x 1) (flip k ws) ws) v
unfolding flip
flip_packed {n} {ws} {v} {w} {x} k b e p h = go x b e h
  where
    go : (x : ℕ) → x < 2 → v ≡ bit_xor w (x * 2 ^ k) → (x ≡ 1 → k < n) → PacksWord n (cond (eqb x 1) (flip k ws) ws) v
    go zero b e h = packed_as (e ∙ ap (bit_xor w) (zero-mul (2 ^ k)) ∙ xor_zero_r w) p
    go (suc zero) b e h =
        let m : k < length ws = rw p.cells.long (h refl) in
        let turned : xorb (is_one (cell ws k)) (is_one (1 - cell ws k)) ≡ true =
        bit_ind (λ (c : ℕ). xorb (is_one c) (is_one (1 - c)) ≡ true) refl refl (p.cells.small k) in
        record {
          room = p.room;
          cells = set_cells k (1 - cell ws k) (omega arith) p.cells;
          ones = e ∙ ap₂ bit_xor p.ones (ap (λ (b : Bool). bit b * 2 ^ k) (sym turned)) ∙ pack_by_set is_one ws k (1 - cell ws k) m;
        }
    go (suc (suc x)) b e h = absurd (omega arith)

-- three cells flipped, each where its bit is 1, by flips that are joined first
pub flips_packed : {n : ℕ} {ws : List ℕ} {v w x y z : ℕ} (i j k : ℕ) → x < 2 → y < 2 → z < 2
    → v ≡ bit_xor w (bit_xor (x * 2 ^ i) (bit_xor (y * 2 ^ j) (z * 2 ^ k))) → PacksWord n ws w → (z ≡ 1 → k < n) → (y ≡ 1 → j < n) → (x ≡ 1 → i < n)
    → PacksWord n (cond (eqb x 1) (flip i (cond (eqb y 1) (flip j (cond (eqb z 1) (flip k ws) ws)) (cond (eqb z 1) (flip k ws) ws))) (cond (eqb y 1) (flip j (cond (eqb z 1) (flip k ws) ws)) (cond (eqb z 1) (flip k ws) ws))) v
flips_packed {w} {x} {y} {z} i j k hx hy hz e p pz py px =
    let a = x * 2 ^ i in
    let b = y * 2 ^ j in
    let c = z * 2 ^ k in
    let one_by_one : bit_xor w (bit_xor a (bit_xor b c)) ≡ bit_xor (bit_xor (bit_xor w c) b) a = simp xors in
    flip_packed i hx (e ∙ one_by_one) (flip_packed j hy refl (flip_packed k hz refl p pz) py) px

-- ---- cells in bytes

-- bit j of a cell is what p tells of it
bits_packed : (j : ℕ) (p : ℕ → Bool) → ((c : ℕ) → c < 3 → c / 2 ^ j % 2 ≡ bit (p c)) → (cs : List ℕ) → Small 3 cs → bits_of j cs ≡ pack_by p cs
unfolding bits_of pack_by
bits_packed j p e [] s = refl
bits_packed j p e (c ∷ cs) s = rw (e c (s 0), bits_packed j p e cs (λ i. s (suc i)))

-- the words of the two lowest bits of cells pack them
pub pack_pair : (cs : List ℕ) → length cs ≤ width → Small 3 cs → {o e : Word} → value o ≡ bits_of 0 cs → value e ≡ bits_of 1 cs
    → Packs (length cs) cs (record { ones = o; erased = e })
pack_pair cs room s eo ee = record {
  room = room;
  cells = record { long = refl; small = s };
  ones = eo ∙ bits_packed 0 is_one (λ c h. cell_ind (λ (c : ℕ). c / 2 ^ 0 % 2 ≡ bit (is_one c)) refl refl refl h) cs s;
  erased = ee ∙ bits_packed 1 is_erased (λ c h. cell_ind (λ (c : ℕ). c / 2 ^ 1 % 2 ≡ bit (is_erased c)) refl refl refl h) cs s;
}

pairs_packed : (cs : List ℕ) → Small 3 cs → pairs_of (length cs) (pack_by is_one cs) (pack_by is_erased cs) ≡ cs
unfolding pairs_of pack_by
pairs_packed [] s = refl
pairs_packed (c ∷ cs) s =
    rw (low_bit (pack_by is_one cs) (is_one c), low_bit (pack_by is_erased cs) (is_erased c), half_bit (pack_by is_one cs) (is_one c), half_bit (pack_by is_erased cs) (is_erased c), cell_of_lem (s 0))
    (ap {B = List ℕ} (λ r. c ∷ r) (pairs_packed cs (λ i. s (suc i))))

-- the cells that two words say are those that they pack
pub unpack_pair : {n : ℕ} {cs : List ℕ} {l : Line} → Packs n cs l → pairs_of n (value l.ones) (value l.erased) ≡ cs
unpack_pair {cs} p = rw (p.ones, p.erased, ← p.cells.long) (pairs_packed cs p.cells.small)
