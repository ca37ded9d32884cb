-- What a packed word and a packed line tell of a row: the digits of the word are the cells, and a line packs one list only.
-- Assumes nothing.
use mathlib.Core.Path.{◌≡◌, refl, sym, ap, ap₂, ◌∙◌}
use mathlib.Core.List.{List, [], ◌∷◌}
use Prim.Native.Nat.{ℕ, zero, suc, ◌*◌, ◌%◌, ◌≤◌}
use native.Mathlib.Nat.{le_refl, le_of_suc-le-suc, not-suc-le-zero}
use native.Mathlib.Omega.{arith}
use lib.Bits.{bit_or, bit_xor}
use lib.ListN.{length, take}
use lib.Seq.{ext_get_or}
use Rattle.laws.proofs.Bits.{half_bit, low_bit, bit_one, or_first, or_second}
use Rattle.laws.proofs.Xor.{xor_eq}
use Rattle.degree.specs.declared.Degree.{Degree}
use Rattle.field.specs.declared.syndrome.Syndrome.{Syndrome}
use Rattle.degree.specs.Degree.{size, order}
use Rattle.field.specs.Field.{power}
use Rattle.field.proofs.Primitive.{primitive}
use Rattle.laws.specs.Digits.{sum_over, ones_in, digits}
use Rattle.field.specs.Working.Checks.{IsSyndrome}
use Rattle.field.specs.Working.Places.{IsPlace}
use Rattle.field.specs.declared.locate.Place.{Place}
use Rattle.line.specs.declared.packed.Line.{Line}
use Rattle.words.specs.Working.Word.{value, width}
use Rattle.line.specs.Working.Packed.{is_one, pack_by, Packs, PacksWord}
use Rattle.line.proofs.CellLaws.{Bits}
use Rattle.line.proofs.Packing.{cell_of_line, bit_of_word}

-- ---- a word

-- the first digits of a packed word are the first cells
pub packed_digits : (ws : List ℕ) (m k : ℕ) → Bits ws → m ≤ length ws → length ws ≤ k → take m (digits k (pack_by is_one ws)) ≡ take m ws
unfolding digits pack_by
packed_digits ws zero k h l g = refl
packed_digits [] (suc m) k h l g = absurd (not-suc-le-zero l)
packed_digits (w ∷ ws) (suc m) zero h l g = absurd (not-suc-le-zero g)
packed_digits (w ∷ ws) (suc m) (suc k) h l g =
    ap₂ (λ (x : ℕ) (xs : List ℕ). x ∷ xs) (low_bit (pack_by is_one ws) (is_one w) ∙ bit_one (h 0))
    (ap (λ (x : ℕ). take m (digits k x)) (half_bit (pack_by is_one ws) (is_one w)) ∙ packed_digits ws m k (λ i. h (suc i)) (le_of_suc-le-suc l) (le_of_suc-le-suc g))

-- so for a word of n cells
pub word_digits : {n : ℕ} {ws : List ℕ} {w : ℕ} (m : ℕ) → m ≤ n → PacksWord n ws w → take m (digits width w) ≡ take m ws
word_digits {ws} m h p =
    rw p.ones (packed_digits ws m width p.cells.small (rw p.cells.long h) (rw p.cells.long p.room))

-- the check sums of a packed word are those of its cells
pub word_sums : {d : Degree} {ws : List ℕ} {w : ℕ} {s : Syndrome} → PacksWord (size d) ws w → IsSyndrome d (digits width w) s → IsSyndrome d ws s
word_sums {d} p q =
    let front = word_digits (order d) (omega arith) p in
    record {
      s1 = q.s1 ∙ ap (sum_over (λ i. power d i)) front;
      s3 = q.s3 ∙ ap (sum_over (λ i. power d (3 * i))) front;
      parity = q.parity ∙ ap (λ (l : List ℕ). ones_in l % 2) (word_digits (size d) (le_refl (size d)) p);
    }

-- and so is its place
pub word_place : {d : Degree} {ws : List ℕ} {w : ℕ} {r : Place} → PacksWord (size d) ws w → IsPlace d (digits width w) r → IsPlace d ws r
word_place {d} p q =
    let front = word_digits (order d) (omega arith) p in
    record {
      parity = q.parity ∙ ap (λ (l : List ℕ). ones_in l % 2) (word_digits (size d) (le_refl (size d)) p);
      fits = q.fits ∙ rw front;
    }

-- a packed word says what its cells are
pub word_packs_one : {n : ℕ} {cs ds : List ℕ} {v w : ℕ} → v ≡ w → PacksWord n cs v → PacksWord n ds w → cs ≡ ds
word_packs_one {cs} {ds} e p q =
    ext_get_or 0 cs ds (p.cells.long ∙ sym q.cells.long) (λ k h. sym (bit_of_word k p) ∙ rw e (bit_of_word k q))

-- ---- n

-- a line has room in a word
pub size_room : (d : Degree) → size d ≤ width
size_room d = (primitive d).room

-- a line is made of whole parts of eight cells
pub size_eights : (d : Degree) → size d % 8 ≡ 0
size_eights d = omega (arith, (primitive d).bytes)

-- ---- a line

-- a packed line says what its cells are
pub packs_one : {n : ℕ} {cs ds : List ℕ} {l : Line} → Packs n cs l → Packs n ds l → cs ≡ ds
packs_one {cs} {ds} p q =
    ext_get_or 0 cs ds (p.cells.long ∙ sym q.cells.long) (λ k h. sym (cell_of_line k p) ∙ cell_of_line k q)

-- two lines with no differing cell pack the same list
pub none_differing : {n : ℕ} {cs ds : List ℕ} {a b : Line} {r : ℕ} → r ≡ bit_or (bit_xor (value a.ones) (value b.ones)) (bit_xor (value a.erased) (value b.erased)) → r ≡ 0
    → Packs n cs a → Packs n ds b → cs ≡ ds
none_differing {a} {b} e z p q =
    let none = sym e ∙ z in
    let x = bit_xor (value a.ones) (value b.ones) in
    let y = bit_xor (value a.erased) (value b.erased) in
    packs_one p
    (record { room = q.room; cells = q.cells; ones = xor_eq (or_first x y none) ∙ q.ones; erased = xor_eq (or_second x y none) ∙ q.erased })
