-- The tests of the calls on arrays: by the degree that a number names, and what those of a taken call say of its input.
-- Assumes nothing.
use mathlib.Core.Path.{◌≡◌, refl, ap, ◌∙◌}
use mathlib.Core.Bool.{Bool, true, false, not, ◌||◌, or-false}
use mathlib.Core.List.{List, [], ◌∷◌}
use Prim.Native.Nat.{ℕ, suc, ◌+◌, ◌-◌, ◌*◌, ◌^◌, ◌<◌, ◌≤◌}
use native.Mathlib.Nat.{mul-le-mul}
use native.Mathlib.Omega.{arith}
use borrow.Author.Tests.{eqb-false, ltb-false, leb-false}
use lib.Dec.{eqb, ltb}
use lib.ListN.{length, take, drop}
use Rattle.degree.specs.declared.Degree.{Degree}
use Rattle.std.specs.Prelude.{Some, Result}
use Rattle.degree.specs.Degree.{bits, size, named}
use Rattle.line.specs.declared.refusals.Refusal.{Refusal}
use Rattle.line.specs.Cells.{cell, IsWord}
use Rattle.line.specs.Encoding.{message_size}
use Rattle.line.specs.Refusals.{refusal, unnamed, misfit, some, at_most}
use Rattle.line.specs.Working.Calls.{Tested}
use Rattle.line.proofs.Bounds.{square_le, size_le}
use Rattle.line.proofs.Refusing.{some_none, fits, cells_small, known_bits, known_size, bits_named, none_applies, tested_known}
use Rattle.array.specs.Arrays.{line}
use Rattle.array.specs.Working.Steps.{IsArray}
use Rattle.array.specs.Refusals.{coding_tests, row_tests, decode_tests}
use Rattle.array.specs.Working.Sizes.{message_cells}
use Rattle.array.proofs.ArrayLaws.{line_room}
use Rattle.array.proofs.WrittenLines.{part_at}

-- ---- k by the degree that a number names

bits_message : (d : Degree) → message_cells (bits d) ≡ message_size d
bits_message d = let e : 2 * bits d ≡ bits d + bits d = omega arith in ap (λ (x : ℕ). 2 ^ bits d - 1 - x) e

pub known_message : (degree : ℕ) (d : Degree) → named degree ≡ Some d → message_cells degree ≡ message_size d
known_message degree d e = ap message_cells (known_bits degree d e) ∙ bits_message d

-- ---- a slice of m by m cells, where m is also n

pub square_misfit : (l : ℕ) {m n : ℕ} → m ≡ n → misfit l (m * m) ≡ misfit l (n * n)
square_misfit l e = ap (λ (x : ℕ). misfit l (x * x)) e

square_fits : (l : ℕ) {m n : ℕ} → m ≡ n → misfit l (m * m) ≡ false → l ≡ n * n
square_fits l {m} e h = fits l (m * m) h ∙ ap (λ (x : ℕ). x * x) e

-- ---- a call with two conditions of the number 3, and a bound on lent cells

module _ (degree : ℕ) (one two : Bool) (bound : ℕ) (lent : List ℕ) where
  abbrev Lent : List (ℕ × Bool)
  Lent = (1, unnamed degree) ∷ (3, some (one ∷ two ∷ [])) ∷ (4, not (at_most bound lent)) ∷ []

  pub lent_known : (d : Degree) (r : Result Degree Refusal) {x y : Bool} → named degree ≡ Some d → x ≡ one → y ≡ two
      → Tested (bits d) ((3, x || y) ∷ (4, not (at_most bound lent)) ∷ []) r → Tested degree Lent r
  lent_known d r {x} {y} e f g h =
      tested_known degree d ((3, x || y) ∷ (4, not (at_most bound lent)) ∷ []) Lent r e (rw (e, f, g, or-false two)) h

  lent_taken : refusal Lent ≡ 0 → (one ≡ false) × (two ≡ false) × ((i : ℕ) → cell lent i < suc bound)
  lent_taken z =
      let n = none_applies Lent tt z in
      let l = some_none (one ∷ two ∷ []) n.1.0 in
      (l.0, l.1.0, cells_small bound lent n.1.1.0)

-- ---- encode and extract

module _ (bound degree : ℕ) (message cells read : List ℕ) (d : Degree) where
  pub coding_taken : (refusal (coding_tests bound degree message cells read) ≡ 0) × (named degree ≡ Some d)
      → (length message ≡ message_size d * message_size d) × (length cells ≡ size d * size d) × ((i : ℕ) → cell read i < suc bound)
  unfolding coding_tests
  coding_taken h =
      let t = lent_taken degree _ _ bound read h.0 in
      (square_fits (length message) (known_message degree d h.1) t.0, square_fits (length cells) (known_size degree d h.1) t.1, t.2)

-- the message of a call to encode that is taken
pub message_bits : (degree : ℕ) (message cells : List ℕ) (d : Degree) → (refusal (coding_tests 1 degree message cells message) ≡ 0) × (named degree ≡ Some d)
    → IsWord (message_size d * message_size d) message
message_bits degree message cells d h = let t = coding_taken 1 degree message cells message d h in record { long = t.0; small = t.2 }

-- ---- the look-up of a row

module _ (degree : ℕ) (cells : List ℕ) (index : ℕ) (d : Degree) where
  pub row_taken : (refusal (row_tests degree cells index []) ≡ 0) × (named degree ≡ Some d) → (length cells ≡ size d * size d) × (index < size d)
  unfolding row_tests
  row_taken h =
      let t = lent_taken degree _ _ 2 cells h.0 in
      let n = known_size degree d h.1 in
      (square_fits (length cells) n t.0, rw n at (leb-false (2 ^ degree) index t.1))

-- ---- the row that a taken look-up gives

-- it lies within the array, and its ends fit
pub row_room : (d : Degree) (index : ℕ) {n : ℕ} → n ≡ size d → index < size d
    → (index * n + n ≤ size d * size d) × (size d * size d ≤ 16384)
row_room d index {n} e h =
    (rw e (line_room (size d) (size d) index h), square_le (size d) (size_le d refl))

pub row_part_lem : (a : List ℕ) (index : ℕ) {n m : ℕ} → n ≡ m → take (index * n + n - index * n) (drop (index * n) a) ≡ line m a index
row_part_lem a index {n} e = part_at (index * n) n a refl ∙ ap (λ (x : ℕ). line x a index) e

-- ---- decode

-- the iterations that are taken
pub few_iterations : (l : ℕ) → (eqb l 0 || ltb 20 l) ≡ false → (1 ≤ l) × (l ≤ 20)
few_iterations l e =
    let h = some_none (eqb l 0 ∷ ltb 20 l ∷ []) (rw (or-false (ltb 20 l)) e) in
    (omega (arith, eqb-false l 0 h.0), omega (arith, ltb-false 20 l h.1.0))

-- the numbers of their filling words fit a number; n is the code's number for `size d`
pub words_room : (d : Degree) (n l : ℕ) → n ≡ size d → l ≤ 20 → 4 * l * n ≤ 10240
words_room d n l e h = mul-le-mul {n₁ = 4 * l} {m₁ = n} {n₂ = 80} {m₂ = 128} (omega arith) (size_le d e)

module _ (d : Degree) (l : ℕ) (r w s : List ℕ) where
  pub decode_iterations : (eqb l 0 || ltb 20 l) ≡ true → 2 ≡ refusal (decode_tests (bits d) l r w s [])
  unfolding decode_tests
  decode_iterations e = rw (bits_named d, e)

  pub decode_lengths : (c : Result Degree Refusal) {n : ℕ} → (eqb l 0 || ltb 20 l) ≡ false → n ≡ size d
      → Tested (bits d) ((3, misfit (length r) (n * n) || (misfit (length w) (4 * l * n) || misfit (length s) (n * n))) ∷ (4, not (at_most 2 r)) ∷ []) c
      → Tested (bits d) (decode_tests (bits d) l r w s []) c
  unfolding decode_tests
  decode_lengths c {n} e f h =
      tested_known (bits d) d ((3, misfit (length r) (n * n) || (misfit (length w) (4 * l * n) || misfit (length s) (n * n))) ∷ (4, not (at_most 2 r)) ∷ [])
      (decode_tests (bits d) l r w s []) c (bits_named d)
      (rw (bits_named d, e, f, or-false (misfit (length s) (size d * size d)))) h

module _ (degree l : ℕ) (r w s : List ℕ) (d : Degree) where
  pub decode_known : (c : Result Degree Refusal) → named degree ≡ Some d → Tested (bits d) (decode_tests (bits d) l r w s []) c → Tested degree (decode_tests degree l r w s []) c
  decode_known c e h = rw (known_bits degree d e) h

  pub decode_takes : (refusal (decode_tests degree l r w s []) ≡ 0) × (named degree ≡ Some d)
      → IsArray d r × (length s ≡ size d * size d) × (length w ≡ 4 * l * size d) × (l ≤ 20) × (1 ≤ l)
  unfolding decode_tests
  decode_takes h =
      let k = 2 ^ degree in
      let e = known_size degree d h.1 in
      let n = none_applies (decode_tests degree l r w s []) tt h.0 in
      let m = some_none (misfit (length r) (k * k) ∷ misfit (length w) (4 * l * k) ∷ misfit (length s) (k * k) ∷ []) n.1.1.0 in
      let i = few_iterations l n.1.0 in (
        record { long = square_fits (length r) e m.0; small = cells_small 2 r n.1.1.1.0 },
        square_fits (length s) e m.1.1.0,
        fits (length w) (4 * l * k) m.1.0 ∙ ap (λ (x : ℕ). 4 * l * x) e,
        i.1,
        i.0,
      )
