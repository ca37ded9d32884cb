-- Packed lists of cells: the word that packs a list, bit by bit, and what the word operations on packed lines give.
-- Assumes nothing.
use mathlib.Core.Path.{◌≡◌, refl, sym, ap, ap₂, ◌∙◌}
use mathlib.Core.Bool.{Bool, true, false, ◌&&◌, ◌||◌, not}
use mathlib.Core.List.{List, [], ◌∷◌}
use Prim.Native.Nat.{ℕ, zero, suc, ◌+◌, ◌-◌, ◌*◌, ◌/◌, ◌%◌, ◌^◌, ◌≤◌, ◌<◌}
use native.Mathlib.Nat.{pow-suc, mod-lt, suc_inj, zero-lt-suc, zero-div, div-one, mul_assoc, le_of_suc-le-suc, not-suc-le-zero, mul-one, zero-add, add-zero, lt_of_lt_of_le}
use native.Mathlib.Omega.{arith}
use lib.Bits.{bit_and, bit_or, bit_xor, xor_zero_r}
use lib.Count.{ones}
use lib.ListN.{length, set}
use lib.Pow.{pow_mono}
use Rattle.laws.specs.Bits.{bit}
use Rattle.laws.specs.Working.Bits.{xorb}
use Rattle.laws.proofs.Xor.{bit_ind}
use Rattle.laws.proofs.Bits.{half_bit, low_bit, bit_lt, split_low, and_bits, or_bits, xor_bits, not_bits, ones_bits, shift_more}
use Rattle.line.specs.declared.side.Side.TheVariants.{One, Two}
use Rattle.line.specs.Cells.{cell, is_erased, erasures, distance, filled}
use Rattle.line.specs.Working.OneCell.{differs, filled_cell}
use Rattle.line.specs.Working.Packed.{is_one, pack_by}

-- ---- the word that packs a list

module _ (p : ℕ → Bool) where
  pub pack_by_lt : (xs : List ℕ) → pack_by p xs < 2 ^ length xs
  unfolding pack_by
  pack_by_lt [] = omega arith
  pack_by_lt (x ∷ xs) = rw (pow-suc 2 (length xs)) (omega (arith, pack_by_lt xs, bit_lt (p x)))

  -- bit k, past the end too, by a test that 0 fails
  pub pack_by_bit : p 0 ≡ false → (xs : List ℕ) (k : ℕ) → pack_by p xs / 2 ^ k % 2 ≡ bit (p (cell xs k))
  unfolding pack_by
  pack_by_bit e [] k = rw (zero-div, e)
  pack_by_bit e (x ∷ xs) zero = rw div-one (low_bit (pack_by p xs) (p x))
  pack_by_bit e (x ∷ xs) (suc k) = rw (shift_more, half_bit (pack_by p xs) (p x)) (pack_by_bit e xs k)

  -- cell k made c
  pub pack_by_set : (xs : List ℕ) (k c : ℕ) → k < length xs
      → bit_xor (pack_by p xs) (bit (xorb (p (cell xs k)) (p c)) * 2 ^ k) ≡ pack_by p (set xs k c)
  unfolding pack_by
  pack_by_set [] k c h = absurd (not-suc-le-zero h)
  pack_by_set (x ∷ xs) zero c h =
      ap (bit_xor (pack_by p xs * 2 + bit (p x))) (mul-one (bit (xorb (p x) (p c))) ∙ sym (zero-add (bit (xorb (p x) (p c)))))
      ∙ xor_bits (pack_by p xs) 0 (p x) (xorb (p x) (p c)) ∙ ap₂ (λ (a : ℕ) (b : Bool). a * 2 + bit b) (xor_zero_r (pack_by p xs)) (twice (p x) (p c))
    where
      twice : (a b : Bool) → xorb a (xorb a b) ≡ b
      twice true true = refl
      twice true false = refl
      twice false b = refl
  pack_by_set (x ∷ xs) (suc k) c h =
      let d : Bool = xorb (p (cell xs k)) (p c) in
      ap (bit_xor (pack_by p xs * 2 + bit (p x))) (ap (λ (q : ℕ). bit d * q) (pow-suc 2 k) ∙ sym (mul_assoc (bit d) (2 ^ k) 2) ∙ sym (add-zero (bit d * 2 ^ k * 2)))
      ∙ xor_bits (pack_by p xs) (bit d * 2 ^ k) (p x) false
      ∙ ap₂ (λ (a : ℕ) (b : Bool). a * 2 + bit b) (pack_by_set xs k c (le_of_suc-le-suc h)) (flat (p x))
    where
      flat : (a : Bool) → xorb a false ≡ a
      flat true = refl
      flat false = refl

-- ---- one cell

-- what holds of the cells 0, 1 and 2 holds of a cell
pub cell_ind {ℓ} : (P : ℕ → Type ℓ) → P 0 → P 1 → P 2 → {c : ℕ} → c < 3 → P c
cell_ind P x y z {c = zero} h = x
cell_ind P x y z {c = suc zero} h = y
cell_ind P x y z {c = suc (suc zero)} h = z
cell_ind P x y z {c = suc (suc (suc c))} h = absurd (omega arith)

pub cell_of_lem : {c : ℕ} → c < 3 → bit (is_one c) + 2 * bit (is_erased c) ≡ c
cell_of_lem h = cell_ind (λ (c : ℕ). bit (is_one c) + 2 * bit (is_erased c) ≡ c) refl refl refl h

first_cell : {c : ℕ} (b : ℕ) → c < 3 → (is_one c || (is_erased c && is_one b)) ≡ is_one (filled_cell c b)
first_cell b h = cell_ind (λ (c : ℕ). (is_one c || (is_erased c && is_one b)) ≡ is_one (filled_cell c b)) refl refl refl h

second_cell : {c b : ℕ} → c < 3 → b < 2 → xorb (is_one (filled_cell c b)) (is_erased c) ≡ is_one (filled_cell c (1 - b))
second_cell {b} h l =
    cell_ind (λ (c : ℕ). xorb (is_one (filled_cell c b)) (is_erased c) ≡ is_one (filled_cell c (1 - b))) refl refl
    (bit_ind (λ (b : ℕ). xorb (is_one b) true ≡ is_one (1 - b)) refl refl l) h

differ_cell : {c w : ℕ} → c < 3 → w < 2 → bit (xorb (is_one w) (is_one c) && not (is_erased c)) ≡ differs c w
differ_cell {c} h l =
    bit_ind (λ (w : ℕ). bit (xorb (is_one w) (is_one c) && not (is_erased c)) ≡ differs c w)
    (cell_ind (λ (c : ℕ). bit (xorb false (is_one c) && not (is_erased c)) ≡ differs c 0) refl refl refl h)
    (cell_ind (λ (c : ℕ). bit (xorb true (is_one c) && not (is_erased c)) ≡ differs c 1) refl refl refl h) l

-- ---- what word operations on a packed line give

abbrev pub Small : ℕ → List ℕ → Type 0
Small b cs = (i : ℕ) → cell cs i < b

-- word one: the filling's bits in the erased cells
pub filled_first : (cs : List ℕ) (f : ℕ) → Small 3 cs → bit_or (pack_by is_one cs) (bit_and (pack_by is_erased cs) f) ≡ pack_by is_one (filled One cs f)
unfolding pack_by filled
filled_first [] f s = refl
filled_first (c ∷ cs) f s =
    ap (λ (g : ℕ). bit_or (pack_by is_one (c ∷ cs)) (bit_and (pack_by is_erased (c ∷ cs)) g)) (split_low f)
    ∙ ap (bit_or (pack_by is_one (c ∷ cs))) (and_bits (pack_by is_erased cs) (f / 2) (is_erased c) (is_one (f % 2)))
    ∙ or_bits (pack_by is_one cs) (bit_and (pack_by is_erased cs) (f / 2)) (is_one c) (is_erased c && is_one (f % 2))
    ∙ ap₂ (λ (a : ℕ) (x : Bool). a * 2 + bit x) (filled_first cs (f / 2) (λ i. s (suc i))) (first_cell (f % 2) (s 0))

-- word two: word one with the erased cells turned
pub filled_second : (cs : List ℕ) (f : ℕ) → Small 3 cs → bit_xor (pack_by is_one (filled One cs f)) (pack_by is_erased cs) ≡ pack_by is_one (filled Two cs f)
unfolding pack_by filled
filled_second [] f s = refl
filled_second (c ∷ cs) f s =
    xor_bits (pack_by is_one (filled One cs (f / 2))) (pack_by is_erased cs) (is_one (filled_cell c (f % 2))) (is_erased c)
    ∙ ap₂ (λ (a : ℕ) (x : Bool). a * 2 + bit x) (filled_second cs (f / 2) (λ i. s (suc i))) (second_cell (s 0) (mod-lt f (zero-lt-suc 1)))

pub ones_erased : (cs : List ℕ) → ones (pack_by is_erased cs) ≡ erasures cs
unfolding pack_by erasures ones
ones_erased [] = refl
ones_erased (c ∷ cs) = ones_bits (pack_by is_erased cs) (is_erased c) ∙ ap (λ (n : ℕ). bit (is_erased c) + n) (ones_erased cs)

-- the ones of an xor under the known mask, in words of m digits
pub ones_differing : (m : ℕ) (cs ws : List ℕ) → length ws ≡ length cs → length cs ≤ m → Small 3 cs → Small 2 ws
    → ones (bit_and (bit_xor (pack_by is_one ws) (pack_by is_one cs)) (2 ^ m - 1 - pack_by is_erased cs)) ≡ distance cs ws
unfolding pack_by distance ones
ones_differing m [] [] e l s t = refl
ones_differing m [] (w ∷ ws) e l s t = absurd (omega arith)
ones_differing m (c ∷ cs) [] e l s t = absurd (omega arith)
ones_differing zero (c ∷ cs) (w ∷ ws) e l s t = absurd (omega arith)
ones_differing (suc m) (c ∷ cs) (w ∷ ws) e l s t =
    let x : ℕ = bit_xor (pack_by is_one ws) (pack_by is_one cs) in
    rw (
      xor_bits (pack_by is_one ws) (pack_by is_one cs) (is_one w) (is_one c),
      not_bits m (pack_by is_erased cs) (is_erased c) (lt_of_lt_of_le (pack_by_lt is_erased cs) (pow_mono (le_of_suc-le-suc l))),
      and_bits x (2 ^ m - 1 - pack_by is_erased cs) (xorb (is_one w) (is_one c)) (not (is_erased c)),
      ones_bits (bit_and x (2 ^ m - 1 - pack_by is_erased cs)) (xorb (is_one w) (is_one c) && not (is_erased c)),
      differ_cell {c = c} {w = w} (s 0) (t 0),
      ones_differing m cs ws (suc_inj e) (le_of_suc-le-suc l) (λ i. s (suc i)) (λ i. t (suc i)),
    )

-- a word has no erased cell
pub no_erased : (ws : List ℕ) → Small 2 ws → pack_by is_erased ws ≡ 0
unfolding pack_by
no_erased [] s = refl
no_erased (w ∷ ws) s = rw (no_erased ws (λ i. s (suc i)), zero-add) (bit_ind (λ (w : ℕ). bit (is_erased w) ≡ 0) refl refl (s 0))
