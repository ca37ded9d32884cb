-- Encoding on packed words, by a table of the encoded units: entry a is the encoded line, as a number, of the message whose
-- one 1 is cell a. A message is encoded as the sum of the entries at its ones. A table of units is known by a test, which the
-- checker computes over all the check cells that it is made from.
-- Assumes nothing.
use mathlib.Core.Path.{◌≡◌, refl, sym, ap, ap₂, ◌∙◌, subst}
use mathlib.Core.Bool.{Bool, true, false, cond}
use mathlib.Core.List.{List, [], ◌∷◌, ◌++◌}
use Prim.Native.Nat.{ℕ, ◌+◌, ◌*◌, ◌%◌, ◌^◌, ◌<◌, ◌≤◌}
use native.Mathlib.Nat.{mul-one}
use native.Mathlib.Numerals.{add-one}
use native.Mathlib.Omega.{arith}
use lib.Bits.{bit_xor, xor_zero_r}
use lib.Dec.{T, eqb, eqb→eq}
use lib.ListN.{length, get_or, take}
use lib.Pow.{pow-lt}
use lib.Seq.{take_all}
use Rattle.laws.specs.Working.Bits.{bit_at}
use Rattle.laws.specs.Digits.{sum_over, ones_in, digits}
use Rattle.laws.specs.Working.Digits.{pack}
use Rattle.laws.specs.Working.Sums.{xor_to}
use Rattle.laws.proofs.Bits.{bit_one}
use Rattle.laws.proofs.DigitSums.{sum_cong, sum_ones, sum_append, sum_more, digits_length}
use Rattle.laws.proofs.Linear.{one, sum_step, Additive, sum_map, then_adds, shift_adds, sum_digits, digits_adds, digits_power, digits_bits, digits_at, pack_step, pack_digits, digits_pack, pack_lt, pack_append, to_cong, to_both, sum_to}
use Rattle.laws.proofs.Tests.{every, every_at}
use Rattle.laws.proofs.Xor.{digit_lt, xor_one}
use Rattle.degree.specs.declared.Degree.{Degree}
use Rattle.degree.specs.Degree.{size, order}
use Rattle.field.proofs.Powers.{looked_up, looked_up_lem}
use Rattle.words.specs.declared.word.grid.Grid.{Grid}
use Rattle.words.specs.Working.Grid.{word_in}
use Rattle.line.specs.Cells.{IsWord}
use Rattle.line.specs.Working.Packed.{is_one, pack_by, PacksWord}
use Rattle.line.specs.Encoding.{check_size, message_size, sums, checks_for, check_cells, encode_line}
use Rattle.line.specs.Working.Units.{unit_of, UnitChecks, Units}
use Rattle.line.proofs.CellLaws.{Bits}
use Rattle.line.proofs.Bounds.{size_le}
use Rattle.line.proofs.LineEncoding.{inverse, length_checks, length_body, line_codeword, summed}

-- the number of a word of cells is the word that packs them
pub pack_packs : (ws : List ℕ) → pack_by is_one ws ≡ pack ws
unfolding pack_by sum_over
pack_packs [] = refl
pack_packs (w ∷ ws) = ap (λ (x : ℕ). x * 2 + one w) (pack_packs ws) ∙ sym (pack_step w ws)

module _ (d : Degree) where
  -- ---- the test of a table of units

  -- what cell i adds to the two check sums, looked up
  abbrev sums_at : ℕ → ℕ
  sums_at i = looked_up d (3 * i) * size d + looked_up d i

  sums_at_lem : (i : ℕ) → sums_at i ≡ sums d i
  unfolding sums
  sums_at_lem i = ap₂ (λ (x y : ℕ). x * size d + y) (looked_up_lem d (3 * i)) (looked_up_lem d i)

  -- the encoded unit at a, with its check cells computed from one cell's check sums
  unfoldable pub unit_word : ℕ → ℕ
  unit_word a =
      let c = digits (check_size d) (checks_for d (sums_at (check_size d + a))) in
      (ones_in c + 1) % 2 * 2 ^ order d + (2 ^ a * 2 ^ check_size d + pack c)

  -- the units are made from these check cells
  unfoldable pub units? : List ℕ → Bool
  units? entries = every (λ a. eqb (unit_of d a (get_or entries a 0)) (unit_word a)) (message_size d)

  pack_one : (b : ℕ) → b < 2 → pack (b ∷ []) ≡ b
  unfolding sum_over
  pack_one b h = sum_step (λ i. 2 ^ i) b [] ∙ xor_zero_r (one b * 1) ∙ mul-one (one b) ∙ bit_one h

  -- an encoded line as a number
  encode_word : (m : List ℕ) → length m ≡ message_size d
      → pack (encode_line d m) ≡ ones_in (check_cells d m ++ m) % 2 * 2 ^ order d + (pack m * 2 ^ check_size d + pack (check_cells d m))
  unfolding encode_line
  encode_word m l =
      let c = check_cells d m in
      let e : length (c ++ m) ≡ order d = length_body d m ∙ omega (arith, l, (inverse d).room) in
      pack_append (c ++ m) (ones_in (c ++ m) % 2 ∷ [])
      ∙ rw (pack_one (ones_in (c ++ m) % 2) (digit_lt (ones_in (c ++ m))), e, pack_append c m, length_checks d m)

  -- the message whose one 1 is cell a
  abbrev unit_at : ℕ → List ℕ
  unit_at a = digits (message_size d) (2 ^ a)

  unit_word_lem : (a : ℕ) → a < message_size d → unit_word a ≡ pack (encode_line d (unit_at a))
  unfolding unit_word check_cells
  unit_word_lem a h =
      let m = unit_at a in
      let c = check_cells d m in
      let s : sum_over (λ i. sums d (check_size d + i)) m ≡ sums d (check_size d + a) = digits_power (λ i. sums d (check_size d + i)) (message_size d) a h in
      let o : sum_over (λ i. 1) m ≡ 1 = digits_power (λ i. 1) (message_size d) a h in
      let parity : ones_in (c ++ m) % 2 ≡ (ones_in c + 1) % 2 =
      sym (sum_ones (c ++ m)) ∙ sum_append (λ i. 1) c m ∙ ap₂ bit_xor (sum_ones c) o ∙ xor_one (ones_in c) in
      rw (sums_at_lem (check_size d + a)) (sym (encode_word m (digits_length (message_size d) (2 ^ a)) ∙ rw (parity, pack_digits (message_size d) (2 ^ a) (pow-lt h), s)))

  -- what a passed test says
  pub units_rule : (entries : List ℕ) → T (units? entries) → length entries ≡ message_size d → UnitChecks d entries
  unfolding units?
  units_rule entries h l = record {
    long = l;
    at = λ a q. eqb→eq _ _ (every_at (λ a. eqb (unit_of d a (get_or entries a 0)) (unit_word a)) (message_size d) h q) ∙ unit_word_lem a q;
  }

  -- ---- a table of units made, a unit a turn

  pub record Making (entries : List ℕ) (t : Grid) (a : ℕ) : Type 0 where
    pub low : a ≤ length entries
    pub made : (b : ℕ) → b < a → word_in t b ≡ unit_of d b (get_or entries b 0)

  -- ---- an encoded line is linear in its message

  abbrev word : ℕ → ℕ
  word x = pack (encode_line d (digits (message_size d) x))

  length_word : (x : ℕ) → length (encode_line d (digits (message_size d) x)) ≡ size d
  length_word x =
      (line_codeword d (digits (message_size d) x) (digits_length (message_size d) x) (digits_bits (message_size d) x)).word.long

  cell_digits : (i : ℕ) (q : i < size d) (x : ℕ)
      → get_or (encode_line d (digits (message_size d) x)) i 0 ≡ sum_digits (summed d i q).weight (message_size d) x
  cell_digits i q x = (summed d i q).same (digits (message_size d) x) (digits_length (message_size d) x) (digits_bits (message_size d) x)

  cell_bit : (i x : ℕ) → get_or (encode_line d (digits (message_size d) x)) i 0 < 2
  cell_bit i x =
      (line_codeword d (digits (message_size d) x) (digits_length (message_size d) x) (digits_bits (message_size d) x)).word.small i

  word_to : (x : ℕ) → word x ≡ xor_to (size d) (λ i. get_or (encode_line d (digits (message_size d) x)) i 0 * 2 ^ i)
  word_to x =
      sum_to (λ i. 2 ^ i) (encode_line d (digits (message_size d) x))
      ∙ ap (λ (l : ℕ). xor_to l (λ i. one (get_or (encode_line d (digits (message_size d) x)) i 0) * 2 ^ i)) (length_word x)
      ∙ to_cong (size d) _ _ (λ i q. ap (λ (b : ℕ). b * 2 ^ i) (bit_one (cell_bit i x)))

  word_adds : Additive word
  word_adds = record {
    keeps = λ x y.
        word_to (bit_xor x y)
        ∙ to_cong (size d) _ _ (λ i q.
        let w = (summed d i q).weight in
        let a : Additive (λ x. sum_digits w (message_size d) x * 2 ^ i) = then_adds (shift_adds i) (digits_adds w (message_size d)) in
        ap (λ (z : ℕ). z * 2 ^ i) (cell_digits i q (bit_xor x y)) ∙ a.keeps x y
        ∙ ap₂ (λ (y z : ℕ). bit_xor (y * 2 ^ i) (z * 2 ^ i)) (sym (cell_digits i q x)) (sym (cell_digits i q y)))
        ∙ to_both (size d) (λ i. get_or (encode_line d (digits (message_size d) x)) i 0 * 2 ^ i) (λ i. get_or (encode_line d (digits (message_size d) y)) i 0 * 2 ^ i)
        ∙ ap₂ bit_xor (sym (word_to x)) (sym (word_to y));
  }

  -- ---- with a table of units

  module _ (t : Grid) (U : Units d t) where
    -- bit i of an entry is the weight of the message cell in cell i
    pub unit_bit : (i a : ℕ) (q : i < size d) → a < message_size d → bit_at (word_in t a) i ≡ (summed d i q).weight a
    unit_bit i a q h =
        let e = encode_line d (unit_at a) in
        ap (λ (x : ℕ). bit_at x i) (U.at a h)
        ∙ sym (digits_at (length e) (pack e) i (omega (arith, length_word (2 ^ a))))
        ∙ ap (λ (w : List ℕ). get_or w i 0) (digits_pack e (λ j. cell_bit j (2 ^ a)))
        ∙ cell_digits i q (2 ^ a) ∙ digits_power (summed d i q).weight (message_size d) a h

    -- the sum of the entries at the ones of a message packs the encoded line
    pub sum_packs : (m : List ℕ) → IsWord (message_size d) m → PacksWord (size d) (encode_line d m) (sum_over (λ a. word_in t a) m)
    sum_packs m M =
        let l = M.long in
        let b : Bits m = M.small in
        let q : pack m < 2 ^ message_size d = subst (λ (x : ℕ). pack m < 2 ^ x) l (pack_lt m) in
        let same : digits (message_size d) (pack m) ≡ m = ap (λ (x : ℕ). digits x (pack m)) (sym l) ∙ digits_pack m b in
        record {
          room = size_le d refl;
          cells = (line_codeword d m l b).word;
          ones =
              sum_cong (λ a. word_in t a) (λ a. word (2 ^ a)) m (λ a z. U.at a (rw l at z))
              ∙ sym (sum_map word (λ a. 2 ^ a) m word_adds) ∙ ap (λ (x : List ℕ). pack (encode_line d x)) same ∙ sym (pack_packs (encode_line d m));
        }

-- ---- the sum, a cell of the message a turn

-- one cell more: its unit is added where it holds 1
pub sum_next : (t : Grid) (m : List ℕ) (a : ℕ) {sum next : ℕ} → sum ≡ sum_over (λ j. word_in t j) (take a m) → next ≡ bit_xor sum (cond (eqb (get_or m a 0) 1) (word_in t a) 0)
    → next ≡ sum_over (λ j. word_in t j) (take (a + 1) m)
sum_next t m a {sum} e f =
    f
    ∙ sym (ap (λ (x : ℕ). sum_over (λ j. word_in t j) (take x m)) (add-one a) ∙ sum_more (λ j. word_in t j) m a ∙ ap₂ bit_xor (sym e) (picked (eqb (get_or m a 0) 1)))
  where
    picked : (b : Bool) → elim b [ true ↦ word_in t a | false ↦ 0 ] ≡ cond b (word_in t a) 0
    picked true = refl
    picked false = refl

-- after the last turn
pub sum_encodes : (d : Degree) (t : Grid) (m : List ℕ) {sum a : ℕ} → Units d t → IsWord (message_size d) m → sum ≡ sum_over (λ j. word_in t j) (take a m) → length m ≤ a
    → PacksWord (size d) (encode_line d m) sum
sum_encodes d t m {sum} {a} U M e h = rw (e, take_all a m h) (sum_packs d t U m M)
