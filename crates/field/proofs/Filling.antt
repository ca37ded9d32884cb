-- The loops that make the tables, a turn at a time.
-- Assumes nothing.
use mathlib.Core.Path.{◌≡◌, sym, ap, ap₂, ◌∙◌}
use mathlib.Core.List.{List}
use mathlib.Core.Logic.{dite, ◌≢◌}
use Prim.Native.Nat.{ℕ, suc, ◌+◌, ◌*◌, ◌/◌, ◌^◌, ◌≤◌, ◌<◌}
use native.Mathlib.Decide.{dec_lt}
use native.Mathlib.Nat.{pow-suc}
use native.Mathlib.Omega.{arith}
use lib.Bits.{bit_xor}
use lib.ListN.{length, get_or, set, take, drop}
use lib.Pow.{pow_mono}
use borrow.Author.Rules.{rules}
use borrow.Rule.Slice.PartMut.{put_mid}
use Rattle.std.proofs.lemmas.List.{places}
use lib.Seq.{get_or-set_same, get_or-set_other, get_or-take, get_or-drop}
use Rattle.degree.specs.declared.Degree.{Degree}
use Rattle.degree.specs.Degree.{size, order}
use Rattle.field.specs.Field.{times_power, power}
use Rattle.laws.specs.Digits.{sum_over, digits}
use Rattle.field.specs.Working.Tables.{Powers, Weights, Logs, Sums, weight}
use Rattle.words.specs.Working.Sums.{ByteSums}
use Rattle.field.specs.Working.Building.{Block}
use Rattle.field.proofs.Doubling.{times_add}
use Rattle.field.proofs.Primitive.{primitive}
use Rattle.laws.proofs.DigitSums.{sum_cong, sum_zero, digits_length, sum_digits_zero, sum_top}
use Rattle.field.proofs.Weights.{power_small, weight_below, weight_last, weight_past}

-- ---- weights

-- the weights of the cells below i are put, nothing else is
pub record WeightsTo (d : Degree) (i : ℕ) (t : List ℕ) : Type 0 where
  pub below : (k : ℕ) → k < i → get_or t k 0 ≡ weight d k
  pub above : (k : ℕ) → i ≤ k → get_or t k 0 ≡ 0

module _ (d : Degree) where
  -- a power of the table is below 128
  pub powers_small : (ps : List ℕ) → Powers d ps → (i : ℕ) → i < order d → get_or ps i 0 < 128
  powers_small ps p i h = rw (p.at i h) (power_small d i)

  -- three more in the exponent is the next cube
  pub cube_next : (i cube r : ℕ) → power d cube ≡ power d (3 * i) → power d r ≡ power d (cube + 3) → power d r ≡ power d (3 * (i + 1))
  cube_next i cube r e f =
      let a : cube + 3 ≡ 3 + cube = omega arith in
      let b : 3 + 3 * i ≡ 3 * (i + 1) = omega arith in
      f ∙ ap (λ (k : ℕ). power d k) a ∙ times_add d 3 cube 1 ∙ ap (times_power d 3) e ∙ sym (times_add d 3 (3 * i) 1)
      ∙ ap (λ (k : ℕ). power d k) b

  -- one weight more
  pub weights_next : (ps t : List ℕ) (i cube : ℕ) → Powers d ps → i < order d → i < length t → cube < order d
      → power d cube ≡ power d (3 * i) → WeightsTo d i t → WeightsTo d (i + 1) (set t i (get_or ps i 0 + 128 * (get_or ps cube 0 + 128)))
  weights_next ps t i cube p h l hc e w = record {
    below = λ k hk. dite (dec_lt k i)
        (λ s. get_or-set_other t i k _ 0 (λ z. omega arith) ∙ w.below k s)
        (λ s.
        let z : k ≡ i = omega arith in
        rw z
        (get_or-set_same t i _ 0 l ∙ ap₂ (λ (x y : ℕ). x + 128 * (y + 128)) (p.at i h) (p.at cube hc ∙ e) ∙ sym (weight_below d i h)));
    above = λ k hk. get_or-set_other t i k _ 0 (λ z. omega arith) ∙ w.above k (omega arith);
  }

  -- the last cell counts for the parity alone
  pub weights_done : (t : List ℕ) → order d < length t → WeightsTo d (order d) t → Weights d (set t (order d) 16384)
  weights_done t l w k h =
      dite (dec_lt k (order d)) (λ s. get_or-set_other t (order d) k 16384 0 (λ z. omega arith) ∙ w.below k s)
      (λ s. dite (dec_lt (order d) k)
      (λ r. get_or-set_other t (order d) k 16384 0 (λ z. omega arith) ∙ w.above k (omega arith) ∙ sym (weight_past d k (omega arith)))
      (λ r.
      let z : k ≡ order d = omega arith in
      rw z (get_or-set_same t (order d) 16384 0 l ∙ sym (weight_last d))))

-- ---- logarithms

-- the numbers below i are put at their powers
abbrev pub LogsTo : List ℕ → ℕ → List ℕ → Type 0
LogsTo ps i t = (k : ℕ) → k < i → get_or t (get_or ps k 0) 0 ≡ k

module _ (d : Degree) where
  -- no two powers are equal, so no entry is put twice
  pub logs_next : (ps t : List ℕ) (i : ℕ) → Powers d ps → i < order d → get_or ps i 0 < length t
      → LogsTo ps i t → LogsTo ps (i + 1) (set t (get_or ps i 0) i)
  logs_next ps t i p h l w k hk =
      dite (dec_lt k i)
      (λ s. get_or-set_other t (get_or ps i 0) (get_or ps k 0) i 0 (λ z. apart k s (omega arith)) ∙ w k s)
      (λ s. let z : k ≡ i = omega arith in rw z (get_or-set_same t (get_or ps i 0) i 0 l))
    where
      apart : (k : ℕ) → k < i → get_or ps k 0 ≢ get_or ps i 0
      apart k s z =
          let hk : k < order d = omega arith in
          let e : k ≡ i = (primitive d).once hk h (sym (p.at k hk) ∙ z ∙ p.at i h) in
          omega arith

  -- all numbers are put
  pub logs_done : (ps t : List ℕ) → Powers d ps → LogsTo ps (order d) t → Logs d t
  logs_done ps t p l k h = ap (λ (x : ℕ). get_or t x 0) (sym (p.at k h)) ∙ l k h

-- ---- a block

-- a doubled part still fits a block
pub double_room : (i size : ℕ) → i < 8 → size ≡ 2 ^ i → size * 2 ≤ 256
double_room i size h e = let p : 2 ^ suc i ≤ 2 ^ 8 = pow_mono h in omega (arith, pow-suc 2 i)

-- the sum of no weight
pub block_start : (w b : List ℕ) → 0 < length b → Block w 1 (set b 0 0)
block_start w b l x h =
    let z : x ≡ 0 = omega arith in
    rw z (get_or-set_same b 0 0 0 l ∙ sym (sum_digits_zero (λ i. get_or w i 0) 8))

-- one sum more: the weight i added to a sum that is made
pub block_next : (w b : List ℕ) (i size x : ℕ) → i < 8 → size ≡ 2 ^ i → x < size → size + x < length b
    → Block w (size + x) b → Block w (size + (x + 1)) (set b (size + x) (bit_xor (get_or b x 0) (get_or w i 0)))
block_next w b i size x l e hx room h y hy =
    dite (dec_lt y (size + x))
    (λ s. get_or-set_other b (size + x) y _ 0 (λ z. omega arith) ∙ h y s)
    (λ s.
    let z : y ≡ size + x = omega arith in
    let small : x < 2 ^ i = omega arith in
    let F : ℕ → ℕ = λ i. get_or w i 0 in
    rw z
    (get_or-set_same b (size + x) _ 0 room ∙ ap (λ (n : ℕ). bit_xor n (get_or w i 0)) (h x (omega arith)) ∙ sym (sum_top F 8 i x l small)
    ∙ ap (λ (n : ℕ). sum_over F (digits 8 (n + x))) (sym e)))

-- ---- all blocks

-- the first k blocks are sums of the weights w, eight a block; all others are 0
pub record SumsTo (w : List ℕ) (k : ℕ) (t : List ℕ) : Type 0 where
  pub made : ByteSums (λ i. get_or w i 0) 0 k t
  pub rest : (i : ℕ) → k * 256 ≤ i → get_or t i 0 ≡ 0

-- where entries stand after a part of a list is replaced
part_below : (a k i : ℕ) (xs ys : List ℕ) → a ≤ length xs → i < a → get_or (put_mid a k xs ys) i 0 ≡ get_or xs i 0
part_below a k i xs ys l h = search (rules, places)

part_in : (a k i : ℕ) (xs ys : List ℕ) → a ≤ length xs → i < length ys → get_or (put_mid a k xs ys) (a + i) 0 ≡ get_or ys i 0
part_in a k i xs ys l h = search (rules, places)

part_above : (a k i : ℕ) (xs ys : List ℕ) → a ≤ length xs → length ys ≡ k → a + k ≤ i → get_or (put_mid a k xs ys) i 0 ≡ get_or xs i 0
part_above a k i xs ys l e h = search (rules, places)

-- one block more: the sums b of the weights from 8 j on, put in the place of block j
pub sums_next : (w t b : List ℕ) (j m k : ℕ) → m ≡ 8 → k ≡ 256 → 256 * j + 256 ≤ length t → length b ≡ 256
    → Block (take m (drop (8 * j) w)) 256 b → SumsTo w j t → SumsTo w (j + 1) (put_mid (256 * j) k t b)
sums_next w t b j m k em ek room long h s = record {
  made = λ i x hi hx. dite (dec_lt i j)
      (λ l. part_below (256 * j) k (0 + i * 256 + x) t b (omega arith) (omega arith) ∙ s.made i x l hx)
      (λ l.
      let z : i ≡ j = omega arith in
      let q : 0 + j * 256 + x ≡ 256 * j + x = omega arith in
      rw (z, q)
      (part_in (256 * j) k x t b (omega arith) (omega arith) ∙ h x hx
      ∙ sum_cong (λ i. get_or (take m (drop (8 * j) w)) i 0) (λ i. get_or w (j * 8 + i) 0) (digits 8 x)
      (λ i hi.
      let at : j * 8 + i ≡ 8 * j + i = omega arith in
      rw at (get_or-take m (drop (8 * j) w) i 0 (omega (arith, digits_length 8 x)) ∙ get_or-drop (8 * j) w i 0))));
  rest = λ i hi. part_above (256 * j) k i t b (omega arith) (omega arith) (omega arith) ∙ s.rest i (omega arith);
}

-- all blocks: past n there is no weight
pub sums_done : (d : Degree) (w t : List ℕ) → Weights d w → SumsTo w (size d / 8) t → Sums d t
sums_done d w t e s j x hj hx =
    dite (dec_lt j (size d / 8))
    (λ l.
    s.made j x l hx
    ∙ sum_cong (λ i. get_or w (j * 8 + i) 0) (λ i. weight d (j * 8 + i)) (digits 8 x) (λ i hi. e (j * 8 + i) (omega (arith, digits_length 8 x))))
    (λ l.
    s.rest (0 + j * 256 + x) (omega arith)
    ∙ sym (sum_cong (λ i. weight d (j * 8 + i)) (λ i. 0) (digits 8 x) (λ i hi. weight_past d (j * 8 + i) (omega (arith, (primitive d).bytes))) ∙ sum_zero (digits 8 x)))
