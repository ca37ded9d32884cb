-- Sums of chosen words, a word a turn, and sums of table entries by the bytes of a word, a byte a turn.
-- Assumes nothing.
use mathlib.Core.Path.{◌≡◌, sym, ap, ap₂, ◌∙◌}
use mathlib.Core.Bool.{cond}
use mathlib.Core.List.{List}
use mathlib.Core.Logic.{◌≢◌, dite}
use Prim.Native.Nat.{ℕ, zero, suc, ◌+◌, ◌-◌, ◌*◌, ◌/◌, ◌%◌, ◌^◌, ◌<◌, ◌≤◌}
use native.Mathlib.Nat.{zero-mul, one-mul, div-eq_of_lt}
use native.Mathlib.Decide.{dec_lt}
use native.Mathlib.Numerals.{add-one}
use native.Mathlib.Omega.{arith}
use lib.Bits.{bit_xor, xor_zero_r}
use lib.Dec.{eqb}
use lib.ListN.{get_or}
use lib.Pow.{shr-shr}
use Rattle.laws.specs.Digits.{sum_over, digits}
use Rattle.laws.specs.Working.Bits.{bit_at}
use Rattle.laws.specs.Working.Sums.{xor_to}
use Rattle.laws.proofs.Bits.{bit_at_lt}
use Rattle.laws.proofs.DigitSums.{sum_cong, sum_append, sum_digits_zero, digits_length, digits_low, digits_append}
use Rattle.laws.proofs.Linear.{to_last}
use Rattle.laws.proofs.Xor.{xor_assoc}
use Rattle.words.specs.Working.Grid.{word_in}
use Rattle.words.specs.declared.word.grid.Grid.{Grid}
use Rattle.words.specs.Working.Sums.{chosen_sum, ByteSums}

-- ---- chosen words

-- what is added where a bit is 1 is the bit's multiple
where_one : (x b : ℕ) → b < 2 → cond (eqb b 1) x 0 ≡ b * x
where_one x zero h = sym (zero-mul x)
where_one x (suc zero) h = sym (one-mul x)
where_one x (suc (suc b)) h = absurd (omega arith)

module _ (t ws : Grid) (i sum a : ℕ) (e : sum ≡ chosen_sum t ws a i) where
  more : chosen_sum t ws (a + 1) i ≡ bit_xor sum (bit_at (word_in t a) i * word_in ws a)
  unfolding chosen_sum
  more =
      ap (λ (x : ℕ). xor_to x (λ a. bit_at (word_in t a) i * word_in ws a)) (add-one a)
      ∙ to_last a (λ a. bit_at (word_in t a) i * word_in ws a) ∙ ap (λ (x : ℕ). bit_xor x (bit_at (word_in t a) i * word_in ws a)) (sym e)

  -- one word more: it is added where its entry has bit i
  pub chosen_next : {unit word bit next : ℕ} → unit ≡ word_in t a → bit ≡ bit_at unit i → word ≡ word_in ws a → next ≡ bit_xor sum (cond (eqb bit 1) word 0)
      → next ≡ chosen_sum t ws (a + 1) i
  chosen_next u b w n =
      n ∙ ap₂ (λ (x y : ℕ). bit_xor sum (cond (eqb x 1) y 0)) (b ∙ ap (λ (x : ℕ). bit_at x i) u) w
      ∙ ap (bit_xor sum) (where_one (word_in ws a) (bit_at (word_in t a) i) (bit_at_lt (word_in t a) i)) ∙ sym more

-- ---- table entries by bytes

-- digits behind others
sum_behind : (W : ℕ → ℕ) (n m w : ℕ) → bit_xor (sum_over W (digits n w)) (sum_over (λ i. W (n + i)) (digits m (w / 2 ^ n))) ≡ sum_over W (digits (n + m) w)
sum_behind W n m w =
    ap (λ (k : ℕ). bit_xor (sum_over W (digits n w)) (sum_over (λ i. W (k + i)) (digits m (w / 2 ^ n)))) (sym (digits_length n w))
    ∙ sym (sum_append W (digits n w) (digits m (w / 2 ^ n))) ∙ ap (sum_over W) (sym (digits_append n m w))

-- what is left after one byte more
pub rest_next : (number rest j : ℕ) → rest ≡ number / 2 ^ (j * 8) → rest / 256 ≡ number / 2 ^ ((j + 1) * 8)
rest_next number rest j e =
    let n : j * 8 + 8 ≡ (j + 1) * 8 = omega arith in
    rw e (shr-shr number (j * 8) 8 ∙ ap (λ (k : ℕ). number / 2 ^ k) n)

-- something is left only of the first eight bytes
pub rest_some : (number j : ℕ) → number < 2 ^ 64 → j ≤ 8 → number / 2 ^ (j * 8) ≢ 0 → j < 8
rest_some number j h l z = dite (dec_lt j 8) (λ y. y) (λ y. absurd (z (let e : j ≡ 8 = omega arith in rw e (div-eq_of_lt h))))

-- eight digits more, with s before them
pub byte_next : (W : ℕ → ℕ) (t : List ℕ) (base number s sum rest j : ℕ) → ByteSums W base 8 t → j < 8 → rest ≡ number / 2 ^ (j * 8)
    → sum ≡ bit_xor s (sum_over W (digits (j * 8) number))
    → bit_xor sum (get_or t (base + j * 256 + rest % 256) 0) ≡ bit_xor s (sum_over W (digits ((j + 1) * 8) number))
byte_next W t base number s sum rest j tab h er es =
    let next : j * 8 + 8 ≡ (j + 1) * 8 = omega arith in
    let part : get_or t (base + j * 256 + rest % 256) 0 ≡ sum_over (λ i. W (j * 8 + i)) (digits 8 (number / 2 ^ (j * 8))) =
    tab j (rest % 256) h (omega arith) ∙ ap (sum_over (λ i. W (j * 8 + i))) (digits_low 8 rest ∙ ap (digits 8) er) in
    ap₂ bit_xor es part ∙ xor_assoc s (sum_over W (digits (j * 8) number)) (sum_over (λ i. W (j * 8 + i)) (digits 8 (number / 2 ^ (j * 8))))
    ∙ ap (bit_xor s) (sum_behind W (j * 8) 8 number ∙ ap (λ (n : ℕ). sum_over W (digits n number)) next)

-- where nothing is left, the sum is whole
pub sum_whole : (W : ℕ → ℕ) (number j : ℕ) → j ≤ 8 → number / 2 ^ (j * 8) ≡ 0 → sum_over W (digits (j * 8) number) ≡ sum_over W (digits 64 number)
sum_whole W number j h z =
    let e : j * 8 + (64 - j * 8) ≡ 64 = omega arith in
    sym (xor_zero_r (sum_over W (digits (j * 8) number)))
    ∙ ap (bit_xor (sum_over W (digits (j * 8) number))) (sym (sum_digits_zero (λ i. W (j * 8 + i)) (64 - j * 8)) ∙ ap (λ (x : ℕ). sum_over (λ i. W (j * 8 + i)) (digits (64 - j * 8) x)) (sym z))
    ∙ sum_behind W (j * 8) (64 - j * 8) number ∙ ap (λ (n : ℕ). sum_over W (digits n number)) e

-- the first eight blocks of a table, and the eight behind them
pub low_blocks : (W : ℕ → ℕ) (base : ℕ) (t : List ℕ) → ByteSums W base 16 t → ByteSums W base 8 t
low_blocks W base t b j x h l = b j x (omega arith) l

pub high_blocks : (W : ℕ → ℕ) (base : ℕ) (t : List ℕ) → ByteSums W base 16 t → ByteSums (λ i. W (64 + i)) (base + 2048) 8 t
high_blocks W base t b j x h l =
    let e : base + 2048 + j * 256 + x ≡ base + (8 + j) * 256 + x = omega arith in
    ap (λ (n : ℕ). get_or t n 0) e ∙ b (8 + j) x (omega arith) l
    ∙ sum_cong (λ i. W ((8 + j) * 8 + i)) (λ i. W (64 + (j * 8 + i))) (digits 8 x) (λ i l. ap W (shifted j i))
  where
    shifted : (j i : ℕ) → (8 + j) * 8 + i ≡ 64 + (j * 8 + i)
    shifted j i = omega arith

-- both halves of a number
pub sum_halves : (W : ℕ → ℕ) (v : ℕ) → bit_xor (sum_over W (digits 64 (v % 2 ^ 64))) (sum_over (λ i. W (64 + i)) (digits 64 (v / 2 ^ 64))) ≡ sum_over W (digits 128 v)
sum_halves W v = ap (λ (x : List ℕ). bit_xor (sum_over W x) (sum_over (λ i. W (64 + i)) (digits 64 (v / 2 ^ 64)))) (digits_low 64 v) ∙ sum_behind W 64 64 v
