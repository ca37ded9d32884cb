-- Cells stay below a bound.
-- Assumes nothing.
use Rattle.std.proofs.Common.{ℕ, zero, suc, ◌-◌, ◌/◌, ◌%◌, ◌^◌, ◌<◌, List, [], ◌∷◌, get_or, set, take, replicate, mod-lt, arith}
use lib.Bits.{bit_xor}
use Rattle.second.specs.Working.Loops.{Below, written}
use Rattle.second.specs.Working.Lines.{like}
use Rattle.second.specs.Working.Arrays.{place_of, taken_line, with_line}
use Rattle.second.specs.Working.Encoding.{first_of, remainder_of, checked_line, encoded_line, encoded_to}

-- one number written
pub below_set : (l : List ℕ) (k x b : ℕ) → Below b l → x < b → Below b (set l k x)
below_set [] k x b h p i = h i
below_set (y ∷ ys) zero x b h p zero = p
below_set (y ∷ ys) zero x b h p (suc i) = h (suc i)
below_set (y ∷ ys) (suc k) x b h p zero = h 0
below_set (y ∷ ys) (suc k) x b h p (suc i) = below_set ys k x b (λ j. h (suc j)) p i

-- zeros
pub below_zeros : (n b : ℕ) → 0 < b → Below b (replicate n 0)
below_zeros zero b h i = h
below_zeros (suc n) b h zero = h
below_zeros (suc n) b h (suc i) = below_zeros n b h i

-- a bit is a cell
pub below_more : (l : List ℕ) → Below 2 l → Below 3 l
below_more l h i = let p : get_or l i 0 < 2 = h i in omega arith

-- a flipped bit is a bit
pub flipped_bit : (x : ℕ) → x < 2 → bit_xor x 1 < 2
flipped_bit zero h = omega arith
flipped_bit (suc zero) h = omega arith
flipped_bit (suc (suc x)) h = absurd (omega arith)

-- many numbers written
pub below_written : (p g : ℕ → ℕ) (k b : ℕ) (m : List ℕ) → ((i : ℕ) → g i < b) → Below b m → Below b (written p g k m)
unfolding written
below_written p g zero b m h l = l
below_written p g (suc k) b m h l = below_set (written p g k m) (p k) (g k) b (below_written p g k b m h l) (h k)

-- a line taken
pub below_taken : (n i b : ℕ) (cells : List ℕ) → 0 < b → Below b cells → Below b (taken_line n i cells)
unfolding taken_line
below_taken n i b cells z h =
    below_written (λ j. j) (λ j. get_or cells (place_of n i j) 0) n b (replicate 128 0) (λ j. h (place_of n i j)) (below_zeros 128 b z)

-- a line put
pub below_with : (n i b : ℕ) (line cells : List ℕ) → Below b line → Below b cells → Below b (with_line n i line cells)
unfolding with_line
below_with n i b line cells h l = below_written (place_of n i) (λ j. get_or line j 0) n b cells h l

-- an encoded line
pub below_line : (n : ℕ) (line : List ℕ) → Below 2 line → Below 2 (encoded_line n line)
unfolding encoded_line
below_line n line h =
    let z : 0 < 2 = omega arith in
    let checks = remainder_of n line (n - 1) in
    let checked = checked_line n checks line in
    below_set checked (n - 1) (like 1 (take (n - 1) checked) % 2) 2
    (below_written (λ i. i) (λ i. checks / 2 ^ i % 2) (first_of n) 2 line (λ i. mod-lt (checks / 2 ^ i) z) h)
    (mod-lt (like 1 (take (n - 1) checked)) z)

-- an array of encoded lines
pub below_lines : (n k : ℕ) (cells : List ℕ) → Below 2 cells → Below 2 (encoded_to n k cells)
unfolding encoded_to
below_lines n zero cells h = h
below_lines n (suc k) cells h =
    let before = below_lines n k cells h in
    below_with n k 2 (encoded_line n (taken_line n k (encoded_to n k cells))) (encoded_to n k cells)
    (below_line n (taken_line n k (encoded_to n k cells)) (below_taken n k 2 (encoded_to n k cells) (omega arith) before)) before
