-- Encoding by division by the generator polynomial, a step a turn.
use Rattle.std.specs.Prelude.{ℕ, zero, suc, ◌+◌, ◌-◌, ◌*◌, ◌/◌, ◌%◌, ◌^◌, cond, List, take, bit_xor, nat_lt, slice_index, slice_set}
use Rattle.second.specs.Working.Loops.{written}
use Rattle.second.specs.Working.Codes.{degree_of, generator_of}
use Rattle.second.specs.Working.Lines.{like}
use Rattle.second.specs.Working.Arrays.{taken_line, with_line}

-- 2v
abbrev pub first_of : (n : ℕ) → ℕ
first_of n = 2 * degree_of n

-- one step of the division: n times n stands for x^(2v)
abbrev pub divided : (n rest coefficient : ℕ) → ℕ
divided n rest coefficient =
    cond (nat_lt (2 * rest + coefficient) (n * n)) (2 * rest + coefficient) (bit_xor (2 * rest + coefficient) (generator_of n) % 16384)

-- the coefficient of x^i: cell i, or 0 for a check cell
abbrev pub coefficient_of : (n i : ℕ) (line : List ℕ) → ℕ
coefficient_of n i line = cond (nat_lt i (first_of n)) 0 (slice_index line i)

-- the rest after j steps, from coefficient n - 2 down
unfoldable pub remainder_of : (n : ℕ) (line : List ℕ) → ℕ → ℕ
remainder_of n line zero = 0
remainder_of n line (suc j) = divided n (remainder_of n line j) (coefficient_of n (n - 1 - 1 - j) line)

-- bit i of a number in check cell i
abbrev pub checked_line : (n checks : ℕ) (line : List ℕ) → List ℕ
checked_line n checks line = written (λ i. i) (λ i. checks / 2 ^ i % 2) (first_of n) line

unfoldable pub encoded_line : (n : ℕ) (line : List ℕ) → List ℕ
encoded_line n line =
    let checked = checked_line n (remainder_of n line (n - 1)) line in
    slice_set checked (n - 1) (like 1 (take (n - 1) checked) % 2)

-- k lines of an array encoded one after the other
unfoldable pub encoded_to : (n k : ℕ) (cells : List ℕ) → List ℕ
encoded_to n zero cells = cells
encoded_to n (suc k) cells = with_line n k (encoded_line n (taken_line n k (encoded_to n k cells))) (encoded_to n k cells)

-- k
abbrev pub message_cells : (n : ℕ) → ℕ
message_cells n = n - 1 - first_of n

-- k by k
abbrev pub message_area : (n : ℕ) → ℕ
message_area n = message_cells n * message_cells n

-- the place of message cell p in its array
abbrev pub message_place : (n p : ℕ) → ℕ
message_place n p = ((first_of n + p / message_cells n) * n + (first_of n + p % message_cells n)) % 16384
