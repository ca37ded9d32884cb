-- Arrays of n by n cells, row after row: lines 0 to n - 1 are the rows, lines n to 2n - 1 the columns.
use Rattle.std.specs.Prelude.{ℕ, ◌+◌, ◌-◌, ◌*◌, Bool, cond, not, List, replicate, take, ◌==◌, nat_lt, slice_index}
use Rattle.std.specs.List.{list_all}
use Rattle.laws.specs.Sums.{sum_to}
use Rattle.second.specs.Working.Codes.{syndrome_of}
use Rattle.second.specs.Working.Lines.{one_where, like}
use Rattle.second.specs.Working.Loops.{written}

-- each cell is below a bound
abbrev pub all_below : (bound : ℕ) (cells : List ℕ) → Bool
all_below bound cells = list_all (λ x. nat_lt x bound) cells

-- the place of cell j of line i
abbrev pub place_of : (n i j : ℕ) → ℕ
place_of n i j = cond (nat_lt i n) (i * n + j) (j * n + (i - n))

-- line i, in a room of 128 cells
unfoldable pub taken_line : (n i : ℕ) (cells : List ℕ) → List ℕ
taken_line n i cells = written (λ j. j) (λ j. slice_index cells (place_of n i j)) n (replicate 128 0)

-- the array with another line i
unfoldable pub with_line : (n i : ℕ) (line cells : List ℕ) → List ℕ
with_line n i line cells = written (place_of n i) (λ j. slice_index line j) n cells

-- 1 for a line that is no codeword; the unsure cells of a row
abbrev pub is_bad : (n first : ℕ) (weights cells : List ℕ) → ℕ → ℕ
is_bad n first weights cells i = one_where (not (syndrome_of n weights (taken_line n (first + i) cells) == 0))

abbrev pub unsure_of : (n : ℕ) (cells : List ℕ) → ℕ → ℕ
unsure_of n cells i = like 2 (take n (taken_line n i cells))

-- how many of n lines from line `first` on are no codewords, and how many cells of n rows are unsure
abbrev pub bad_lines : (n first : ℕ) (weights cells : List ℕ) → ℕ
bad_lines n first weights cells = sum_to (is_bad n first weights cells) n

abbrev pub unsure_in : (n : ℕ) (cells : List ℕ) → ℕ
unsure_in n cells = sum_to (unsure_of n cells) n
