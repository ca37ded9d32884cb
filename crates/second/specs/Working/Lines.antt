-- Counts over the cells of a line.
use Rattle.std.specs.Prelude.{ℕ, Bool, cond, not, ◌&&◌, List, ◌==◌, slice_index, count_by}
use Rattle.std.specs.List.{zip}

abbrev pub one_where : Bool → ℕ
one_where fact = cond fact 1 0

-- 1 where a cell is like a given one
abbrev pub is_like : (cell : ℕ) (line : List ℕ) → ℕ → ℕ
is_like cell line i = one_where (slice_index line i == cell)

-- how many cells are like a given one
abbrev pub like : (cell : ℕ) (cells : List ℕ) → ℕ
like cell cells = count_by (λ x. x == cell) cells

-- in how many known cells a word differs from a line
abbrev pub differences : (line word : List ℕ) → ℕ
differences line word = count_by (λ p. not (p.0 == 2) && not (p.0 == p.1)) (zip line word)
