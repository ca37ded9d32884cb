-- The message cells of a line, from the degree as a number.
use Rattle.std.specs.Prelude.{ℕ, ◌-◌, ◌*◌, ◌^◌}

-- k
abbrev pub message_cells : (degree : ℕ) → ℕ
message_cells degree = 2 ^ degree - 1 - 2 * degree
