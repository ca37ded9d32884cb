-- What counts, fillings and messages do at one cell or line, by a name of its own.
use Rattle.std.specs.Prelude.{cond, List, ℕ, eqb, take, drop}
use Rattle.degree.specs.declared.Degree.{Degree}
use Rattle.line.specs.Cells.{is_erased}
use Rattle.line.specs.Encoding.{check_size, message_size}

-- 1 for a known cell that is not the word's
abbrev pub differs : ℕ → ℕ → ℕ
differs c w = cond (is_erased c) 0 (cond (eqb c w) 0 1)

-- an unsure cell filled by a bit
abbrev pub filled_cell : ℕ → ℕ → ℕ
filled_cell c b = cond (is_erased c) b c

-- the message cells of a line
abbrev pub message_of : Degree → List ℕ → List ℕ
message_of d w = take (message_size d) (drop (check_size d) w)
