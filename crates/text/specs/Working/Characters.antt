-- One byte of a text, and the filling words of `sheet`, by names of their own.
use Rattle.std.specs.Prelude.{Bool, cond, not, ◌||◌, List, ℕ, ◌+◌, ◌*◌, ◌%◌, eqb, replicate}
use Rattle.degree.specs.declared.Degree.{Degree}
use Rattle.degree.specs.Degree.{size}

-- byte p is a newline exactly if it is the last of a line of n cells and a newline
abbrev pub placed : ℕ → ℕ → ℕ → Bool
placed n p b = cond (eqb (p % (n + 1)) n) (eqb b 10) (not (eqb b 10))

-- a newline, or the character of a cell
abbrev pub is_known : ℕ → Bool
is_known b = eqb b 10 || (eqb b 48 || (eqb b 49 || eqb b 63))

-- 2 n filling words of zero
abbrev pub zeros : Degree → List ℕ
zeros d = replicate (2 * size d) 0
