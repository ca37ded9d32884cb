-- Truth values as binary digits.
use Rattle.std.specs.Prelude.{Bool, cond, ℕ}

abbrev pub bit : Bool → ℕ
bit b = cond b 1 0
