-- The version of the calls: a million times the first number, a thousand times the second, and the third. It is 3.2.0.
use Rattle.std.specs.Prelude.{ℕ}

abbrev pub version : ℕ
version = 3002000
