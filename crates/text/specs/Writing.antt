-- Writing into a lent slice.
use Rattle.std.specs.Prelude.{◌≡◌, List, ◌++◌, ℕ, ◌+◌, ◌≤◌, length, take, drop}

-- `text` was written into `old` from `at` on, within it: all before and after keeps its value. The next place to write is `next`.
pub record Wrote (old : List ℕ) (at : ℕ) (text new : List ℕ) (next : ℕ) : Type 0 where
  pub place : next ≡ at + length text
  pub within : next ≤ length old
  pub bytes : new ≡ take at old ++ (text ++ drop next old)
