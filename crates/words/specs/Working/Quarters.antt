-- The four quarters of 128 by 128 bits, as the low and the high numbers of a grid's words hold them. Only this file, the file on grids
-- and the code's `word` with the modules below it know how.
use Rattle.std.specs.Prelude.{List, ℕ, ◌^◌, ◌<◌, get_or, take, drop}
use Rattle.words.specs.Working.Network.{Turned}

-- all numbers fit the machine's
abbrev pub Small : List ℕ → Type 0
Small g = (i : ℕ) → get_or g i 0 < 2 ^ 64

-- each quarter transposed, and the two off the diagonal in each other's place
pub record Quarters (low high low' high' : List ℕ) : Type 0 where
  pub first : Turned (take 64 low) (take 64 low')
  pub below : Turned (take 64 high) (drop 64 low')
  pub right : Turned (drop 64 low) (take 64 high')
  pub last : Turned (drop 64 high) (drop 64 high')
