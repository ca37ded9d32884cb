-- The check sums of a list of cells as one value.
use Rattle.std.specs.Prelude.{◌≡◌, List, ℕ}
use Rattle.degree.specs.declared.Degree.{Degree}
use Rattle.field.specs.declared.syndrome.Syndrome.{Syndrome}
use Rattle.field.specs.Syndrome as sums

-- r holds the three check sums
pub record IsSyndrome (d : Degree) (cells : List ℕ) (r : Syndrome) : Type 0 where
  pub s1 : r.s1 ≡ sums.s1 d cells
  pub s3 : r.s3 ≡ sums.s3 d cells
  pub parity : r.parity ≡ sums.parity d cells
