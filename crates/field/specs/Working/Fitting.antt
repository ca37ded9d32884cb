-- When positions fit two check sums. The search for them and the laws on it are put in these words; what `locate` promises is
-- `located`, and nothing here has to be believed to read it.
use Rattle.std.specs.Prelude.{◌≡◌, ◌⊎◌, Option, None, Some, ℕ, ◌*◌, ◌<◌}
use Rattle.degree.specs.declared.Degree.{Degree}
use Rattle.field.specs.declared.locate.Positions.{Positions}
use Rattle.field.specs.declared.locate.Positions.TheVariants.{Zero, One, Two, Unfit}
use Rattle.degree.specs.Degree.{order}
use Rattle.field.specs.Field.{power}
use Rattle.field.specs.Working.Positions.{total}

-- a set of positions below n, the lower one first
abbrev pub Within : ℕ → Positions → Type 0
Within n Zero = Unit {0}
Within n (One i) = i < n
Within n (Two i j) = (i < j) × (j < n)
Within n Unfit = ⊥

-- positions below n - 1 whose powers add up to s1 and whose cubes add up to s3
pub record Fits (d : Degree) (s1 s3 : ℕ) (p : Positions) : Type 0 where
  pub within : Within (order d) p
  pub sum1 : total (λ i. power d i) p ≡ s1
  pub sum3 : total (λ i. power d (3 * i)) p ≡ s3

-- r are two positions that fit, one of them i, in either order; or none that fit have i as the lower one
abbrev pub Paired : Degree → (s1 s3 i : ℕ) → Option Positions → Type 0
Paired d s1 s3 i (Some p) = (j : ℕ) × (p ≡ Two i j) × (Fits d s1 s3 (Two i j) ⊎ Fits d s1 s3 (Two j i))
Paired d s1 s3 i None = (j : ℕ) → ¬ (Fits d s1 s3 (Two i j))
