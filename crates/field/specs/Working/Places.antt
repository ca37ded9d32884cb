-- Error positions as an entry: what it stands for, what the fixed table of entries holds, and the entry of a word.
use Rattle.std.specs.Prelude.{◌≡◌, cond, List, ℕ, ◌+◌, ◌*◌, ◌/◌, ◌%◌, ◌<◌, eqb, get_or}
use Rattle.degree.specs.declared.Degree.{Degree}
use Rattle.degree.specs.Degree.{size}
use Rattle.field.specs.declared.locate.Place.{Place}
use Rattle.field.specs.declared.locate.Positions.{Positions}
use Rattle.field.specs.declared.locate.Positions.TheVariants.{Zero, One, Two, Unfit}
use Rattle.field.specs.Syndrome as sums
use Rattle.field.specs.Working.Positions.{located, usable}

-- an entry in sections: how many positions, 3 for the mark that none fit; the second position; the first in its lowest seven binary digits
abbrev pub positions_of : ℕ → Positions
positions_of e =
    cond (eqb (e / 16384) 0) Zero
    (cond (eqb (e / 16384) 1) (One (e % 128))
    (cond (eqb (e / 16384) 2) (Two (e % 128) (e / 128 % 128)) Unfit))

-- the entry of the check sums s1 and s3, at n times s1 and s3, stands for the positions that fit them
abbrev pub Places : Degree → List ℕ → Type 0
Places d t = (s1 s3 : ℕ) → s1 < size d → s3 < size d → positions_of (get_or t (size d * s1 + s3) 0) ≡ located d s1 s3

-- r has the parity of a list of cells, and the entry of its error positions, as far as they are of use
pub record IsPlace (d : Degree) (cells : List ℕ) (r : Place) : Type 0 where
  pub parity : r.parity ≡ sums.parity d cells
  pub fits : usable (eqb r.parity 0) (positions_of r.entry) ≡ usable (eqb r.parity 0) (located d (sums.s1 d cells) (sums.s3 d cells))
