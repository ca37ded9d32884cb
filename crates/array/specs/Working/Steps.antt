-- What the steps of a decoding say of arrays and of their packed rows. They serve the decoder; its contract names none of these.
use Rattle.std.specs.Prelude.{◌≡◌, List, ℕ, ◌*◌}
use Rattle.degree.specs.declared.Degree.{Degree}
use Rattle.degree.specs.Degree.{size}
use Rattle.line.specs.Working.Packed.{IsLine}
use Rattle.array.specs.declared.packing.PackedRows.{PackedRows}
use Rattle.array.specs.Working.PackedRows.{Held}

-- n by n cells, which are 0, 1 or 2
abbrev pub IsArray : Degree → List ℕ → Type 0
IsArray d m = IsLine (size d * size d) m

-- a half, or iterations, that are to leave an array and to count to a total: the cells `after`, their packed rows and the count
pub record StepDone (n : ℕ) (array : List ℕ) (total : ℕ) (after : List ℕ) (rows : PackedRows) (count : ℕ) : Type 0 where
  pub cells : after ≡ array
  pub held : Held n array rows
  pub sum : count ≡ total
