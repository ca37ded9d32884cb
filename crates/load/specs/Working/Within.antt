-- Places that lie in a sheet.
use Rattle.std.specs.Prelude.{ℕ, ◌<◌, List, length}
use Rattle.line.specs.Cells.{cell}

-- each of some places is below m
abbrev pub Within : (m : ℕ) (places : List ℕ) → Type 0
Within m places = (i : ℕ) → i < length places → cell places i < m
