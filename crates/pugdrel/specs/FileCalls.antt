-- The calls of a sheet in blocks: the reader's promise is that of the entry below with a report among the lengths, for taken and refused
-- calls alike. The writer has no report, and promises what the entry below does.
use Rattle.std.specs.Prelude.{List, [], ◌∷◌, ℕ, Result}
use Rattle.line.specs.declared.refusals.Refusal.{Refusal}
use Rattle.blocks.specs.Entries.{read_numbers, ReadDone}
use Rattle.pugdrel.specs.Reports.{Told}

-- file f, read into cells: the sheet number
abbrev pub ReadTold : (f before after old new : List ℕ) (number : ℕ) → Type 0
ReadTold f before after =
    Told (Result ℕ Refusal) 1 (λ a. (read_numbers a).0) (λ a. (read_numbers a).1 ∷ []) (λ more. ReadDone f before more after)
