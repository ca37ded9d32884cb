-- The numbers of a report, by names of their own.
use Rattle.std.specs.Prelude.{Bool, List, [], ◌∷◌, ℕ, eqb, length, Option, Result}
use Rattle.laws.specs.Bits.{bit}
use Rattle.line.specs.declared.refusals.Refusal.{Refusal}
use Rattle.line.specs.Entries.{word_numbers}
use Rattle.array.specs.declared.report.Report.{Report}
use Rattle.array.specs.Entries.{decode_numbers}

-- a report of n numbers
abbrev pub fits : ℕ → List ℕ → Bool
fits n report = eqb (length report) n

-- what is reported of a decoding: the count, the unsure cells, closed
abbrev pub report_numbers : Result Report Refusal → List ℕ
report_numbers a = (decode_numbers a).1 ∷ (decode_numbers a).2 ∷ bit (decode_numbers a).3 ∷ []

-- what is reported of a word: found, the cells changed
abbrev pub found_numbers : Result (Option ℕ) Refusal → List ℕ
found_numbers a = bit (word_numbers a).1 ∷ (word_numbers a).2 ∷ []
