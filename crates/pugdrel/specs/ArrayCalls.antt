-- The calls of an array: their promises are those of the entries below with the report among the lengths, for taken and refused calls
-- alike. Encode and extract have no report, and promise what the entries below do.
use Rattle.std.specs.Prelude.{◌≡◌, Bool, List, [], ◌∷◌, ℕ, ◌*◌, length, Result}
use Rattle.laws.specs.Bits.{bit}
use Rattle.degree.specs.Degree.{size}
use Rattle.line.specs.Refusals.{refusal, given, misfit}
use Rattle.line.specs.declared.refusals.Refusal.{Refusal}
use Rattle.array.specs.declared.report.Report.{Report}
use Rattle.array.specs.Refusals.{row_tests}
use Rattle.array.specs.Entries.{decode_numbers, DecodeDone}
use Rattle.pugdrel.specs.Reports.{told, Told}

-- ---- decode, with l iterations, received array r, filling words w

-- a report of 3 numbers: the count, the unsure cells and closed
abbrev pub DecodeTold : (degree l : ℕ) (r w before after old new : List ℕ) (number : ℕ) → Type 0
DecodeTold degree l r w before after =
    Told (Result Report Refusal) 3 (λ a. (decode_numbers a).0) (λ a. (decode_numbers a).1 ∷ (decode_numbers a).2 ∷ bit (decode_numbers a).3 ∷ []) (λ more. DecodeDone degree l r w before more after)

-- ---- the look-up of a row

-- the tests, with a report of 2 numbers among the lengths
abbrev pub row_call : (degree : ℕ) (cells : List ℕ) (index : ℕ) (report : List ℕ) → List (ℕ × Bool)
row_call degree cells index report = row_tests degree cells index (misfit (length report) 2 ∷ [])

-- where the row starts, and its length; "every refused look-up gives an empty part", and its start is told as 0
pub record RowTold (degree : ℕ) (cells : List ℕ) (index : ℕ) (old new : List ℕ) (number : ℕ) : Type 0 where
  pub refusal : number ≡ refusal (row_call degree cells index old)
  pub report : new ≡ told (given degree (row_call degree cells index old) (λ d. index * size d) 0 ∷ given degree (row_call degree cells index old) size 0 ∷ []) old
