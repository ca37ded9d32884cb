-- What the reader and the writer promise: the answer in numbers, and every lent cell or byte at exit, for taken and refused calls alike.
use Rattle.std.specs.Prelude.{◌≡◌, Bool, not, List, [], ◌∷◌, ℕ, length, Result, Ok, Err}
use Rattle.laws.specs.Tests.{every}
use Rattle.line.specs.declared.refusals.Refusal.{Refusal}
use Rattle.line.specs.Refusals.{number, refusal, unless_refused, misfit, some, at_most}
use Rattle.blocks.specs.Blocks.{file_of, sheet_number, sheet_in, is_file, summed, sound, block}

-- ---- the tests. `more` says of further lent slices whether their length is wrong.

-- reading file f into 4,096 cells, whose old values are not tested. The file's length "is never 3". "Each is tested over all blocks before
-- the next, after 4."
unfoldable pub read_tests : (f cells : List ℕ) (more : List Bool) → List (ℕ × Bool)
read_tests f cells more =
    (3, some (misfit (length cells) 4096 ∷ more))
    ∷ (5, not (is_file f))
    ∷ (6, not (every (λ b. summed (block f b)) 3))
    ∷ (7, not (every (λ b. sound (block f b) b) 3)) ∷ []

-- writing 4,096 cells to a file of 1,536 bytes, whose old values are not tested
unfoldable pub write_tests : (cells f : List ℕ) → List (ℕ × Bool)
write_tests cells f =
    (3, some (misfit (length cells) 4096 ∷ misfit (length f) 1536 ∷ []))
    ∷ (4, not (at_most 2 cells)) ∷ []

-- ---- the answer of the reader: the refusal, 0 for none; the sheet number

abbrev pub read_numbers : Result ℕ Refusal → ℕ × ℕ
read_numbers (Err why) = (number why, 0)
read_numbers (Ok s) = (0, s)

-- ---- the promises

pub record ReadDone (f before : List ℕ) (more : List Bool) (after : List ℕ) (a : Result ℕ Refusal) : Type 0 where
  pub refusal : (read_numbers a).0 ≡ refusal (read_tests f before more)
  pub number : (read_numbers a).1 ≡ unless_refused (read_tests f before more) (sheet_number f) 0
  pub cells : after ≡ unless_refused (read_tests f before more) (sheet_in f) before
  -- "writing what was read yields the file's own bytes"
  pub written : (read_numbers a).0 ≡ 0 → file_of (read_numbers a).1 after ≡ f

-- "reading what was written yields the sheet", and its number: reading file f into any 4,096 cells is not refused
abbrev pub ReadsBack : (s : ℕ) (cells f : List ℕ) → Type 0
ReadsBack s cells f =
    (old : List ℕ) → length old ≡ 4096 → (refusal (read_tests f old []) ≡ 0) × (sheet_in f ≡ cells) × (sheet_number f ≡ s)

pub record WriteDone (s : ℕ) (cells before after : List ℕ) (no : ℕ) : Type 0 where
  pub refusal : no ≡ refusal (write_tests cells before)
  pub bytes : after ≡ unless_refused (write_tests cells before) (file_of s cells) before
  pub read : no ≡ 0 → ReadsBack s cells after
