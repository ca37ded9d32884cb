-- What the entries on arrays promise: the answer in document 01's numbers, and every lent cell at exit, for taken and refused
-- calls alike. Of a refused call "every lent cell keeps its value", "closed is no, and the unsure cells and any further number
-- reported are 0".
use Rattle.std.specs.Prelude.{◌≡◌, Bool, true, false, List, [], ℕ, ◌+◌, ◌*◌, ◌^◌, ◌≤◌, Some, Result, Ok, Err}
use Rattle.degree.specs.declared.Degree.{Degree}
use Rattle.degree.specs.Degree.{size, named}
use Rattle.line.specs.Cells.{erasures as erasures_in}
use Rattle.line.specs.Refusals.{number, refusal, given}
use Rattle.line.specs.declared.refusals.Refusal.{Refusal}
use Rattle.array.specs.declared.report.Report.{Report}
use Rattle.array.specs.Arrays.{line}
use Rattle.array.specs.Encoding.{encode_array, extracted, OneArray, SentArray}
use Rattle.array.specs.Plain.{fillings, plain, plain_count, closed as closed_in, RowCondition}
use Rattle.array.specs.Refusals.{coding_tests, row_tests, decode_tests}

-- ---- encode, extract and the look-up of a row: by the refusal number of the answer, 0 for none

pub record Encoded (degree : ℕ) (message before after : List ℕ) (no : ℕ) : Type 0 where
  pub refusal : no ≡ refusal (coding_tests 1 degree message before message)
  pub cells : after ≡ given degree (coding_tests 1 degree message before message) (λ d. encode_array d message) before
  -- demand 2, of a call that is taken
  pub one : (d : Degree) → no ≡ 0 → named degree ≡ Some d → OneArray d message after

pub record Extracted (degree : ℕ) (cells before after : List ℕ) (no : ℕ) : Type 0 where
  pub refusal : no ≡ refusal (coding_tests 2 degree before cells cells)
  pub message : after ≡ given degree (coding_tests 2 degree before cells cells) (λ d. extracted d cells) before

abbrev pub row_refusal : (degree : ℕ) (cells : List ℕ) (index : ℕ) → ℕ
row_refusal degree cells index = refusal (row_tests degree cells index [])

-- "every refused look-up gives an empty part"
abbrev pub row_part : (degree : ℕ) (cells : List ℕ) (index : ℕ) → List ℕ
row_part degree cells index = given degree (row_tests degree cells index []) (λ d. line (size d) cells index) []

-- ---- the answer of decode in document 01's numbers: the refusal, 0 for none; the count; the unsure cells; closed

abbrev pub decode_numbers : Result Report Refusal → ℕ × ℕ × ℕ × Bool
decode_numbers (Err why) = (number why, 0, 0, false)
decode_numbers (Ok t) = (0, t.count, t.erasures, t.closed)

-- ---- decode: the plain decoding of the received array r by l iterations with the filling words that w lends. "A refused call makes
-- no step of it."

pub record DecodeDone (degree l : ℕ) (r w before : List ℕ) (more : List Bool) (after : List ℕ) (a : Result Report Refusal) : Type 0 where
  pub refusal : (decode_numbers a).0 ≡ refusal (decode_tests degree l r w before more)
  pub count : (decode_numbers a).1 ≡ given degree (decode_tests degree l r w before more) (λ d. plain_count d l r r (fillings w)) 0
  -- "at most n + 2 a line", of 2 l n lines
  pub most : (decode_numbers a).1 ≤ 2 * l * 2 ^ degree * (2 ^ degree + 2)
  pub erasures : (decode_numbers a).2 ≡ given degree (decode_tests degree l r w before more) (λ d. erasures_in (plain d l r r (fillings w))) 0
  pub closed : (decode_numbers a).3 ≡ given degree (decode_tests degree l r w before more) (λ d. closed_in d (plain d l r r (fillings w))) false
  pub cells : after ≡ given degree (decode_tests degree l r w before more) (λ d. plain d l r r (fillings w)) before
  -- demand 3, last sentence: for every sent array s near which each received row is, the cells left are those of s, and closed
  pub sent : (d : Degree) (s : List ℕ) → (decode_numbers a).0 ≡ 0 → named degree ≡ Some d → SentArray d s → RowCondition d r s → (after ≡ s) × ((decode_numbers a).3 ≡ true)
