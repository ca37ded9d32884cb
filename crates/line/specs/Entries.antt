-- What the entries of this crate promise: the answer in document 01's numbers, and every lent cell at exit, for taken and
-- refused calls alike.
use Rattle.std.specs.Prelude.{◌≡◌, Bool, true, false, List, ℕ, ◌+◌, ◌^◌, ◌≤◌, Option, None, Some, Result, Ok, Err}
use Rattle.line.specs.declared.refusals.Refusal.{Refusal}
use Rattle.line.specs.Bounded.{Answer, Found, Failed, or_back, bounded, changed}
use Rattle.line.specs.Decoding.{decode, messages}
use Rattle.line.specs.Clauses.{count as count_by}
use Rattle.line.specs.Refusals.{number, refusal, given, line_tests, messages_tests}

-- ---- the answers in document 01's numbers

-- the refusal, 0 for none; found; the cells changed
abbrev pub word_numbers : Result (Option ℕ) Refusal → ℕ × Bool × ℕ
word_numbers (Err why) = (number why, false, 0)
word_numbers (Ok None) = (0, false, 0)
word_numbers (Ok (Some n)) = (0, true, n)

-- the refusal, 0 for none; found
abbrev pub line_numbers : Result Bool Refusal → ℕ × Bool
line_numbers (Err why) = (number why, false)
line_numbers (Ok found) = (0, found)

abbrev pub is_found : Answer → Bool
is_found (Found c) = true
is_found Failed = false

-- the refusal, 0 for none; the count
abbrev pub messages_numbers : Result ℕ Refusal → ℕ × ℕ
messages_numbers (Err why) = (number why, 0)
messages_numbers (Ok n) = (0, n)

-- ---- the promises. `more` says of further lent slices whether their length is wrong; the entries here have none.

-- an answer to a line or word, by its refusal and whether it is found, and the cells: "a failed word is given back as it came", and so
-- is a refused one
pub record Answered (no : ℕ) (a : Answer) (before after : List ℕ) (told : ℕ × Bool) : Type 0 where
  pub refusal : told.0 ≡ no
  pub found : told.1 ≡ is_found a
  pub cells : after ≡ or_back before a

-- an answer to a word, and how many cells it changed
pub record WordAnswered (no : ℕ) (a : Answer) (before after : List ℕ) (r : Result (Option ℕ) Refusal) : Type 0 where
  pub answer : Answered no a before after ((word_numbers r).0, (word_numbers r).1)
  pub changed : (word_numbers r).2 ≡ changed before a

-- bounded-distance decoding of a word, whose cells are 0 or 1: "the one codeword within 2 of a full word. It fails exactly if
-- no codeword lies within 2." A refused call finds nothing and changes nothing.
abbrev pub BoundedDone : (degree : ℕ) (before : List ℕ) (more : List Bool) (after : List ℕ) → Result (Option ℕ) Refusal → Type 0
BoundedDone degree before more after =
    let tests = line_tests 1 degree before more in
    WordAnswered (refusal tests) (given degree tests (λ d. bounded d before) Failed) before after

-- decoding of a line, whose cells are 0, 1 or 2: "with 6 or more unsure cells it fails. Otherwise both words are decoded."
abbrev pub DecodeLineDone : (degree filling : ℕ) (before : List ℕ) (more : List Bool) (after : List ℕ) → Result Bool Refusal → Type 0
DecodeLineDone degree filling before more after r =
    let tests = line_tests 2 degree before more in
    Answered (refusal tests) (given degree tests (λ d. decode (bounded d) before filling) Failed) before after (line_numbers r)

-- the messages of a line, and its count; a refused call sends nothing and counts nothing
pub record MessagesDone (degree : ℕ) (incoming channel : List ℕ) (filling : ℕ) (before : List ℕ) (more : List Bool) (after : List ℕ) (r : Result ℕ Refusal) : Type 0 where
  pub refusal : (messages_numbers r).0 ≡ refusal (messages_tests degree incoming channel before more)
  pub count : (messages_numbers r).1 ≡ given degree (messages_tests degree incoming channel before more) (λ d. count_by (bounded d) incoming channel filling) 0
  -- "at most n + 2 a line"
  pub most : (messages_numbers r).1 ≤ 2 ^ degree + 2
  pub cells : after ≡ given degree (messages_tests degree incoming channel before more) (λ d. messages (bounded d) incoming channel filling) before
