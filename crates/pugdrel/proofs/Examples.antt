-- What the calls promise, by examples: of literal input the number that is returned and the report, number for number. They speak of the
-- promises themselves and not of the laws between, so that a promise of another number, or of the same numbers in another order, is refused
-- here, even where the code and its proof were changed with it. The examples of `pugdrel_decode` are in DecodeExamples.
-- Assumes nothing.
use mathlib.Core.Path.{◌≡◌, refl, sym, ap, ◌∙◌}
use mathlib.Core.Bool.{Bool, false}
use mathlib.Core.List.{List, [], ◌∷◌, ◌++◌, map}
use Prim.Native.Nat.{ℕ}
use native.Mathlib.Omega.{arith}
use lib.ListN.{length, replicate, set}
use Rattle.std.specs.Prelude.{Result}
use Rattle.line.specs.declared.refusals.Refusal.{Refusal}
use Rattle.line.specs.Refusals.{refusal, given, misfit, at_most, line_tests, messages_tests}
use Rattle.line.specs.Entries.{MessagesDone}
use Rattle.line.proofs.Examples.{line, zeros}
use Rattle.line.proofs.PromiseExamples.{word_numbers_lem, line_numbers_lem, messages_numbers_lem}
use Rattle.array.specs.Refusals.{row_tests}
use Rattle.text.specs.Text.{sheet_tests, decimal_digits, decimal, number_text, numbers_text, refusal_text, printed}
use Rattle.blocks.specs.Blocks.{is_file, formed, fletcher, summed, unpacked, sound}
use Rattle.blocks.specs.Entries.{read_tests}
use Rattle.pugdrel.specs.Reports.{told, Told}
use Rattle.pugdrel.specs.ArrayCalls.{RowTold}
use Rattle.pugdrel.specs.LineCalls.{BoundedTold, DecodeLineTold, MessagesTold}
use Rattle.pugdrel.specs.SheetCall.{sheet_call, SheetTold}
use Rattle.pugdrel.specs.FileCalls.{ReadTold}
use Rattle.pugdrel.proofs.Reporting.{told_new, told_old}

-- ---- what a promise tells

-- it leaves no other number and no other report
abbrev pub Tells : (promise : List ℕ → ℕ → Type 0) (number : ℕ) (report : List ℕ) → Type 0
Tells promise number report = (new : List ℕ) (n : ℕ) → promise new n → (n ≡ number) × (new ≡ report)

module _ {A : Type 0} {k : ℕ} {refusal_of : A → ℕ} {numbers_of : A → List ℕ} {Done : List Bool → A → Type 0} {old : List ℕ} {number : ℕ} where
  -- the numbers that every answer of the entry below has, in a report of their length
  pub fitting : {numbers : List ℕ} → length old ≡ length numbers
      → ((a : A) → Done (misfit (length old) k ∷ []) a → (refusal_of a ≡ number) × (numbers_of a ≡ numbers))
      → Tells (Told A k refusal_of numbers_of Done old) number numbers
  fitting {numbers} l all new n t =
      let e = all t.answer t.done in
      (t.refusal ∙ e.0, t.report ∙ ap (λ (x : List ℕ). told x old) e.1 ∙ sym (told_new numbers old l))

  -- the old ones, in a report of another length
  pub unfitting : ((a : A) → Done (misfit (length old) k ∷ []) a → (refusal_of a ≡ number) × (length old ≡ length (numbers_of a) → ⊥))
      → Tells (Told A k refusal_of numbers_of Done old) number old
  unfitting all new n t =
      let e = all t.answer t.done in
      (t.refusal ∙ e.0, t.report ∙ sym (told_old (numbers_of t.answer) old e.1))

-- what stands in a report before the call, by its length
abbrev pub nines : ℕ → List ℕ
nines n = replicate n 9

-- and in a slice that is only written
abbrev pub sevens : ℕ → List ℕ
sevens n = replicate n 7

-- ---- the look-up of a row: where it starts, and its length

pub rows :
    -- row 3; row 16 of 0 to 15; a report of three numbers
    Tells (RowTold 4 (replicate 256 0) 3 (nines 2)) 0 (48 ∷ 16 ∷ [])
    × Tells (RowTold 4 (replicate 256 0) 16 (nines 2)) 3 (0 ∷ 0 ∷ [])
    × Tells (RowTold 4 (replicate 256 0) 3 (nines 3)) 3 (nines 3)
unfolding row_tests given at_most
rows = (
  λ new n t. (t.refusal, t.report),
  λ new n t. (t.refusal, t.report),
  λ new n t. (t.refusal, t.report),
)

-- ---- the text form: the length of what is printed

-- lengths that are right; an output one byte short, one too long, of no byte; a report of no number, of two; both wrong
pub sheet_tests_lem : map refusal
    (sheet_call (sevens 16596) (nines 1)
    ∷ sheet_call (sevens 16595) (nines 1) ∷ sheet_call (sevens 16597) (nines 1) ∷ sheet_call [] (nines 1)
    ∷ sheet_call (sevens 16596) [] ∷ sheet_call (sevens 16596) (nines 2)
    ∷ sheet_call (sevens 16595) [] ∷ [])
    ≡ 0 ∷ 3 ∷ 3 ∷ 3 ∷ 3 ∷ 3 ∷ 3 ∷ []
unfolding sheet_call
sheet_tests_lem = refl

-- what the call leaves: its number, every byte of the output, and the report
abbrev Leaves : (input before old : List ℕ) (number : ℕ) (bytes report : List ℕ) → Type 0
Leaves input before old number bytes report =
    (after new : List ℕ) (n : ℕ) → SheetTold input before after old new n → (n ≡ number) × (after ≡ bytes) × (new ≡ report)

pub sheets : (input : List ℕ)
    -- an input of no byte: the call is taken, and what is printed is "1 0 0 0"
    → Leaves [] (sevens 16596) (nines 1) 0 (49 ∷ 32 ∷ 48 ∷ 32 ∷ 48 ∷ 32 ∷ 48 ∷ 10 ∷ sevens 16588) (8 ∷ [])
    -- any input: an output one byte short; a report of two numbers
    × Leaves input (sevens 16595) (nines 1) 3 (sevens 16595) (0 ∷ [])
    × Leaves input (sevens 16596) (nines 2) 3 (sevens 16596) (nines 2)
unfolding sheet_call printed given sheet_tests refusal_text numbers_text number_text decimal_digits decimal
sheets input = (
  λ after new n t. (t.refusal, t.bytes, t.report),
  λ after new n t. (t.refusal, t.bytes, t.report),
  λ after new n t. (t.refusal, t.bytes, t.report),
)

-- ---- files of the recorder: the sheet number

-- block b of a sheet of zeros with the number 4660, which is 18 and 52, and its two sums
abbrev block : (b first second : ℕ) → List ℕ
block b first second = b ∷ 6 ∷ 18 ∷ 52 ∷ (replicate 506 0 ++ (first ∷ second ∷ []))

pub files : (after : List ℕ)
    -- a good file; a file of no byte
    → Tells (ReadTold (block 0 76 57 ++ (block 1 77 57 ++ block 2 78 57)) (sevens 4096) after (nines 1)) 0 (4660 ∷ [])
    × Tells (ReadTold [] (sevens 4096) after (nines 1)) 5 (0 ∷ [])
unfolding read_tests is_file formed summed sound fletcher unpacked at_most
files after = (
  fitting refl (λ a done. (done.refusal, ap (λ (n : ℕ). n ∷ []) done.number)),
  fitting refl (λ a done. (done.refusal, ap (λ (n : ℕ). n ∷ []) done.number)),
)

-- ---- one word: found, and the cells changed

pub words : (after : List ℕ)
    -- no cell of a codeword wrong; one; two; three, and none is found
    → Tells (BoundedTold 4 zeros after (nines 2)) 0 (1 ∷ 0 ∷ [])
    × Tells (BoundedTold 4 (line (4 ∷ []) []) after (nines 2)) 0 (1 ∷ 1 ∷ [])
    × Tells (BoundedTold 4 (line (0 ∷ 4 ∷ []) []) after (nines 2)) 0 (1 ∷ 2 ∷ [])
    × Tells (BoundedTold 4 (line (0 ∷ 4 ∷ 6 ∷ []) []) after (nines 2)) 0 (0 ∷ 0 ∷ [])
    -- a cell 2; a report of one number
    × Tells (BoundedTold 4 (line [] (4 ∷ [])) after (nines 2)) 4 (0 ∷ 0 ∷ [])
    × Tells (BoundedTold 4 zeros after (nines 1)) 3 (nines 1)
unfolding line_tests
words after = (
  fitting refl (λ r done. rw (word_numbers_lem.0 after r done).0 (refl, refl)),
  fitting refl (λ r done. rw (word_numbers_lem.1 after r done).0 (refl, refl)),
  fitting refl (λ r done. rw (word_numbers_lem.3 after r done).0 (refl, refl)),
  fitting refl (λ r done. rw (word_numbers_lem.5 after r done).0 (refl, refl)),
  fitting refl (λ r done. rw (word_numbers_lem.6 after r done).0 (refl, refl)),
  unfitting (λ r done. (done.answer.refusal, λ e. omega arith)),
)

-- ---- one line: found

pub lines : (after : List ℕ)
    -- P3 of document 01: three ones, which fail; P4: five unsure cells, which are found; a cell 3
    → Tells (DecodeLineTold 4 0 (line (0 ∷ 4 ∷ 6 ∷ []) []) after (nines 1)) 0 (0 ∷ [])
    × Tells (DecodeLineTold 4 0 (line [] (0 ∷ 4 ∷ 6 ∷ 7 ∷ 8 ∷ [])) after (nines 1)) 0 (1 ∷ [])
    × Tells (DecodeLineTold 4 0 (set zeros 9 3) after (nines 1)) 4 (0 ∷ [])
unfolding line_tests
lines after = (
  fitting refl (λ r done. rw (line_numbers_lem.1 after r done).0 (refl, refl)),
  fitting refl (λ r done. rw (line_numbers_lem.0 after r done).0 (refl, refl)),
  fitting refl (λ r done. rw (line_numbers_lem.6 after r done).0 (refl, refl)),
)

-- ---- the messages of a line: the count

-- a report that fits is a length the more, and changes no test
no_more : {degree filling : ℕ} {y r s after : List ℕ} {a : Result ℕ Refusal} → MessagesDone degree y r filling s (false ∷ []) after a → MessagesDone degree y r filling s [] after a
unfolding messages_tests
no_more done = record { refusal = done.refusal; count = done.count; most = done.most; cells = done.cells }

pub messages : (after : List ℕ)
    -- P10; P12; a channel cell 3
    → Tells (MessagesTold 4 (line (0 ∷ 4 ∷ []) []) (line (0 ∷ 4 ∷ 6 ∷ []) []) 0 zeros after (nines 1)) 0 (2 ∷ [])
    × Tells (MessagesTold 4 (line (0 ∷ 4 ∷ 6 ∷ []) []) (line (0 ∷ 4 ∷ []) (6 ∷ [])) 0 zeros after (nines 1)) 0 (3 ∷ [])
    × Tells (MessagesTold 4 zeros (set zeros 0 3) 0 zeros after (nines 1)) 4 (0 ∷ [])
messages after = (
  fitting refl (λ a done. rw (messages_numbers_lem.0 after a (no_more done)) (refl, refl)),
  fitting refl (λ a done. rw (messages_numbers_lem.1 after a (no_more done)) (refl, refl)),
  fitting refl (λ a done. rw (messages_numbers_lem.3 after a (no_more done)) (refl, refl)),
)
