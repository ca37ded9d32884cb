-- The calls of one word or line: their promises are those of the entries below with a report among the lengths, for taken and
-- refused calls alike.
use Rattle.std.specs.Prelude.{Bool, List, [], ◌∷◌, ℕ, Option, Result}
use Rattle.laws.specs.Bits.{bit}
use Rattle.line.specs.declared.refusals.Refusal.{Refusal}
use Rattle.line.specs.Entries.{word_numbers, BoundedDone, line_numbers, DecodeLineDone, messages_numbers, MessagesDone}
use Rattle.pugdrel.specs.Reports.{Told}

-- a word: found, and the cells changed
abbrev pub BoundedTold : (degree : ℕ) (before after old new : List ℕ) (number : ℕ) → Type 0
BoundedTold degree before after =
    Told (Result (Option ℕ) Refusal) 2 (λ a. (word_numbers a).0) (λ a. bit (word_numbers a).1 ∷ (word_numbers a).2 ∷ []) (λ more. BoundedDone degree before more after)

-- a line: found
abbrev pub DecodeLineTold : (degree filling : ℕ) (before after old new : List ℕ) (number : ℕ) → Type 0
DecodeLineTold degree filling before after =
    Told (Result Bool Refusal) 1 (λ a. (line_numbers a).0) (λ a. bit (line_numbers a).1 ∷ []) (λ more. DecodeLineDone degree filling before more after)

-- the messages of a line: the count
abbrev pub MessagesTold : (degree : ℕ) (incoming channel : List ℕ) (filling : ℕ) (before after old new : List ℕ) (number : ℕ) → Type 0
MessagesTold degree incoming channel filling before after =
    Told (Result ℕ Refusal) 1 (λ a. (messages_numbers a).0) (λ a. (messages_numbers a).1 ∷ []) (λ more. MessagesDone degree incoming channel filling before more after)
