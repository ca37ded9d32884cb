-- What the entries on lines promise, in numbers, by calls of degree 4: so that a promise and its code can't be changed alike. And calls for
-- messages in which each test fails, alone and with later ones.
-- Assumes nothing.
use mathlib.Core.Path.{◌≡◌, refl, ◌∙◌}
use mathlib.Core.Bool.{Bool, true, false}
use mathlib.Core.List.{List, [], ◌∷◌, map}
use Prim.Native.Nat.{ℕ, ◌+◌, ◌-◌, ◌^◌}
use lib.ListN.{replicate, set}
use Rattle.laws.specs.Digits.{sum_over, ones_in}
use Rattle.laws.specs.Searches.{first_of}
use Rattle.laws.specs.Sums.{sum_to}
use Rattle.field.specs.Field.{double, times_power}
use Rattle.std.specs.Prelude.{Option, Result}
use Rattle.line.specs.declared.refusals.Refusal.{Refusal}
use Rattle.line.specs.Cells.{erasures, distance, filled, flip}
use Rattle.line.specs.Codeword.{is_codeword}
use Rattle.line.specs.Bounded.{Answer, or_back, itself, one_flipped, two_flipped, within2, bounded, changed}
use Rattle.line.specs.Decoding.{decode}
use Rattle.line.specs.Clauses.{reach, same, agrees, by_reach, clause, count}
use Rattle.line.specs.Refusals.{refusal, given, at_most, line_tests, messages_tests}
use Rattle.line.specs.Entries.{word_numbers, line_numbers, messages_numbers, is_found, Answered, WordAnswered, BoundedDone, DecodeLineDone, MessagesDone}
use Rattle.line.proofs.Examples.{line, zeros, word_g, p3, p4, p7, p7_messages, p8_messages}

-- ---- bounded distance: refusal, found, cells changed, and the word

-- what a word's answer is promised to be
word_told : {no : ℕ} {a : Answer} {before : List ℕ} (after : List ℕ) (r : Result (Option ℕ) Refusal) → WordAnswered no a before after r
    → (word_numbers r ≡ (no, is_found a, changed before a)) × (after ≡ or_back before a)
word_told after r h = (rw (← h.answer.refusal, ← h.answer.found, ← h.changed) refl, h.answer.cells)

abbrev WordTells : (before : List ℕ) → ℕ × Bool × ℕ → (left : List ℕ) → Type 0
WordTells w n left = (after : List ℕ) (r : Result (Option ℕ) Refusal) → BoundedDone 4 w [] after r → (word_numbers r ≡ n) × (after ≡ left)

-- none to three cells of a codeword wrong, the last cell among them or not; a cell 2; a cell too few, alone and with cells 2
pub word_numbers_lem :
    WordTells zeros (0, true, 0) zeros
    × WordTells (line (4 ∷ []) []) (0, true, 1) zeros
    × WordTells (line (15 ∷ []) []) (0, true, 1) zeros
    × WordTells (line (0 ∷ 4 ∷ []) []) (0, true, 2) zeros
    × WordTells (line (0 ∷ 15 ∷ []) []) (0, true, 2) zeros
    × WordTells p3 (0, false, 0) p3
    × WordTells (line [] (4 ∷ [])) (4, false, 0) (line [] (4 ∷ []))
    × WordTells (replicate 15 0) (3, false, 0) (replicate 15 0)
    × WordTells (replicate 15 2) (3, false, 0) (replicate 15 2)
unfolding given line_tests at_most bounded within2 one_flipped two_flipped itself first_of flip is_codeword ones_in sum_over double times_power distance
word_numbers_lem = (word_told, word_told, word_told, word_told, word_told, word_told, word_told, word_told, word_told)

-- ---- line decoding: refusal, found, and the line

line_told : {no : ℕ} {a : Answer} {before : List ℕ} (after : List ℕ) (r : Result Bool Refusal) → Answered no a before after (line_numbers r)
    → (line_numbers r ≡ (no, is_found a)) × (after ≡ or_back before a)
line_told after r h = (rw (← h.refusal, ← h.found) refl, h.cells)

abbrev LineTells : (before : List ℕ) (filling : ℕ) → ℕ × Bool → (left : List ℕ) → Type 0
LineTells y f n left = (after : List ℕ) (r : Result Bool Refusal) → DecodeLineDone 4 f y [] after r → (line_numbers r ≡ n) × (after ≡ left)

abbrev p6 : List ℕ
p6 = line [] (0 ∷ 4 ∷ 6 ∷ 7 ∷ 8 ∷ 15 ∷ [])

-- P4, P3 and P6; P7, P8 and P9, where the filling decides; a cell 3; a cell too many, alone and with cells 3
pub line_numbers_lem :
    LineTells p4 0 (0, true) zeros
    × LineTells p3 0 (0, false) p3
    × LineTells p6 0 (0, false) p6
    × LineTells p7 0 (0, true) zeros
    × LineTells p7 (2 ^ 6 + 2 ^ 7) (0, true) word_g
    × LineTells p7 (2 ^ 6) (0, false) p7
    × LineTells (set zeros 9 3) 0 (4, false) (set zeros 9 3)
    × LineTells (replicate 17 0) 0 (3, false) (replicate 17 0)
    × LineTells (replicate 17 3) 0 (3, false) (replicate 17 3)
unfolding given line_tests at_most decode filled erasures bounded within2 one_flipped two_flipped itself first_of flip is_codeword ones_in sum_over double times_power distance
line_numbers_lem = (line_told, line_told, line_told, line_told, line_told, line_told, line_told, line_told, line_told)

-- ---- messages: refusal, count, and the messages

messages_told : {degree filling : ℕ} {incoming channel before : List ℕ} {more : List Bool} (after : List ℕ) (r : Result ℕ Refusal) → MessagesDone degree incoming channel filling before more after r
    → messages_numbers r ≡ (refusal (messages_tests degree incoming channel before more), given degree (messages_tests degree incoming channel before more) (λ d. count (bounded d) incoming channel filling) 0)
messages_told after r h = rw (← h.refusal, ← h.count) refl

abbrev MessagesTell : (incoming channel : List ℕ) → ℕ × ℕ → Type 0
MessagesTell y r n = (after : List ℕ) (a : Result ℕ Refusal) → MessagesDone 4 y r 0 zeros [] after a → messages_numbers a ≡ n

-- P10 and P12, whose counts are 2 and 3; 16 unsure cells, where nothing is decoded; a cell 3 from the channel
pub messages_numbers_lem :
    MessagesTell (line (0 ∷ 4 ∷ []) []) p3 (0, 2)
    × MessagesTell p3 (line (0 ∷ 4 ∷ []) (6 ∷ [])) (0, 3)
    × MessagesTell (replicate 16 2) (replicate 16 2) (0, 0)
    × MessagesTell zeros (set zeros 0 3) (4, 0)
unfolding given messages_tests at_most count sum_to clause by_reach reach same agrees filled erasures bounded within2 one_flipped two_flipped itself first_of flip is_codeword ones_in sum_over double times_power distance
messages_numbers_lem = (messages_told, messages_told, messages_told, messages_told)

abbrev MessagesLeave : (incoming channel : List ℕ) (filling : ℕ) (left : List ℕ) → Type 0
MessagesLeave y r f left = (after : List ℕ) (a : Result ℕ Refusal) → MessagesDone 4 y r f (replicate 16 9) [] after a → after ≡ left

-- P7 and P8 from the same channel line, where the filling decides; a refused call leaves what stood in the place for the messages
pub messages_left :
    MessagesLeave p7 p7 0 zeros
    × MessagesLeave p7 p7 (2 ^ 6 + 2 ^ 7) word_g
    × MessagesLeave zeros (set zeros 0 3) 0 (replicate 16 9)
unfolding given messages_tests at_most
messages_left = (λ after a h. h.cells ∙ p7_messages, λ after a h. h.cells ∙ p8_messages, λ after a h. h.cells)

-- ---- the tests of a call for messages

-- so many zeros, and with a cell 3 at the end of n
abbrev blank : ℕ → List ℕ
blank n = replicate n 0

abbrev bad : ℕ → List ℕ
bad n = set (blank n) (n - 1) 3

abbrev calls : List (List (ℕ × Bool))
calls =
    -- degree 5, and then all else wrong too
    messages_tests 5 (blank 32) (blank 32) (blank 32) []
    ∷ messages_tests 5 (bad 31) (bad 31) (blank 31) (true ∷ [])
    -- each length, and then with a cell 3 behind it; a further slice of a wrong length, alone and so
    ∷ messages_tests 4 (blank 15) (blank 16) (blank 16) []
    ∷ messages_tests 4 (blank 16) (blank 17) (blank 16) []
    ∷ messages_tests 4 (blank 16) (blank 16) (blank 15) []
    ∷ messages_tests 4 (blank 16) (blank 16) (blank 16) (true ∷ [])
    ∷ messages_tests 4 (bad 15) (bad 16) (blank 16) []
    ∷ messages_tests 4 (bad 16) (bad 17) (blank 16) []
    ∷ messages_tests 4 (bad 16) (bad 16) (blank 17) []
    ∷ messages_tests 4 (bad 16) (bad 16) (blank 16) (true ∷ [])
    -- a cell 3 of the incoming line, of the channel's, of both
    ∷ messages_tests 4 (bad 16) (blank 16) (blank 16) []
    ∷ messages_tests 4 (blank 16) (bad 16) (blank 16) []
    ∷ messages_tests 4 (bad 16) (bad 16) (blank 16) []
    -- taken: cells 2, and old cells that are only written
    ∷ messages_tests 4 p4 p7 (blank 16) []
    ∷ messages_tests 4 (blank 16) (blank 16) (bad 16) (false ∷ [])
    ∷ []

pub messages_tests_lem : map refusal calls ≡ 1 ∷ 1 ∷ 3 ∷ 3 ∷ 3 ∷ 3 ∷ 3 ∷ 3 ∷ 3 ∷ 3 ∷ 4 ∷ 4 ∷ 4 ∷ 0 ∷ 0 ∷ []
unfolding messages_tests at_most
messages_tests_lem = refl
