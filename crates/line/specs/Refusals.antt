-- When a call is turned down. Document 01: tests run in number order; the first that applies is returned with count 0, and
-- every lent cell keeps its value. An entry omits a test for something it isn't given.
use Rattle.std.specs.Prelude.{Bool, true, false, cond, not, ◌&&◌, ◌||◌, List, [], ◌∷◌, ℕ, ◌^◌, eqb, leb, length, Option, None, Some, Result, Ok, Err}
use Rattle.degree.specs.declared.Degree.{Degree}
use Rattle.degree.specs.Degree.{named}
use Rattle.line.specs.declared.refusals.Refusal.{Refusal}
use Rattle.line.specs.declared.refusals.Refusal.TheVariants.{BadDegree, BadIterations, BadLength, BadCell, BadFile, BadSum, BadContent, BadSeed, TooMany}

-- the numbers of document 01's table, 1 to 4, and those that document 02 adds to it: 5 to 7, of a file, W-201, 8 and 9, of a load, W-204
abbrev pub number : Refusal → ℕ
number BadDegree = 1
number BadIterations = 2
number BadLength = 3
number BadCell = 4
number BadFile = 5
number BadSum = 6
number BadContent = 7
number BadSeed = 8
number TooMany = 9

-- the refusal number of an answer, 0 for none
abbrev pub refusal_of : {A : Type 0} → Result A Refusal → ℕ
refusal_of (Ok x) = 0
refusal_of (Err why) = number why

-- ---- one table for all entries: a test is its number and whether it applies

-- the number of the first test that applies, 0 for none
abbrev pub refusal : List (ℕ × Bool) → ℕ
refusal [] = 0
refusal (t ∷ ts) = cond t.1 t.0 (refusal ts)

-- what is asked for where no test applies, else what a refused call gives
abbrev pub unless_refused : {A : Type 0} → List (ℕ × Bool) → (asked refused : A) → A
unless_refused tests asked refused = cond (eqb (refusal tests) 0) asked refused

-- what is asked for at the degree that a number names, else the other
abbrev pub at_degree : {A : Type 0} → Option Degree → (asked : Degree → A) (other : A) → A
at_degree (Some d) asked other = asked d
at_degree None asked other = other

-- what a call gives: what is asked for at its degree where no test applies, else what a refused call gives
unfoldable pub given : {A : Type 0} → (degree : ℕ) → List (ℕ × Bool) → (asked : Degree → A) (refused : A) → A
given degree tests asked refused = unless_refused tests (at_degree (named degree) asked refused) refused

-- ---- the conditions

-- 1: degree not 4, 6 or 7
abbrev pub unnamed : ℕ → Bool
unnamed degree = at_degree (named degree) (λ d. false) true

-- 3: a lent slice not of the exact length
abbrev pub misfit : (has asked : ℕ) → Bool
misfit has asked = not (eqb has asked)

-- one of several conditions
abbrev pub some : List Bool → Bool
some [] = false
some (b ∷ bs) = b || some bs

-- 4: a cell above 2 (above 1 in a message to encode or a word for bounded-distance decoding); no cell is above the bound
unfoldable pub at_most : (bound : ℕ) → List ℕ → Bool
at_most bound [] = true
at_most bound (c ∷ cs) = leb c bound && at_most bound cs

-- ---- the tests of the entries on lines. `more` says of further lent slices whether their length is wrong.

-- a call that lends one word or line of n cells, none above the bound
unfoldable pub line_tests : (bound degree : ℕ) (cells : List ℕ) (more : List Bool) → List (ℕ × Bool)
line_tests bound degree cells more =
    (1, unnamed degree)
    ∷ (3, some (misfit (length cells) (2 ^ degree) ∷ more))
    ∷ (4, not (at_most bound cells)) ∷ []

-- a call that lends an incoming and a channel line, and n cells for the messages: "old cells of a slice that is only written
-- are not tested"
unfoldable pub messages_tests : (degree : ℕ) (incoming channel messages : List ℕ) (more : List Bool) → List (ℕ × Bool)
messages_tests degree incoming channel messages more =
    (1, unnamed degree)
    ∷ (3, some (misfit (length incoming) (2 ^ degree) ∷ misfit (length channel) (2 ^ degree) ∷ misfit (length messages) (2 ^ degree) ∷ more))
    ∷ (4, not (at_most 2 incoming))
    ∷ (4, not (at_most 2 channel)) ∷ []
