-- When a call on an array is turned down: the tests of the entries, each its number and whether it applies. Document 01: tests run
-- in number order; the first that applies is returned. Here n is 2 to the power of the degree and k is n - 1 - 2 × the degree.
-- `more` says of further lent slices whether their length is wrong.
use Rattle.std.specs.Prelude.{Bool, not, ◌||◌, List, [], ◌∷◌, ℕ, ◌-◌, ◌*◌, ◌^◌, eqb, ltb, leb, length}
use Rattle.line.specs.Refusals.{unnamed, misfit, some, at_most}

-- encode and extract: a message of k by k cells and an array of n by n cells; one of them is read, and none of its cells is above the
-- bound, the other is only written
unfoldable pub coding_tests : (bound degree : ℕ) (message cells read : List ℕ) → List (ℕ × Bool)
coding_tests bound degree message cells read =
    let n = 2 ^ degree in let k = 2 ^ degree - 1 - 2 * degree in
    (1, unnamed degree)
    ∷ (3, some (misfit (length message) (k * k) ∷ misfit (length cells) (n * n) ∷ []))
    ∷ (4, not (at_most bound read)) ∷ []

-- the look-up of a row of an array of n by n cells; "a row number of n or more is refused as 3"
unfoldable pub row_tests : (degree : ℕ) (cells : List ℕ) (index : ℕ) (more : List Bool) → List (ℕ × Bool)
row_tests degree cells index more =
    let n = 2 ^ degree in
    (1, unnamed degree)
    ∷ (3, some (misfit (length cells) (n * n) ∷ leb n index ∷ more))
    ∷ (4, not (at_most 2 cells)) ∷ []

-- decode, l iterations: n by n cells received, 2 × l × n filling words of two numbers each, and n by n cells to write, whose old values
-- are not tested
unfoldable pub decode_tests : (degree l : ℕ) (received filling cells : List ℕ) (more : List Bool) → List (ℕ × Bool)
decode_tests degree l received filling cells more =
    let n = 2 ^ degree in
    (1, unnamed degree)
    ∷ (2, eqb l 0 || ltb 20 l)
    ∷ (3, some (misfit (length received) (n * n) ∷ misfit (length filling) (4 * l * n) ∷ misfit (length cells) (n * n) ∷ more))
    ∷ (4, not (at_most 2 received)) ∷ []
