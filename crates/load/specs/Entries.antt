-- What the load promises: the refusal number, and every lent cell at exit, for taken and refused calls alike.
use Rattle.std.specs.Prelude.{◌≡◌, ℕ, ◌+◌, ◌-◌, ◌*◌, ◌^◌, ◌<◌, ◌≤◌, Bool, List, [], ◌∷◌, ◌++◌, length, take, drop, ◌==◌, nat_lt}
use Rattle.laws.specs.Bits.{bit}
use Rattle.laws.specs.Sums.{sum_to}
use Rattle.degree.specs.declared.Degree.{Degree}
use Rattle.std.specs.Prelude.{Some}
use Rattle.degree.specs.Degree.{size, named}
use Rattle.line.specs.Cells.{cell, distance, erasures, designed_distance}
use Rattle.line.specs.Refusals.{refusal, given}
use Rattle.array.specs.Arrays.{line}
use Rattle.array.specs.Encoding.{encode_array}
use Rattle.array.specs.Plain.{RowCondition}
use Rattle.array.specs.Refusals.{coding_tests}
use Rattle.load.specs.Load.{order, loaded}

-- ---- the tests: those of encode, and after 4 "8: seed 0; 9: D + E above n × n"

unfoldable pub load_tests : (degree seed wrong unsure : ℕ) (message cells : List ℕ) → List (ℕ × Bool)
load_tests degree seed wrong unsure message cells =
    let n = 2 ^ degree in
    coding_tests 1 degree message cells message ++ ((8, (seed == 0)) ∷ (9, nat_lt (n * n) (wrong + unsure)) ∷ [])

-- ---- "The shuffle holds each place a single time, so exactly D and E cells are hit."

-- how often a number stands in a list
unfoldable pub times : ℕ → List ℕ → ℕ
times p [] = 0
times p (x ∷ xs) = bit (x == p) + times p xs

-- a list of m places that holds each a single time, and nothing else
pub record EachOnce (m : ℕ) (places : List ℕ) : Type 0 where
  pub long : length places ≡ m
  pub once : (p : ℕ) → p < m → times p places ≡ 1
  pub others : (p : ℕ) → m ≤ p → times p places ≡ 0

-- how many of some places are in row i, whose n cells have the places i n to i n + n - 1
unfoldable pub in_row : (n i : ℕ) (places : List ℕ) → ℕ
in_row n i places = sum_to (λ k. times (i * n + k) places) n

-- a sheet and what became of it by damage at the first places of an order, in the terms of the decoder: the wrong bits are its
-- distance and the unsure ones its erasures, over all cells and in each row
pub record Hit (d : Degree) (wrong unsure : ℕ) (places sheet after : List ℕ) : Type 0 where
  pub inverted : (i : ℕ) → i < wrong → cell after (cell places i) ≡ 1 - cell sheet (cell places i)
  pub erased : (i : ℕ) → wrong ≤ i → i < wrong + unsure → cell after (cell places i) ≡ 2
  pub own : (i : ℕ) → wrong + unsure ≤ i → i < size d * size d → cell after (cell places i) ≡ cell sheet (cell places i)
  pub all_wrong : distance after sheet ≡ wrong
  pub all_unsure : erasures after ≡ unsure
  pub row_wrong : (i : ℕ) → i < size d → distance (line (size d) after i) (line (size d) sheet i) ≡ in_row (size d) i (take wrong places)
  pub row_unsure : (i : ℕ) → i < size d → erasures (line (size d) after i) ≡ in_row (size d) i (take unsure (drop wrong places))
  -- so few that each row is as near to the sheet as decoding asks
  pub near : 2 * wrong + unsure < designed_distance → RowCondition d after sheet

-- ---- the promise

pub record Loaded (degree seed wrong unsure : ℕ) (message before after : List ℕ) (no : ℕ) : Type 0 where
  pub refusal : no ≡ refusal (load_tests degree seed wrong unsure message before)
  pub cells : after ≡ given degree (load_tests degree seed wrong unsure message before) (λ d. loaded d seed wrong unsure message) before
  pub places : (d : Degree) → EachOnce (size d * size d) (order (size d * size d) seed)
  -- of a call that is taken
  pub hit : (d : Degree) → no ≡ 0 → named degree ≡ Some d → Hit d wrong unsure (order (size d * size d) seed) (encode_array d message) after
