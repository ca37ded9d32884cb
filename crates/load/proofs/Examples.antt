-- Examples that tie the definitions down: draws, shuffled orders and damage by seeds, and calls with one fault and with several.
-- Assumes nothing.
use Rattle.std.proofs.Common.{◌≡◌, ℕ, zero, suc, ◌-◌, ◌^◌, Bool, List, [], ◌∷◌, map, set, replicate, refl, arith}
use Rattle.degree.specs.declared.Degree.TheVariants.{Four}
use Rattle.line.specs.Cells.{cell, distance, erasures}
use Rattle.line.specs.Decoding.{list_to}
use Rattle.line.specs.Refusals.{refusal, given, at_most}
use Rattle.array.specs.Encoding.{encode_array}
use Rattle.array.specs.Refusals.{coding_tests}
use Rattle.load.specs.Load.{start, stirred, grown, next, drawn, exchanged, shuffled, order, changed, damaged}
use Rattle.load.specs.Entries.{load_tests, Loaded}

-- ---- the shifts alone: the first number that implementations of Marsaglia's generator give for the seed of his paper

pub known_shifts : stirred 88172645463325252 ≡ 8748534153485358512
unfolding stirred
known_shifts = refl

-- ---- the first k draws, and three of seed 1, of that seed, and of the last seed

unfoldable pub draws : ℕ → ℕ × ℕ → List ℕ
draws zero q = []
draws (suc k) q = drawn (next q) ∷ draws k (next q)

pub known_draws : map (λ seed. draws 3 (start seed)) (1 ∷ 88172645463325252 ∷ (2 ^ 64 - 1) ∷ [])
    ≡ (11400714820405468246 ∷ 5507678563770698859 ∷ 8486172974983256680 ∷ [])
    ∷ (1702504899099005381 ∷ 7395586558763580869 ∷ 762653866598731535 ∷ [])
    ∷ (11400714820388559829 ∷ 5507536692276619305 ∷ 16263678242011775519 ∷ []) ∷ []
unfolding draws drawn stirred grown
known_draws = refl

-- ---- orders: one place, two, eight and sixteen

abbrev orders : List (List ℕ)
orders = order 1 1 ∷ order 2 1 ∷ order 8 1 ∷ order 8 2 ∷ order 16 (2 ^ 64 - 1) ∷ []

pub known_orders : orders
    ≡ (0 ∷ [])
    ∷ (1 ∷ 0 ∷ [])
    ∷ (1 ∷ 3 ∷ 0 ∷ 7 ∷ 2 ∷ 4 ∷ 5 ∷ 6 ∷ [])
    ∷ (4 ∷ 2 ∷ 0 ∷ 3 ∷ 6 ∷ 5 ∷ 1 ∷ 7 ∷ [])
    ∷ (12 ∷ 10 ∷ 13 ∷ 15 ∷ 3 ∷ 6 ∷ 4 ∷ 11 ∷ 8 ∷ 14 ∷ 9 ∷ 1 ∷ 2 ∷ 7 ∷ 0 ∷ 5 ∷ []) ∷ []
unfolding order list_to shuffled exchanged drawn stirred grown
known_orders = refl

-- ---- damage: of eight cells two are inverted and three made unsure

pub known_damage : damaged 2 3 (1 ∷ 3 ∷ 0 ∷ 7 ∷ 2 ∷ 4 ∷ 5 ∷ 6 ∷ []) (1 ∷ 0 ∷ 1 ∷ 1 ∷ 0 ∷ 0 ∷ 1 ∷ 0 ∷ []) ≡ 2 ∷ 1 ∷ 2 ∷ 0 ∷ 0 ∷ 0 ∷ 1 ∷ 2 ∷ []
unfolding damaged changed
known_damage = refl

-- ---- calls of degree 4: a message of 49 cells, a sheet of 256

abbrev blank : ℕ → List ℕ
blank n = replicate n 0

abbrev load4 : (seed wrong unsure : ℕ) → List (ℕ × Bool)
load4 seed wrong unsure = load_tests 4 seed wrong unsure (blank 49) (blank 256)

abbrev calls : List (List (ℕ × Bool))
calls =
    -- no fault; no cell hit; all cells hit; the last seed; old cells of the sheet are not tested
    load4 1 3 5
    ∷ load4 1 0 0
    ∷ load4 1 100 156
    ∷ load4 (2 ^ 64 - 1) 256 0
    ∷ load_tests 4 1 3 5 (blank 49) (set (blank 256) 0 9)
    -- degree 5; a message of 48 cells; a sheet of 255; a 2 in the message
    ∷ load_tests 5 1 3 5 (blank 49) (blank 256)
    ∷ load_tests 4 1 3 5 (blank 48) (blank 256)
    ∷ load_tests 4 1 3 5 (blank 49) (blank 255)
    ∷ load_tests 4 1 3 5 (set (blank 49) 48 2) (blank 256)
    -- seed 0; one cell too many; more wrong ones than there are; sums past 64 bits
    ∷ load4 0 3 5
    ∷ load4 1 100 157
    ∷ load4 1 257 0
    ∷ load4 1 (2 ^ 64 - 1) 1
    ∷ load4 1 (2 ^ 63) (2 ^ 63)
    ∷ load4 1 3 (2 ^ 64 - 1)
    -- several faults: the last two; from 4 on; from 3 on; all
    ∷ load4 0 257 0
    ∷ load_tests 4 0 257 0 (set (blank 49) 0 2) (blank 256)
    ∷ load_tests 4 0 257 0 (set (blank 48) 0 2) (blank 256)
    ∷ load_tests 8 0 (2 ^ 64 - 1) 1 (set (blank 48) 0 2) []
    -- at degree 6 there are 4,096 cells
    ∷ load_tests 6 1 4000 96 (blank 2601) (blank 4096)
    ∷ load_tests 6 1 4000 97 (blank 2601) (blank 4096)
    ∷ []

pub table : map refusal calls ≡ 0 ∷ 0 ∷ 0 ∷ 0 ∷ 0 ∷ 1 ∷ 3 ∷ 3 ∷ 4 ∷ 8 ∷ 9 ∷ 9 ∷ 9 ∷ 9 ∷ 9 ∷ 8 ∷ 4 ∷ 3 ∷ 1 ∷ 0 ∷ 9 ∷ []
unfolding load_tests coding_tests at_most
table = refl

-- ---- what the load promises, of calls of degree 4 with a message of zeros

-- what stood in the cells before
abbrev old : List ℕ
old = replicate 256 7

-- 3 cells wrong, 5 unsure
pub load_taken : (after : List ℕ) (n : ℕ) → Loaded 4 7 3 5 (blank 49) old after n
    → (n ≡ 0) × (distance after (encode_array Four (blank 49)) ≡ 3) × (erasures after ≡ 5)
unfolding load_tests coding_tests at_most
load_taken after n h = let hit = h.hit Four h.refusal refl in (h.refusal, hit.all_wrong, hit.all_unsure)

-- of 256 places seed 7 has 187 first
first_place : cell (order 256 7) 0 ≡ 187
unfolding order list_to shuffled exchanged drawn stirred grown
first_place = refl

-- so an unsure cell, and no wrong one, is there
pub load_placed : (after : List ℕ) (n : ℕ) → Loaded 4 7 0 1 (blank 49) old after n → cell after 187 ≡ 2
unfolding load_tests coding_tests at_most
load_placed after n h = rw first_place at ((h.hit Four h.refusal refl).erased 0 (omega arith) (omega arith))

abbrev Refuses : (seed wrong unsure : ℕ) (message : List ℕ) → ℕ → Type 0
Refuses seed wrong unsure message n = (after : List ℕ) (no : ℕ) → Loaded 4 seed wrong unsure message old after no → (no ≡ n) × (after ≡ old)

-- a message cell too few; a 2 in the message; seed 0; seed 0 and a cell too many; a cell too many
pub load_refused :
    Refuses 1 3 5 (blank 48) 3
    × Refuses 1 3 5 (set (blank 49) 0 2) 4
    × Refuses 0 3 5 (blank 49) 8
    × Refuses 0 200 57 (blank 49) 8
    × Refuses 1 200 57 (blank 49) 9
unfolding given load_tests coding_tests at_most
load_refused =
    (λ after n h. (h.refusal, h.cells), λ after n h. (h.refusal, h.cells), λ after n h. (h.refusal, h.cells), λ after n h. (h.refusal, h.cells), λ after n h. (h.refusal, h.cells))
