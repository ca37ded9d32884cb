-- A load, step by step: the draws of all places, the marks of the shuffled order brought back to their cells, and the cells that they hit.
use Rattle.std.specs.Prelude.{◌≡◌, ℕ, zero, suc, ◌+◌, ◌-◌, ◌*◌, ◌/◌, ◌%◌, ◌^◌, ◌<◌, Bool, cond, ◌&&◌, ◌||◌, List, length, replicate, ◌==◌, bit_xor, nat_lt, slice_index, slice_index_or, swap}
use Rattle.second.specs.declared.loads.Mark.{Mark}
use Rattle.second.specs.declared.loads.Mark.TheVariants.{Kept, Inverted, Unsure}
use Rattle.second.specs.Working.Loops.{written}
use Rattle.second.specs.Working.Codes.{cells_of}
use Rattle.second.specs.Working.Arrays.{all_below}
use Rattle.second.specs.Working.Encoding.{encoded_to, message_area, message_place}

-- s after one more draw
abbrev pub shifted : (s : ℕ) → ℕ
shifted s =
    let a = bit_xor s (s * 2 ^ 13 % 2 ^ 64) in
    let b = bit_xor a (a / 2 ^ 7) in
    bit_xor b (b * 2 ^ 17 % 2 ^ 64)

-- s after k draws
unfoldable pub shifted_times : (seed : ℕ) → ℕ → ℕ
shifted_times seed zero = seed
shifted_times seed (suc k) = shifted (shifted_times seed k)

-- w after k draws: k times hexadecimal 9E3779B97F4A7C15
unfoldable pub grown_times : (k : ℕ) → ℕ
grown_times k = k * 11400714819323198485 % 2 ^ 64

-- draw number k, of which the first is 1
abbrev pub draw_of : (seed k : ℕ) → ℕ
draw_of seed k = (shifted_times seed k + grown_times k) % 2 ^ 64

-- the draw of each place, from the last place down to place 1
abbrev pub draws_of : (seed area : ℕ) (draws : List ℕ) → List ℕ
draws_of seed area draws = written (λ k. area - 1 - k) (λ k. draw_of seed (k + 1)) (area - 1) draws

-- the mark of place p of the shuffled order
abbrev pub mark_of : (wrong unsure p : ℕ) → Mark
mark_of wrong unsure p = cond (nat_lt p wrong) Inverted (cond (nat_lt p (wrong + unsure)) Unsure Kept)

-- places 1 to k change, each with that of its draw
unfoldable pub changed_to : (draws : List ℕ) (k : ℕ) (marks : List Mark) → List Mark
changed_to draws zero marks = marks
changed_to draws (suc k) marks = swap (changed_to draws k marks) (suc k) (slice_index draws (suc k) % (suc k + 1))

-- the mark of each cell
unfoldable pub marked_cells : (area seed wrong unsure : ℕ) → List Mark
marked_cells area seed wrong unsure =
    changed_to (draws_of seed area (replicate 16384 0)) (area - 1) (written (λ p. p) (mark_of wrong unsure) 16384 (replicate 16384 Kept))

-- the sheet of a message
unfoldable pub sent_cells : (n : ℕ) (message : List ℕ) → List ℕ
sent_cells n message = encoded_to n (n + n) (written (message_place n) (λ p. slice_index message p) (message_area n) (replicate 16384 0))

abbrev pub damaged_cell : (cell : ℕ) → Mark → ℕ
damaged_cell cell Kept = cell
damaged_cell cell Inverted = bit_xor cell 1
damaged_cell cell Unsure = 2

-- the cells that a call leaves
unfoldable pub loaded_cells : (n seed wrong unsure : ℕ) (message before : List ℕ) → List ℕ
loaded_cells n seed wrong unsure message before =
    written (λ i. i) (λ i. damaged_cell (slice_index (sent_cells n message) i) (slice_index_or (marked_cells (n * n) seed wrong unsure) i Kept)) (length before) before

-- the refusal number by the seed and by how many cells are to be hit
abbrev pub hits_refusal : (n seed wrong unsure : ℕ) → ℕ
hits_refusal n seed wrong unsure = cond (seed == 0) 8 (cond (nat_lt (n * n) (wrong + unsure)) 9 0)

abbrev pub is_degree : (degree : ℕ) → Bool
is_degree degree = (degree == 4 || degree == 6) || degree == 7

-- by the degree, the lengths and the message, before that of the hits
abbrev pub call_refusal : (degree : ℕ) (message : List ℕ) (long hits : ℕ) → ℕ
call_refusal degree message long hits =
    cond (is_degree degree)
    (cond (length message == message_area (cells_of degree) && long == cells_of degree * cells_of degree) (cond (all_below 2 message) hits 4) 3) 1

-- of a call
abbrev pub load_refusal : (degree seed wrong unsure : ℕ) (message : List ℕ) (long : ℕ) → ℕ
load_refusal degree seed wrong unsure message long = call_refusal degree message long (hits_refusal (cells_of degree) seed wrong unsure)

-- what a call leaves: the load, or the cells as they came
abbrev pub LoadedOrKept : (n seed wrong unsure : ℕ) (message before : List ℕ) (refusal : ℕ) (after : List ℕ) → Type 0
LoadedOrKept n seed wrong unsure message before refusal after =
    (refusal ≡ 0 → after ≡ loaded_cells n seed wrong unsure message before) × (0 < refusal → after ≡ before)
