-- Cells, lines and words. Document 01, "One line": a cell is 0, 1 or 2; 2 means unsure, here an erasure.
use Rattle.std.specs.Prelude.{◌≡◌, Bool, cond, List, [], ◌∷◌, ℕ, ◌+◌, ◌-◌, ◌*◌, ◌/◌, ◌%◌, ◌^◌, ◌<◌, eqb, ltb, length, get_or, set}
pub use Rattle.laws.specs.Bits.{bit}
use Rattle.line.specs.declared.side.Side.{Side}
use Rattle.line.specs.declared.side.Side.TheVariants.{One, Two}

-- cell k of a list; past its end a list reads 0
abbrev pub cell : List ℕ → ℕ → ℕ
cell l k = get_or l k 0

-- n cells below a bound
pub record Cells (bound n : ℕ) (l : List ℕ) : Type 0 where
  pub long : length l ≡ n
  pub small : (i : ℕ) → cell l i < bound

-- a full word of n cells, which are 0 or 1
abbrev pub IsWord : ℕ → List ℕ → Type 0
IsWord = Cells 2

-- an unsure cell
abbrev pub is_erased : ℕ → Bool
is_erased c = eqb c 2

-- the number of unsure cells
unfoldable pub erasures : List ℕ → ℕ
erasures [] = 0
erasures (c ∷ cs) = bit (is_erased c) + erasures cs

-- the designed distance: with so many unsure cells line decoding fails
abbrev pub designed_distance : ℕ
designed_distance = 6

-- the radius of bounded-distance decoding
abbrev pub radius : ℕ
radius = 2

-- fewer unsure cells than the designed distance
abbrev pub few : List ℕ → Bool
few y = ltb (erasures y) designed_distance

-- the differences of a line from a word, at the line's known cells: 1 for a known cell that is not the word's. For two words, their
-- distance.
unfoldable pub distance : List ℕ → List ℕ → ℕ
distance [] ws = 0
distance (c ∷ cs) [] = 0
distance (c ∷ cs) (w ∷ ws) = cond (is_erased c) 0 (cond (eqb c w) 0 1) + distance cs ws

-- a filling word as it is lent, in two numbers: document 02, W-212, "low word first"
abbrev pub filling_word : (low high : ℕ) → ℕ
filling_word low high = high * 2 ^ 64 + low

-- the bit that a filling word has for cell 0: word one takes it as it is, word two its opposite
abbrev pub filling_bit : Side → ℕ → ℕ
filling_bit One f = f % 2
filling_bit Two f = 1 - f % 2

-- word one and word two: each unsure cell i filled by bit i of the filling word
unfoldable pub filled : Side → List ℕ → ℕ → List ℕ
filled s [] f = []
filled s (c ∷ cs) f = cond (is_erased c) (filling_bit s f) c ∷ filled s cs (f / 2)

-- a word with cell i flipped
unfoldable pub flip : ℕ → List ℕ → List ℕ
flip i w = set w i (1 - cell w i)
