-- Grids of 128 words, each in two numbers. Only this file, the file on quarters and the code's `word` with the modules below it know how.
use Rattle.std.specs.Prelude.{◌≡◌, ℕ, ◌+◌, ◌*◌, ◌^◌, ◌<◌, ◌≤◌, get_or}
use Rattle.laws.specs.Working.Bits.{bit_at}
use Rattle.words.specs.Working.Word.{width}
use Rattle.words.specs.declared.word.grid.Grid.{Grid}

-- word i of a grid
unfoldable pub word_in : Grid → ℕ → ℕ
word_in g i = get_or g.high i 0 * 2 ^ 64 + get_or g.low i 0

-- all words are 0
abbrev pub Blank : Grid → Type 0
Blank g = (i : ℕ) → word_in g i ≡ 0

-- b is a with word i made the number v
pub record WordPut (a : Grid) (i v : ℕ) (b : Grid) : Type 0 where
  pub here : word_in b i ≡ v
  pub others : (j : ℕ) → (j ≡ i → ⊥) → word_in b j ≡ word_in a j

-- only the first n words have bits, and only in the first n cells
pub record Within (n : ℕ) (g : Grid) : Type 0 where
  pub short : (i : ℕ) → i < width → word_in g i < 2 ^ n
  pub none : (i : ℕ) → n ≤ i → i < width → word_in g i ≡ 0

-- b is a transposed: bit j of word i of the one is bit i of word j of the other
pub record GridTurned (a b : Grid) : Type 0 where
  pub small : (i : ℕ) → word_in b i < 2 ^ width
  pub bits : (i j : ℕ) → i < width → j < width → bit_at (word_in b i) j ≡ bit_at (word_in a j) i
