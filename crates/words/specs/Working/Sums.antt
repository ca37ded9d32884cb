-- Sums of words, by exclusive or, and sums of table entries by the bytes of a word.
use Rattle.std.specs.Prelude.{◌≡◌, List, ℕ, ◌+◌, ◌*◌, ◌<◌, get_or}
use Rattle.laws.specs.Digits.{sum_over, digits}
use Rattle.laws.specs.Working.Bits.{bit_at}
use Rattle.laws.specs.Working.Sums.{xor_to}
use Rattle.words.specs.Working.Grid.{word_in}
use Rattle.words.specs.declared.word.grid.Grid.{Grid}

-- the sum of the first k words of the grid ws whose words in the grid t have bit i
unfoldable pub chosen_sum : Grid → Grid → ℕ → ℕ → ℕ
chosen_sum t ws k i = xor_to k (λ a. bit_at (word_in t a) i * word_in ws a)

-- entry base + 256 j + x of a table, for j below k: the weights W of the digits 8 j + i, summed over the bits i of the byte x
abbrev pub ByteSums : (ℕ → ℕ) → (base k : ℕ) → List ℕ → Type 0
ByteSums W base k t = (j x : ℕ) → j < k → x < 256 → get_or t (base + j * 256 + x) 0 ≡ sum_over (λ i. W (j * 8 + i)) (digits 8 x)
