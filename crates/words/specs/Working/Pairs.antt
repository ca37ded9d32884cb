-- Two words beside a list of bytes: the lowest bit of byte i is bit i of the first word, the bit above it bit i of the second.
use Rattle.std.specs.Prelude.{List, [], ◌∷◌, ℕ, zero, suc, ◌+◌, ◌*◌, ◌/◌, ◌%◌, ◌^◌}

-- the word whose bit i is bit j of byte i
unfoldable pub bits_of : ℕ → List ℕ → ℕ
bits_of j [] = 0
bits_of j (b ∷ bs) = bits_of j bs * 2 + b / 2 ^ j % 2

-- the n bytes whose two lowest bits are those of two words, and which have no others
unfoldable pub pairs_of : ℕ → ℕ → ℕ → List ℕ
pairs_of zero a b = []
pairs_of (suc n) a b = (a % 2 + 2 * (b % 2)) ∷ pairs_of n (a / 2) (b / 2)
