-- Bytes and the words that hold them, the first byte the lowest.
use Rattle.std.specs.Prelude.{ℕ, zero, suc, ◌+◌, ◌*◌, ◌/◌, ◌%◌, List, [], ◌∷◌}

-- bytes joined to a number, the first the lowest
unfoldable pub joined : List ℕ → ℕ
joined [] = 0
joined (b ∷ bs) = joined bs * 256 + b

-- the n low bytes of a word, the lowest first
unfoldable pub bytes_of : ℕ → ℕ → List ℕ
bytes_of zero x = []
bytes_of (suc n) x = x % 256 ∷ bytes_of n (x / 256)

-- the number whose bit i is the lowest bit of byte i of a word, for the n low bytes
unfoldable pub gathered : ℕ → ℕ → ℕ
gathered zero x = 0
gathered (suc n) x = gathered n (x / 256) * 2 + x % 2
