-- A repeatable load. Document 02, W-204: "For acceptance runs we want sheets from a seed."
use Rattle.std.specs.Prelude.{ℕ, zero, suc, ◌+◌, ◌-◌, ◌*◌, ◌/◌, ◌%◌, ◌^◌, List, [], ◌∷◌, take, drop, bit_xor, slice_set}
use Rattle.degree.specs.declared.Degree.{Degree}
use Rattle.degree.specs.Degree.{size}
use Rattle.line.specs.Cells.{cell}
use Rattle.line.specs.Decoding.{list_to}
use Rattle.array.specs.Encoding.{encode_array}

-- ---- draws. The state is the pair (s, w).

-- "State s is the seed, w is 0."
abbrev pub start : (seed : ℕ) → ℕ × ℕ
start seed = (seed, 0)

-- "s ^= s << k", and "s ^= s >> k", "in 64 bits"
abbrev pub xor_up : (k s : ℕ) → ℕ
xor_up k s = bit_xor s (s * 2 ^ k % 2 ^ 64)

abbrev pub xor_down : (k s : ℕ) → ℕ
xor_down k s = bit_xor s (s / 2 ^ k)

-- "A draw does s ^= s << 13, s ^= s >> 7, s ^= s << 17 in 64 bits."
unfoldable pub stirred : (s : ℕ) → ℕ
stirred s = xor_up 17 (xor_down 7 (xor_up 13 s))

-- "Then w grows by hexadecimal 9E3779B97F4A7C15, wrapping past 64 bits"
unfoldable pub grown : (w : ℕ) → ℕ
grown w = (w + 0x9E3779B97F4A7C15) % 2 ^ 64

-- the state after a draw
abbrev pub next : ℕ × ℕ → ℕ × ℕ
next q = (stirred q.0, grown q.1)

-- "and the draw is s plus w, wrapping too": the draw that led to a state
unfoldable pub drawn : ℕ × ℕ → ℕ
drawn q = (q.0 + q.1) % 2 ^ 64

-- ---- the shuffle

-- entry i of a list changes with entry j
unfoldable pub exchanged : (i j : ℕ) → List ℕ → List ℕ
exchanged i j l = slice_set (slice_set l i (cell l j)) j (cell l i)

-- "from the last place down to place 1: place i changes with the place numbered by the draw modulo i + 1"; from place i on
unfoldable pub shuffled : (i : ℕ) → ℕ × ℕ → List ℕ → List ℕ
shuffled zero q l = l
shuffled (suc i) q l = shuffled i (next q) (exchanged (suc i) (drawn (next q) % (suc i + 1)) l)

-- "Cell places 0 to n × n - 1 are shuffled": the shuffled order of m places
unfoldable pub order : (m seed : ℕ) → List ℕ
order m seed = shuffled (m - 1) (start seed) (list_to (λ p. p) m)

-- ---- the damage

-- cells with those at some places changed by f
unfoldable pub changed : (f : ℕ → ℕ) (places cells : List ℕ) → List ℕ
changed f [] m = m
changed f (p ∷ ps) m = changed f ps (slice_set m p (f (cell m p)))

-- "The first D places in the shuffled order are inverted, the next E made unsure"
unfoldable pub damaged : (wrong unsure : ℕ) (places cells : List ℕ) → List ℕ
damaged wrong unsure places m = changed (λ c. 2) (take unsure (drop wrong places)) (changed (λ c. 1 - c) (take wrong places) m)

-- "in the sheet encoded from a lent message"
unfoldable pub loaded : (d : Degree) (seed wrong unsure : ℕ) (message : List ℕ) → List ℕ
loaded d seed wrong unsure message = damaged wrong unsure (order (size d * size d) seed) (encode_array d message)
