-- 64 words transposed in stages. A stage cuts rows and columns into blocks of 2 j; in each square of 2 j by 2 j bits the upper
-- right quarter and the lower left one change places.
use Rattle.std.specs.Prelude.{◌≡◌, Bool, ◌&&◌, List, ℕ, ◌+◌, ◌*◌, ◌/◌, ◌%◌, ◌^◌, ◌<◌, ◌≤◌, eqb, length, get_or}
use Rattle.std.specs.Int.Bits.{bit_and, bit_xor}
use Rattle.laws.specs.Working.Bits.{bit_at}
use Rattle.laws.specs.Tests.{every}

-- bit c of word r
abbrev pub cell_at : List ℕ → ℕ → ℕ → ℕ
cell_at a r c = bit_at (get_or a r 0) c

-- where bit j + c of x and bit c of y differ, for each c that m names
abbrev pub mixed : (j m x y : ℕ) → ℕ
mixed j m x y = bit_and (bit_xor (x / 2 ^ j) y) m

-- what x and y are once those bits have changed places
unfoldable pub upper : (j m x y : ℕ) → ℕ
upper j m x y = bit_xor x (mixed j m x y * 2 ^ j) % 2 ^ 64

unfoldable pub lower : (j m x y : ℕ) → ℕ
lower j m x y = bit_xor y (mixed j m x y) % 2 ^ 64

-- m names column q of the first half of block y of 2 j columns, and not column q of its second half
abbrev pub names_at : (j m y q : ℕ) → Bool
names_at j m y q = eqb (bit_at m (y * (2 * j) + q)) 1 && eqb (bit_at m (y * (2 * j) + (j + q))) 0

-- and so in each of k blocks
unfoldable pub masked : (k j m : ℕ) → Bool
masked k j m = every (λ y. every (names_at j m y) j) k

-- of the block of rows from g on, the first i of the upper half and those j below have exchanged bits; all else stands
pub record Swapped (j m g i : ℕ) (a b : List ℕ) : Type 0 where
  pub long : length b ≡ 64
  pub most : i ≤ j
  pub up : (p : ℕ) → p < i → get_or b (g + p) 0 ≡ upper j m (get_or a (g + p) 0) (get_or a (g + (j + p)) 0)
  pub down : (p : ℕ) → p < i → get_or b (g + (j + p)) 0 ≡ lower j m (get_or a (g + p) 0) (get_or a (g + (j + p)) 0)
  pub rest : (r : ℕ) → ((p : ℕ) → p < i → (r ≡ g + p → ⊥) × (r ≡ g + (j + p) → ⊥)) → get_or b r 0 ≡ get_or a r 0

-- a stage, bit by bit: in each pair of blocks x of rows and y of columns, half r of the rows and half s of the columns
pub record Crossed (k j : ℕ) (a b : List ℕ) : Type 0 where
  pub long : length b ≡ 64
  pub small : (x r p : ℕ) → x < k → r < 2 → p < j → get_or b (x * (2 * j) + (r * j + p)) 0 < 2 ^ 64
  pub bits : (x y r s p q : ℕ) → x < k → y < k → r < 2 → s < 2 → p < j → q < j
      → cell_at b (x * (2 * j) + (r * j + p)) (y * (2 * j) + (s * j + q)) ≡ cell_at a (x * (2 * j) + (s * j + p)) (y * (2 * j) + (r * j + q))

-- b is a transposed: bit j of word i of the one is bit i of word j of the other
pub record Turned (a b : List ℕ) : Type 0 where
  pub long : length b ≡ 64
  pub small : (i : ℕ) → get_or b i 0 < 2 ^ 64
  pub bits : (i j : ℕ) → i < 64 → j < 64 → bit_at (get_or b i 0) j ≡ bit_at (get_or a j 0) i
