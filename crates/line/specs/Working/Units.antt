-- The table by which a line is encoded, and how it is made.
use Rattle.std.specs.Prelude.{◌≡◌, List, ℕ, ◌+◌, ◌*◌, ◌/◌, ◌%◌, ◌^◌, ◌<◌, length, get_or}
use Rattle.std.specs.Int.Bits.{bit_xor}
use Rattle.laws.specs.Digits.{digits}
use Rattle.laws.specs.Working.Digits.{pack}
use Rattle.degree.specs.declared.Degree.{Degree}
use Rattle.degree.specs.Degree.{order}
use Rattle.words.specs.Working.Grid.{word_in}
use Rattle.words.specs.declared.word.grid.Grid.{Grid}
use Rattle.line.specs.Encoding.{check_size, message_size, encode_line}

-- unit a, as a number, from its check cells, bit i of the entry being cell i, with the parity cell in bit 14
unfoldable pub unit_of : Degree → (a entry : ℕ) → ℕ
unit_of d a entry = bit_xor (entry % 2 ^ 14) (bit_xor (2 ^ (check_size d + a)) (entry / 2 ^ 14 % 2 * 2 ^ order d))

-- entries from which the units are made
pub record UnitChecks (d : Degree) (entries : List ℕ) : Type 0 where
  pub long : length entries ≡ message_size d
  pub at : (a : ℕ) → a < message_size d → unit_of d a (get_or entries a 0) ≡ pack (encode_line d (digits (message_size d) (2 ^ a)))

-- entry a of a table of units, which is a grid of words: the encoded line, as a number, of the message whose one 1 is cell a
pub record Units (d : Degree) (t : Grid) : Type 0 where
  pub at : (a : ℕ) → a < message_size d → word_in t a ≡ pack (encode_line d (digits (message_size d) (2 ^ a)))
