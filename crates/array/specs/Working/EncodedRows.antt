-- Encoding an array on packed words. The contracts of the encoder's parts name these; nothing here has to be believed to read
-- its result.
use Rattle.std.specs.Prelude.{List, ℕ, ◌<◌}
use Rattle.degree.specs.declared.Degree.{Degree}
use Rattle.degree.specs.Degree.{size}
use Rattle.words.specs.Working.Grid.{word_in}
use Rattle.words.specs.declared.word.grid.Grid.{Grid}
use Rattle.line.specs.Working.Packed.{PacksWord}
use Rattle.line.specs.Encoding.{message_size, encode_line}
use Rattle.array.specs.Arrays.{line}

-- the words of the message rows, in a grid: each packs its row, encoded
pub record EncodedRows (d : Degree) (m : List ℕ) (ws : Grid) : Type 0 where
  pub at : (a : ℕ) → a < message_size d → PacksWord (size d) (encode_line d (line (message_size d) m a)) (word_in ws a)
