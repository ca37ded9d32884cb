-- The number that a packed word stands for: bit i of it is cell i. Only this file, the file on grids and the code's `word` with the
-- modules below it know that the machine holds it in two numbers of 64 bits, the low one first.
use Rattle.std.specs.Prelude.{ℕ, ◌+◌, ◌*◌, ◌^◌}
use Rattle.words.specs.declared.word.Word.{Word}

-- the cells that a word has room for
abbrev pub width : ℕ
width = 128

unfoldable pub value : Word → ℕ
value w = w.high * 2 ^ 64 + w.low

-- the word with no cell set
abbrev pub no_cells : Word
no_cells = record { low = 0; high = 0 }
