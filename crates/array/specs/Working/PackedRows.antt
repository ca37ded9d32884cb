-- The rows of an array packed in two grids of words. Only this file and the code's `packing` know how.
use Rattle.std.specs.Prelude.{◌≡◌, Bool, List, ◌++◌, ℕ, ◌*◌, ◌<◌, ◌≤◌, take, drop}
use Rattle.line.specs.Working.Packed.{IsLine, is_one, pack_by, Packs}
use Rattle.line.specs.Cells.{is_erased}
use Rattle.line.specs.declared.packed.Line.{Line}
use Rattle.words.specs.Working.Grid.{word_in, Blank}
use Rattle.words.specs.Working.Word.{width}
use Rattle.array.specs.declared.packing.PackedRows.{PackedRows}
use Rattle.array.specs.Arrays.{line, transpose}

-- word i packs line i of m by p: past the last line a line is empty, and its word 0
abbrev pub RowWords : (ℕ → Bool) → ℕ → List ℕ → (ℕ → ℕ) → Type 0
RowWords p n m word = (i : ℕ) → i < width → word i ≡ pack_by p (line n m i)

-- an array of n by n cells, and its rows packed: word i of the one grid has the ones of row i, word i of the other its erasures
pub record Held (n : ℕ) (m : List ℕ) (rows : PackedRows) : Type 0 where
  pub room : n ≤ width
  pub array : IsLine (n * n) m
  pub ones : RowWords is_one n m (λ i. word_in rows.ones i)
  pub erased : RowWords is_erased n m (λ i. word_in rows.erased i)

-- no cell is packed yet
abbrev pub Empty : PackedRows → Type 0
Empty rows = Blank rows.ones × Blank rows.erased

-- an array with line i made y
abbrev pub with_line : ℕ → List ℕ → ℕ → List ℕ → List ℕ
with_line n m i y = take (i * n) m ++ (y ++ drop n (drop (i * n) m))

-- l is line i of packed rows
abbrev pub LineIn : PackedRows → ℕ → Line → Type 0
LineIn rows i l = (n : ℕ) (m : List ℕ) → Held n m rows → i < n → Packs n (line n m i) l

-- packed rows whose line i was made l, and before
abbrev pub LinePut : PackedRows → ℕ → Line → PackedRows → Type 0
LinePut before i l after = (n : ℕ) (m y : List ℕ) → Held n m before → i < n → Packs n y l → Held n (with_line n m i y) after

-- packed rows of an array of n by n cells transposed
abbrev pub RowsTurned : ℕ → PackedRows → PackedRows → Type 0
RowsTurned n before after = (m : List ℕ) → Held n m before → Held n (transpose n n m) after
