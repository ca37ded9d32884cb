-- What the iterations of a decoding start from, and what is told of their end. They serve the entry; its contract names none of
-- these.
use Rattle.std.specs.Prelude.{◌≡◌, Bool, ◌&&◌, List, ℕ, ◌*◌}
use Rattle.laws.specs.Tests.{every}
use Rattle.degree.specs.declared.Degree.{Degree}
use Rattle.degree.specs.Degree.{size}
use Rattle.line.specs.Cells.{IsWord, erasures as erasures_in}
use Rattle.line.specs.Codeword.{is_codeword}
use Rattle.array.specs.declared.report.Report.{Report}
use Rattle.array.specs.Arrays.{line, transpose, column}
use Rattle.array.specs.declared.packing.PackedRows.{PackedRows}
use Rattle.array.specs.Working.PackedRows.{Held}
use Rattle.array.specs.Plain.{plain, plain_count, closed as closed_in}

-- n by n cells, which are 0 or 1
abbrev pub IsFull : Degree → List ℕ → Type 0
IsFull d m = IsWord (size d * size d) m

-- what iterations start from: the array m at hand, and the received one r by rows and by columns, each by its packed rows
pub record Started (n : ℕ) (m r : List ℕ) (rows row_channel column_channel : PackedRows) : Type 0 where
  pub held : Held n m rows
  pub across : Held n r row_channel
  pub down : Held n (transpose n n r) column_channel

-- is row i a codeword, and column j
abbrev pub row_test : Degree → List ℕ → ℕ → Bool
row_test d m i = is_codeword d (line (size d) m i)

abbrev pub column_test : Degree → List ℕ → ℕ → Bool
column_test d m j = is_codeword d (column (size d) m j)

-- rows 0 to k - 1 and columns 0 to k - 1 are codewords
abbrev pub lines_to : Degree → List ℕ → ℕ → Bool
lines_to d m k = every (row_test d m) k && every (column_test d m) k

-- what is told of an array: its unsure cells, and whether it is closed
pub record Told (d : Degree) (m : List ℕ) (total : ℕ) (r : Report) : Type 0 where
  pub count : r.count ≡ total
  pub erasures : r.erasures ≡ erasures_in m
  pub closed : r.closed ≡ closed_in d m

-- a whole decoding of r: the cells that it leaves, and its report
pub record DecodingDone (d : Degree) (l : ℕ) (r w after : List ℕ) (t : Report) : Type 0 where
  pub cells : after ≡ plain d l r r w
  pub count : t.count ≡ plain_count d l r r w
  pub erasures : t.erasures ≡ erasures_in (plain d l r r w)
  pub closed : t.closed ≡ closed_in d (plain d l r r w)
