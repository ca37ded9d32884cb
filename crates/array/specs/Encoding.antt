-- Encoding, and taking the message out. Document 01, "The code": message cells of a line are 2v to n - 2; a k by k message
-- fills rows and columns 2v to n - 2 of the array; all else is check.
use Rattle.std.specs.Prelude.{◌≡◌, List, ℕ, ◌+◌, ◌*◌, ◌<◌, length, take, drop, get_or}
use Rattle.degree.specs.declared.Degree.{Degree}
use Rattle.degree.specs.Degree.{size}
use Rattle.line.specs.Cells.{IsWord}
use Rattle.line.specs.Codeword.{Codeword}
use Rattle.line.specs.Encoding.{check_size, message_size, encode_line}
use Rattle.array.specs.Arrays.{line, lines, transpose, column}

module _ (d : Degree) where
  -- r lines of k cells encoded
  unfoldable pub encode_lines : ℕ → List ℕ → List ℕ
  encode_lines r m = lines (λ i. encode_line d (line (message_size d) m i)) r

  -- an array: the k message rows encoded, and then every column
  unfoldable pub encode_array : List ℕ → List ℕ
  encode_array m =
      transpose (size d) (size d) (encode_lines (size d) (transpose (message_size d) (size d) (encode_lines (message_size d) m)))

  -- the same with columns worked first: the k message columns encoded, and then every row
  unfoldable pub columns_first : List ℕ → List ℕ
  columns_first m =
      encode_lines (size d) (transpose (message_size d) (size d) (encode_lines (message_size d) (transpose (message_size d) (message_size d) m)))

  -- taking the message out copies those cells as they are, unsure ones too
  unfoldable pub extracted : List ℕ → List ℕ
  extracted a = lines (λ i. take (message_size d) (drop (check_size d) (line (size d) a (check_size d + i)))) (message_size d)

-- "a k by k message fills rows and columns 2v to n - 2 of the array": cell (i, j) of the message is cell (2v + i, 2v + j)
abbrev pub Holds : Degree → (array message : List ℕ) → Type 0
Holds d array message =
    (i j : ℕ) → i < message_size d → j < message_size d → get_or array ((check_size d + i) * size d + (check_size d + j)) 0 ≡ get_or message (i * message_size d + j) 0

-- an array of n by n cells with a codeword in each row and column
pub record ProductCodeword (d : Degree) (s : List ℕ) : Type 0 where
  pub whole : length s ≡ size d * size d
  pub rows : (i : ℕ) → i < size d → Codeword d (line (size d) s i)
  pub columns : (j : ℕ) → j < size d → Codeword d (column (size d) s j)

-- demand 2: "the one array that holds the message and has a codeword in each row and column; taking the message out of it gives the
-- message back"
pub record OneArray (d : Degree) (message array : List ℕ) : Type 0 where
  pub codewords : ProductCodeword d array
  pub holds : Holds d array message
  pub only : (other : List ℕ) → ProductCodeword d other → Holds d other message → other ≡ array
  pub back : extracted d array ≡ message

-- Document 01, "The array": a sent array is one that encoding gives for some message.
pub record SentArray (d : Degree) (s : List ℕ) : Type 0 where
  pub message : List ℕ
  pub bits : IsWord (message_size d * message_size d) message
  pub is : s ≡ encode_array d message
