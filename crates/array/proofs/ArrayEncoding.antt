-- Encoding an array. Document 00, demand 2: encoding gives the one array that holds the message and has a codeword in each
-- row and column; taking the message out of it gives the message back. Document 01, "The code": checks on checks are equal
-- whether rows or columns are worked first. Each cell is a sum over the message, in either order.
-- Assumes nothing.
use mathlib.Core.Path.{◌≡◌, sym, ap, ◌∙◌, subst}
use mathlib.Core.List.{List}
use Prim.Native.Nat.{ℕ, ◌+◌, ◌*◌, ◌<◌}
use native.Mathlib.Nat.{mul_right_comm}
use native.Mathlib.Omega.{arith}
use lib.ListN.{length, get_or}
use lib.Seq.{ext_get_or}
use Rattle.laws.proofs.Bits.{bit_one}
use Rattle.degree.specs.declared.Degree.{Degree}
use Rattle.degree.specs.Degree.{size}
use Rattle.line.specs.Cells.{IsWord}
use Rattle.line.specs.Codeword.{Codeword}
use Rattle.line.proofs.CellLaws.{Bits}
use Rattle.array.specs.Arrays.{line, transpose}
use Rattle.line.specs.Encoding.{check_size, message_size, encode_line}
use Rattle.line.specs.Working.OneCell.{message_of}
use Rattle.array.specs.Encoding.{encode_lines, encode_array, columns_first, extracted, Holds, ProductCodeword, OneArray}
use Rattle.array.proofs.ArrayLaws.{Even, each_cell, line_at, length_line, line_small, length_transpose, transpose_at, transpose_cells, transpose_transpose, length_lines, line_lines, lines_are, array_ext}
use Rattle.laws.specs.Working.Sums.{xor_to}
use Rattle.laws.proofs.Linear.{one, to_cong, to_swap, to_map, sum_to, times_adds}
use Rattle.line.proofs.LineEncoding.{inverse, message_at, length_message, line_codeword, line_holds, line_only, summed}

module _ (d : Degree) where
  abbrev n : ℕ
  n = size d

  abbrev k : ℕ
  k = message_size d

  abbrev p : ℕ
  p = check_size d

  -- ---- r lines of k bits encoded

  module _ (r : ℕ) (m : List ℕ) (M : IsWord (r * k) m) where
    message_line : (i : ℕ) → i < r → length (line k m i) ≡ k
    message_line i h = length_line r k m i h M.long

    message_bits : (i : ℕ) → Bits (line k m i)
    message_bits i = line_small 2 k m i M.small

    pub line_coded : (i : ℕ) → i < r → Codeword d (encode_line d (line k m i))
    line_coded i h = line_codeword d (line k m i) (message_line i h) (message_bits i)

    even : Even n (λ i. encode_line d (line k m i)) r
    even i h = (line_coded i h).word.long

    pub encoded_line_lem : (i : ℕ) → i < r → line n (encode_lines d r m) i ≡ encode_line d (line k m i)
    unfolding encode_lines
    encoded_line_lem i h = line_lines n (λ i. encode_line d (line k m i)) r i even h

    encoded_length : length (encode_lines d r m) ≡ r * n
    unfolding encode_lines
    encoded_length = length_lines n (λ i. encode_line d (line k m i)) r even

    pub encoded_cell : (i j : ℕ) → i < r → j < n → get_or (encode_lines d r m) (i * n + j) 0 ≡ get_or (encode_line d (line k m i)) j 0
    encoded_cell i j h q = sym (line_at n (encode_lines d r m) i j q) ∙ ap (λ (w : List ℕ). get_or w j 0) (encoded_line_lem i h)

    encoded_word : IsWord (r * n) (encode_lines d r m)
    encoded_word = record {
      long = encoded_length;
      small = each_cell (λ x. x < 2) r n (encode_lines d r m) (omega arith) encoded_length (λ i j h q. rw (encoded_cell i j h q) ((line_coded i h).word.small j));
    }

    encoded_coded : (i : ℕ) → i < r → Codeword d (line n (encode_lines d r m) i)
    encoded_coded i h = rw (encoded_line_lem i h) (line_coded i h)

    -- a cell as a sum over its line
    encoded_sum : (i j : ℕ) → i < r → (q : j < n)
        → get_or (encode_lines d r m) (i * n + j) 0 ≡ xor_to k (λ a. get_or m (i * k + a) 0 * (summed d j q).weight a)
    encoded_sum i j h q =
        encoded_cell i j h q ∙ (summed d j q).same (line k m i) (message_line i h) (message_bits i)
        ∙ sum_to (summed d j q).weight (line k m i)
        ∙ ap (λ (x : ℕ). xor_to x (λ a. one (get_or (line k m i) a 0) * (summed d j q).weight a)) (message_line i h)
        ∙ to_cong k _ _ (λ a z. ap (λ (x : ℕ). x * (summed d j q).weight a) (bit_one (message_bits i a) ∙ line_at k m i a z))

  -- ---- an encoded array

  module _ (m : List ℕ) (M : IsWord (k * k) m) where
    abbrev rows : List ℕ
    rows = encode_lines d k m

    abbrev columns : List ℕ
    columns = transpose k n rows

    columns_word : IsWord (n * k) columns
    columns_word = transpose_cells k n (encoded_word k m M)

    -- a cell as a sum over the message rows, and over the message
    pub cell_rows : (i j : ℕ) → (h : i < n) → j < n
        → get_or (encode_array d m) (i * n + j) 0 ≡ xor_to k (λ a. get_or rows (a * n + j) 0 * (summed d i h).weight a)
    unfolding encode_array
    cell_rows i j h q =
        transpose_at n n (encode_lines d n columns) i j h q
        ∙ encoded_sum n columns columns_word j i q h
        ∙ to_cong k _ _ (λ a z. ap (λ (x : ℕ). x * (summed d i h).weight a) (transpose_at k n rows j a q z))

    cell_sum : (i j : ℕ) → (h : i < n) → (q : j < n)
        → get_or (encode_array d m) (i * n + j) 0 ≡ xor_to k (λ a. xor_to k (λ c. get_or m (a * k + c) 0 * (summed d j q).weight c * (summed d i h).weight a))
    cell_sum i j h q =
        cell_rows i j h q
        ∙ to_cong k _ _ (λ a z.
        ap (λ (x : ℕ). x * (summed d i h).weight a) (encoded_sum k m M a j z q)
        ∙ to_map (λ x. x * (summed d i h).weight a) k (λ c. get_or m (a * k + c) 0 * (summed d j q).weight c) (times_adds ((summed d i h).small a)))

    pub encode_length : length (encode_array d m) ≡ n * n
    unfolding encode_array
    encode_length = length_transpose n n (encode_lines d n columns)

    encode_columns : (j : ℕ) → j < n → Codeword d (line n (transpose n n (encode_array d m)) j)
    unfolding encode_array
    encode_columns =
        rw (transpose_transpose n n (encode_lines d n columns) (encoded_length n columns columns_word)) (encoded_coded n columns columns_word)

    -- the message rows come out as they were made
    encode_row : (i : ℕ) → i < k → line n (encode_array d m) (p + i) ≡ encode_line d (line k m i)
    unfolding encode_array
    encode_row i h =
        let inside : p + i < n = omega (arith, (inverse d).room) in
        let long = length_line n n (encode_array d m) (p + i) inside encode_length in
        ext_get_or 0 (line n (encode_array d m) (p + i)) (encode_line d (line k m i)) (long ∙ sym (line_coded k m M i h).word.long)
        (λ j q.
        let z : j < n = omega (arith, q, long) in
        let lc : length (line k columns j) ≡ k = length_line n k columns j z (length_transpose k n rows) in
        line_at n (encode_array d m) (p + i) j z
        ∙ transpose_at n n (encode_lines d n columns) (p + i) j inside z
        ∙ encoded_cell n columns columns_word j (p + i) z inside
        ∙ sym (message_at d (encode_line d (line k columns j)) i h)
        ∙ ap (λ (w : List ℕ). get_or w i 0) (line_holds d (line k columns j) lc)
        ∙ line_at k columns j i h ∙ transpose_at k n rows j i z h ∙ encoded_cell k m M i j h z)

    -- it holds the message
    pub encode_holds : extracted d (encode_array d m) ≡ m
    unfolding extracted
    encode_holds =
        lines_are k _ k m M.long (λ i h. ap (message_of d) (encode_row i h) ∙ line_holds d (line k m i) (length_line k k m i h M.long))

  -- the columns of the array are the rows of the array of the columns
  either_way : (m : List ℕ) → IsWord (k * k) m → transpose n n (encode_array d (transpose k k m)) ≡ encode_array d m
  either_way m M =
      let t = transpose k k m in
      array_ext n n (transpose n n (encode_array d t)) (encode_array d m) (length_transpose n n (encode_array d t)) (encode_length m M)
      (λ i j h q.
      transpose_at n n (encode_array d t) i j h q
      ∙ cell_sum t (transpose_cells k k M) j i q h
      ∙ to_swap k k (λ a c. get_or t (a * k + c) 0 * (summed d i h).weight c * (summed d j q).weight a)
      ∙ to_cong k _ _ (λ a z. to_cong k _ _ (λ c y.
      ap (λ (x : ℕ). x * (summed d i h).weight a * (summed d j q).weight c) (transpose_at k k m c a y z)
      ∙ mul_right_comm (get_or m (a * k + c) 0) ((summed d i h).weight a) ((summed d j q).weight c)))
      ∙ sym (cell_sum m M i j h q))

  -- columns first gives the same array
  pub columns_first_lem : (m : List ℕ) → IsWord (k * k) m → columns_first d m ≡ encode_array d m
  unfolding columns_first encode_array
  columns_first_lem m M =
      let T = transpose_cells k k M in
      sym (transpose_transpose n n _ (encoded_length n (columns (transpose k k m) T) (columns_word (transpose k k m) T))) ∙ either_way m M

  -- every row and column of an encoded array is a codeword
  pub encode_codeword : (m : List ℕ) → IsWord (k * k) m → ProductCodeword d (encode_array d m)
  encode_codeword m M = record {
    whole = encode_length m M;
    rows = subst (λ (s : List ℕ). (i : ℕ) → i < n → Codeword d (line n s i)) (either_way m M) (encode_columns (transpose k k m) (transpose_cells k k M));
    columns = encode_columns m M;
  }

  -- ---- the message of an array

  module _ (a : List ℕ) (l : length a ≡ n * n) where
    out_even : Even k (λ i. message_of d (line n a (p + i))) k
    out_even i h = length_message d (line n a (p + i)) (length_line n n a (p + i) (omega (arith, (inverse d).room)) l)

    pub extract_length : length (extracted d a) ≡ k * k
    unfolding extracted
    extract_length = length_lines k (λ i. message_of d (line n a (p + i))) k out_even

    pub extract_line : (i : ℕ) → i < k → line k (extracted d a) i ≡ message_of d (line n a (p + i))
    unfolding extracted
    extract_line i h = line_lines k (λ i. message_of d (line n a (p + i))) k i out_even h

    -- cell (i, j) of the message is cell (2v + i, 2v + j) of the array
    pub extract_at : (i j : ℕ) → i < k → j < k → get_or (extracted d a) (i * k + j) 0 ≡ get_or a ((p + i) * n + (p + j)) 0
    extract_at i j h q =
        sym (line_at k (extracted d a) i j q) ∙ ap (λ (w : List ℕ). get_or w j 0) (extract_line i h)
        ∙ message_at d (line n a (p + i)) j q ∙ line_at n a (p + i) (p + j) (omega (arith, (inverse d).room))

  -- ---- a product codeword and its message
  module _ (s : List ℕ) (S : ProductCodeword d s) where
    abbrev out : List ℕ
    out = extracted d s

    pub extract_word : IsWord (k * k) out
    extract_word = record {
      long = extract_length s S.whole;
      small = each_cell (λ x. x < 2) k k out (omega arith) (extract_length s S.whole)
          (λ i j h q. rw (← line_at k out i j q, extract_line s S.whole i h, message_at d (line n s (p + i)) j q) ((S.rows (p + i) (omega (arith, (inverse d).room))).word.small (p + j)));
    }

    row : (i : ℕ) → i < k → encode_line d (line k out i) ≡ line n s (p + i)
    row i h = ap (encode_line d) (extract_line s S.whole i h) ∙ sym (line_only d (line n s (p + i)) (S.rows (p + i) (omega (arith, (inverse d).room))))

    column_message : (j : ℕ) → j < n → line k (columns out extract_word) j ≡ message_of d (line n (transpose n n s) j)
    column_message j q =
        let turned = columns out extract_word in
        let long : length (line k turned j) ≡ k = length_line n k turned j q (length_transpose k n (rows out extract_word)) in
        ext_get_or 0 (line k turned j) (message_of d (line n (transpose n n s) j))
        (long ∙ sym (length_message d (line n (transpose n n s) j) (S.columns j q).word.long))
        (λ i z.
        let h : i < k = omega arith in
        let y : p + i < n = omega (arith, (inverse d).room) in
        line_at k turned j i h ∙ transpose_at k n (rows out extract_word) j i q h
        ∙ encoded_cell k out extract_word i j h q ∙ ap (λ (w : List ℕ). get_or w j 0) (row i h) ∙ line_at n s (p + i) j q
        ∙ sym (message_at d (line n (transpose n n s) j) i h ∙ line_at n (transpose n n s) j (p + i) y ∙ transpose_at n n s j (p + i) q y))

    -- it is the array that encoding gives for that message
    pub encode_extract : s ≡ encode_array d out
    unfolding encode_array encode_lines
    encode_extract =
        sym (transpose_transpose n n s S.whole)
        ∙ ap (transpose n n) (sym (lines_are n _ n (transpose n n s) (length_transpose n n s)
        (λ j q. ap (encode_line d) (column_message j q) ∙ sym (line_only d (line n (transpose n n s) j) (S.columns j q)))))

    -- so it is the only one that holds the message
    pub encode_only : (m : List ℕ) → extracted d s ≡ m → s ≡ encode_array d m
    encode_only m e = encode_extract ∙ ap (encode_array d) e

  -- ---- demand 2: the one array of a message

  -- an array that holds a message, cell by cell, has it taken out of it
  holds_out : (s m : List ℕ) → length s ≡ n * n → length m ≡ k * k → Holds d s m → extracted d s ≡ m
  holds_out s m l lm H = array_ext k k (extracted d s) m (extract_length s l) lm (λ i j h q. extract_at s l i j h q ∙ H i j h q)

  -- encoding gives the one array that holds the message and has a codeword in each row and column
  pub encode_one : (m : List ℕ) → IsWord (k * k) m → OneArray d m (encode_array d m)
  encode_one m M =
      record {
        codewords = encode_codeword m M;
        holds = λ i j h q.
            sym (extract_at (encode_array d m) (encode_length m M) i j h q) ∙ ap (λ (w : List ℕ). get_or w (i * k + j) 0) (encode_holds m M);
        only = λ s S H. encode_only s S m (holds_out s m S.whole M.long H);
        back = encode_holds m M;
      }
