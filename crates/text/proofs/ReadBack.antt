-- What is printed of an array reads back: the text passes the tests of what is read, and its cells are the array's.
-- Assumes nothing.
use mathlib.Core.Path.{◌≡◌, refl, sym, ap, ap₂, ◌∙◌}
use mathlib.Core.Bool.{Bool, true, false, cond, ◌&&◌}
use mathlib.Core.Logic.{◌⊎◌, inl, inr}
use mathlib.Core.List.{List, [], ◌∷◌, ◌++◌, map}
use Prim.Native.Nat.{ℕ, zero, suc, ◌+◌, ◌*◌, ◌/◌, ◌%◌, ◌<◌, ◌≤◌}
use native.Mathlib.Nat.{div-add-mod', div-lt_iff_lt-mul, mod-lt, eq-or-lt_of_le, le_of_suc-le-suc, not-suc-le-zero}
use native.Mathlib.Omega.{arith}
use borrow.Author.Tests.{eq-eqb, ne_eqb}
use lib.Dec.{eqb}
use lib.ListN.{length, take, drop, get_or, length-map, get_or-append}
use lib.Seq.{take-take, take_at, get_or_at}
use Rattle.laws.proofs.Tests.{every_true}
use Rattle.line.specs.Cells.{cell}
use Rattle.line.specs.Working.Packed.{IsLine}
use Rattle.array.specs.Arrays.{line}
use Rattle.array.proofs.ArrayLaws.{line_at, line_small, length_line, length_lines, line_lines, lines_are}
use Rattle.text.specs.Text.{byte, shaped, known, cell_of, cells_of, char_of, line_text, array_text}
use Rattle.text.specs.Working.Characters.{placed, is_known}
use Rattle.text.proofs.WritingLaws.{lines_even}

-- ---- a cell

-- a character stands for the cell that it was printed for
char_cell : (c : ℕ) → c < 3 → cell_of (char_of c) ≡ c
char_cell zero h = refl
char_cell (suc zero) h = refl
char_cell (suc (suc zero)) h = refl
char_cell (suc (suc (suc c))) h = absurd (omega arith)

chars_cells : (l : List ℕ) → ((i : ℕ) → cell l i < 3) → map cell_of (map char_of l) ≡ l
chars_cells [] h = refl
chars_cells (c ∷ cs) h = ap₂ ◌∷◌ (char_cell c (h 0)) (chars_cells cs (λ i. h (suc i)))

map_at : (l : List ℕ) (i : ℕ) → i < length l → get_or (map char_of l) i 0 ≡ char_of (cell l i)
map_at [] i h = absurd (not-suc-le-zero h)
map_at (c ∷ cs) zero h = refl
map_at (c ∷ cs) (suc i) h = map_at cs i (le_of_suc-le-suc h)

-- it is no newline, and it is known
char_printed : (c : ℕ) → (eqb (char_of c) 10 ≡ false) × (is_known (char_of c) ≡ true)
char_printed c = go (eqb c 0) (eqb c 1)
  where
    go : (p q : Bool) → (eqb (cond p 48 (cond q 49 63)) 10 ≡ false) × (is_known (cond p 48 (cond q 49 63)) ≡ true)
    go true q = (refl, refl)
    go false true = (refl, refl)
    go false false = (refl, refl)

-- ---- an array

module _ (n : ℕ) {m : List ℕ} (a : IsLine (n * n) m) where
  abbrev text : List ℕ
  text = array_text n m

  -- line i of the text
  text_line : (i : ℕ) → i < n → line (n + 1) text i ≡ line_text (line n m i)
  unfolding array_text
  text_line i h = line_lines (n + 1) (λ i. line_text (line n m i)) n i (lines_even n m a.long) h

  text_length : length text ≡ n * (n + 1)
  unfolding array_text
  text_length = length_lines (n + 1) (λ i. line_text (line n m i)) n (lines_even n m a.long)

  characters : (i : ℕ) → i < n → length (map char_of (line n m i)) ≡ n
  characters i h = length-map (line n m i) char_of ∙ length_line n n m i h a.long

  -- what is printed reads back as the cells
  pub read_back : cells_of n text ≡ m
  unfolding cells_of line_text
  read_back =
      lines_are n (λ i. map cell_of (take n (drop (i * (n + 1)) text))) n m a.long
      (λ i h.
      let front : take n (drop (i * (n + 1)) text) ≡ map char_of (line n m i) =
      sym (take-take n (n + 1) (drop (i * (n + 1)) text) (omega arith)) ∙ ap (take n) (text_line i h) ∙ take_at (map char_of (line n m i)) (10 ∷ []) n (characters i h) in
      ap (map cell_of) front ∙ chars_cells (line n m i) (line_small 3 n m i a.small))

  -- byte p of the text: the newline at the end of a line, and before it a character
  text_byte : (p : ℕ) → p < length text → (placed n p (byte text p) ≡ true) × (is_known (byte text p) ≡ true)
  unfolding line_text
  text_byte p h = pick (eq-or-lt_of_le below)
    where
      row : ℕ
      row = p / (n + 1)

      at : ℕ
      at = p % (n + 1)

      low : row < n
      low = let z : 0 < n + 1 = omega arith in (div-lt_iff_lt-mul z).1 (omega (arith, h, text_length))

      inside : at < n + 1
      inside = mod-lt p (omega arith)

      below : at ≤ n
      below = omega (arith, inside)

      is : byte text p ≡ get_or (map char_of (line n m row) ++ (10 ∷ [])) at 0
      is =
          ap (byte text) (sym (div-add-mod' p (n + 1))) ∙ sym (line_at (n + 1) text row at inside) ∙ ap (λ (l : List ℕ). get_or l at 0) (text_line row low)

      pick : (at ≡ n) ⊎ (at < n) → (placed n p (byte text p) ≡ true) × (is_known (byte text p) ≡ true)
      pick (inl e) =
          let end : byte text p ≡ 10 = is ∙ get_or_at (map char_of (line n m row)) 10 [] 0 at (characters row low ∙ sym e) in
          rw (end, eq-eqb at n e) (refl, refl)
      pick (inr l) =
          let short : at < length (map char_of (line n m row)) = omega (arith, characters row low) in
          let same : byte text p ≡ char_of (get_or (line n m row) at 0) =
          is ∙ get_or-append (map char_of (line n m row)) (10 ∷ []) 0 at short ∙ map_at (line n m row) at (omega (arith, length_line n n m row low a.long)) in
          let c = char_printed (get_or (line n m row) at 0) in
          (rw (same, ne_eqb at n (λ z. omega arith), c.0) refl, rw same c.1)

  -- the text has the shape of a sheet, and no other character
  pub printed_shaped : shaped n text ≡ true
  unfolding shaped
  printed_shaped =
      ap₂ ◌&&◌ (eq-eqb (length text) (n * (n + 1)) text_length) (every_true (λ p. placed n p (byte text p)) (length text) (λ p h. (text_byte p h).0))

  pub printed_known : known text ≡ true
  unfolding known
  printed_known = every_true (λ p. is_known (byte text p)) (length text) (λ p h. (text_byte p h).1)
