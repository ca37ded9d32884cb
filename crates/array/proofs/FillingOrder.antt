-- The order of the filling words: an iteration's column half takes the n words after the row half's, and each iteration those after the
-- one before. With an example of a row half in which two equal lines come out differently, for their words differ.
-- Assumes nothing.
use mathlib.Core.Path.{◌≡◌, refl, sym, ap, ◌∙◌}
use mathlib.Core.List.{List, ◌∷◌, ◌++◌}
use Prim.Native.Nat.{ℕ, zero, suc, ◌+◌, ◌*◌, ◌^◌, ◌<◌}
use native.Mathlib.Nat.{zero-add, suc-add, add_comm, add_assoc, zero-mul, suc-mul}
use native.Mathlib.Omega.{arith}
use lib.ListN.{drop, get_or, replicate}
use lib.Seq.{get_or-drop, drop-drop}
use Rattle.degree.specs.declared.Degree.{Degree}
use Rattle.degree.specs.declared.Degree.TheVariants.{Four}
use Rattle.degree.specs.Degree.{size}
use Rattle.line.specs.Bounded.{bounded}
use Rattle.line.specs.Decoding.{messages}
use Rattle.line.specs.Refusals.{at_most}
use Rattle.line.proofs.Examples.{zeros, word_g, p7, p7_messages, p8_messages}
use Rattle.line.proofs.Refusing.{at_most_small}
use Rattle.array.specs.Arrays.{line, column}
use Rattle.array.specs.Halves.{row_half, column_half}
use Rattle.array.specs.Plain.{plain, plain_count}
use Rattle.array.specs.Working.Steps.{IsArray}
use Rattle.array.proofs.HalfLines.{row_line_word, column_line_word}
use Rattle.array.proofs.Theorem.{row_half_cells}

-- an iteration
pub one_iteration : (d : Degree) (m r w : List ℕ) → plain d 1 m r w ≡ column_half d (row_half d m r w) r (drop (size d) w)
unfolding plain
one_iteration d m r w = refl

-- its column j takes word n + j
pub iteration_word : (d : Degree) {m r : List ℕ} (w : List ℕ) → IsArray d m → IsArray d r → (j : ℕ) → j < size d
    → column (size d) (plain d 1 m r w) j ≡ messages (bounded d) (column (size d) (row_half d m r w) j) (column (size d) r j) (get_or w (size d + j) 0)
iteration_word d {m} {r} w a b j h =
    ap (λ (x : List ℕ). column (size d) x j) (one_iteration d m r w)
    ∙ column_line_word d (drop (size d) w) (row_half_cells d m r w a b) b j h
    ∙ ap (messages (bounded d) (column (size d) (row_half d m r w) j) (column (size d) r j)) (get_or-drop (size d) w j 0)

-- ---- iterations one after the other

-- the filling words of an iteration
abbrev each : Degree → ℕ
each d = size d + size d

module _ (d : Degree) (r : List ℕ) where
  rest_words : (a : ℕ) (w : List ℕ) → drop (a * each d) (drop (each d) w) ≡ drop (suc a * each d) w
  rest_words a w = drop-drop (a * each d) (each d) w ∙ ap (λ (k : ℕ). drop k w) (add_comm (each d) (a * each d) ∙ sym (suc-mul a (each d)))

  -- a + b iterations are a of them and then b more, with the filling words that follow
  pub plain_add : (a b : ℕ) (m w : List ℕ) → plain d (a + b) m r w ≡ plain d b (plain d a m r w) r (drop (a * each d) w)
  unfolding plain
  plain_add zero b m w = rw (zero-add b, zero-mul (each d))
  plain_add (suc a) b m w =
      rw (suc-add a b, ← rest_words a w) (plain_add a b (column_half d (row_half d m r w) r (drop (size d) w)) (drop (each d) w))

  -- and the count is the sum of both
  pub count_add : (a b : ℕ) (m w : List ℕ) → plain_count d (a + b) m r w ≡ plain_count d a m r w + plain_count d b (plain d a m r w) r (drop (a * each d) w)
  unfolding plain plain_count
  count_add zero b m w = rw (zero-add b, zero-mul (each d)) (sym (zero-add _))
  count_add (suc a) b m w =
      rw (suc-add a b, ← rest_words a w, count_add a b (column_half d (row_half d m r w) r (drop (size d) w)) (drop (each d) w)) (sym (add_assoc _ _ _))

-- ---- the example, degree 4: rows 0 and 1 are document 01's P7, ones at 0 and 4 and unsure cells 6 and 7; all other cells are 0

abbrev pub two_tied : List ℕ
two_tied = p7 ++ (p7 ++ replicate 224 0)

tied_array : IsArray Four two_tied
unfolding at_most
tied_array = record { long = refl; small = at_most_small 2 two_tied refl }

-- word 0 is 0 and gives all 0; word 1 has ones at bits 6 and 7 and gives word_g (P8)
pub tied_row_zero : (w : List ℕ) → line 16 (row_half Four two_tied two_tied (0 ∷ (2 ^ 6 + 2 ^ 7) ∷ w)) 0 ≡ zeros
tied_row_zero w = row_line_word Four (0 ∷ (2 ^ 6 + 2 ^ 7) ∷ w) tied_array tied_array 0 (omega arith) ∙ p7_messages

pub tied_row_one : (w : List ℕ) → line 16 (row_half Four two_tied two_tied (0 ∷ (2 ^ 6 + 2 ^ 7) ∷ w)) 1 ≡ word_g
tied_row_one w = row_line_word Four (0 ∷ (2 ^ 6 + 2 ^ 7) ∷ w) tied_array tied_array 1 (omega arith) ∙ p8_messages
