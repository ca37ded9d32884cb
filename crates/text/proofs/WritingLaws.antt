-- Lines of one length, as they are read and as they are printed.
-- Assumes nothing.
use mathlib.Core.Path.{◌≡◌, ap, ◌∙◌}
use mathlib.Core.List.{List, [], ◌∷◌, map}
use Prim.Native.Nat.{ℕ, ◌+◌, ◌*◌}
use native.Mathlib.Omega.{arith}
use lib.ListN.{length, take, drop, length-map, length-append, length-drop}
use lib.Seq.{length-take-le}
use Rattle.array.specs.Arrays.{line}
use Rattle.array.proofs.ArrayLaws.{Even, line_room, length_line}
use Rattle.text.specs.Text.{char_of, line_text}

-- each line that is read has n cells, and each that is printed n characters and a newline
pub cells_even : (f : ℕ → ℕ) (n : ℕ) (t : List ℕ) → length t ≡ n * (n + 1) → Even n (λ i. map f (take n (drop (i * (n + 1)) t))) n
cells_even f n t e i h =
    length-map (take n (drop (i * (n + 1)) t)) f
    ∙ length-take-le n (drop (i * (n + 1)) t) (rw length-drop (omega (arith, line_room n (n + 1) i h)))

pub lines_even : (n : ℕ) (m : List ℕ) → length m ≡ n * n → Even (n + 1) (λ i. line_text (line n m i)) n
unfolding line_text
lines_even n m e i h =
    length-append (map char_of (line n m i)) (10 ∷ []) ∙ ap (λ (x : ℕ). x + 1) (length-map (line n m i) char_of ∙ length_line n n m i h e)
