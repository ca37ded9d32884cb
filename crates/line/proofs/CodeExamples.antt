-- Document 01, "The code", and document 02, W-212, in numbers: the sizes of each degree, and a codeword of each by its cells.
-- Assumes nothing.
use mathlib.Core.Path.{◌≡◌, refl}
use mathlib.Core.Bool.{true}
use mathlib.Core.List.{List, [], ◌∷◌}
use Prim.Native.Nat.{ℕ}
use lib.ListN.{replicate, set}
use Rattle.degree.specs.declared.Degree.TheVariants.{Four, Six, Seven}
use Rattle.degree.specs.Degree.{size}
use Rattle.field.specs.Field.{double, times_power}
use Rattle.laws.specs.Digits.{sum_over, ones_in}
use Rattle.line.specs.Cells.{distance, designed_distance}
use Rattle.line.specs.Codeword.{is_codeword}
use Rattle.line.specs.Encoding.{check_size, message_size}
use Rattle.line.proofs.Examples.{zeros, word_g}

-- n is 2 to the power v; "k = n - 1 - 2v: 7 or 51", from cell 2v on; W-212: "n = 128: degree 7", "k = 113"
pub sizes_four : (size Four ≡ 16) × (message_size Four ≡ 7) × (check_size Four ≡ 8)
sizes_four = (refl, refl, refl)

pub sizes_six : (size Six ≡ 64) × (message_size Six ≡ 51) × (check_size Six ≡ 12)
sizes_six = (refl, refl, refl)

pub sizes_seven : (size Seven ≡ 128) × (message_size Seven ≡ 113) × (check_size Seven ≡ 14)
sizes_seven = (refl, refl, refl)

-- x at the cells listed, else as in l
abbrev pub put : ℕ → List ℕ → List ℕ → List ℕ
put x [] l = l
put x (i ∷ is) l = set (put x is l) i x

-- degree 4: word_g, which differs from the word of zeros in 6 cells, so that no greater distance than 6 could be had
pub four : is_codeword Four word_g ≡ true
unfolding is_codeword ones_in sum_over double times_power
four = refl

-- and the words of zeros and of ones
pub four_zeros : is_codeword Four zeros ≡ true
unfolding is_codeword ones_in sum_over
four_zeros = refl

pub four_ones : is_codeword Four (replicate 16 1) ≡ true
unfolding is_codeword ones_in sum_over double times_power
four_ones = refl

pub six_apart : distance zeros word_g ≡ designed_distance
unfolding distance
six_apart = refl

-- degree 6: the generator polynomial of BCH (63, 51), 12471 in octal, and the cell that makes its ones even in number
pub six : is_codeword Six (put 1 (0 ∷ 3 ∷ 4 ∷ 5 ∷ 8 ∷ 10 ∷ 12 ∷ 63 ∷ []) (replicate 64 0)) ≡ true
unfolding is_codeword ones_in sum_over double times_power
six = refl

-- degree 7: that of BCH (127, 113), 41567 in octal
pub seven : is_codeword Seven (put 1 (0 ∷ 1 ∷ 2 ∷ 4 ∷ 5 ∷ 6 ∷ 8 ∷ 9 ∷ 14 ∷ 127 ∷ []) (replicate 128 0)) ≡ true
unfolding is_codeword ones_in sum_over double times_power
seven = refl
