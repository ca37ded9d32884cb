-- Degree 7 in an example: a line whose two unsure cells stand above cell 63. Their bits are in the high number of the filling word, and
-- they decide which of two codewords comes out.
-- Assumes nothing.
use mathlib.Core.Path.{◌≡◌, refl}
use mathlib.Core.List.{List, [], ◌∷◌}
use Prim.Native.Nat.{ℕ, ◌+◌, ◌^◌}
use lib.ListN.{replicate}
use Rattle.degree.specs.declared.Degree.TheVariants.{Seven}
use Rattle.field.specs.Field.{double, times_power}
use Rattle.laws.specs.Digits.{sum_over, ones_in}
use Rattle.laws.specs.Searches.{first_of}
use Rattle.line.specs.Cells.{erasures, distance, filling_word, filled, flip}
use Rattle.line.specs.Codeword.{is_codeword}
use Rattle.line.specs.Bounded.{Found, itself, one_flipped, two_flipped, within2, bounded}
use Rattle.line.specs.Decoding.{decode}
use Rattle.line.proofs.CodeExamples.{put}

abbrev long : List ℕ
long = replicate 128 0

-- a codeword
abbrev word_h : List ℕ
word_h = put 1 (0 ∷ 1 ∷ 5 ∷ 6 ∷ 69 ∷ 78 ∷ []) long

-- two cells from the word of zeros and two from word_h, at its known cells
abbrev tied : List ℕ
tied = put 1 (0 ∷ 1 ∷ []) (put 2 (69 ∷ 78 ∷ []) long)

pub high_decides : decode (bounded Seven) tied (filling_word 0 (2 ^ 5 + 2 ^ 14)) ≡ Found word_h
unfolding bounded within2 one_flipped two_flipped itself first_of flip is_codeword ones_in sum_over double times_power decode filled erasures distance
high_decides = refl

-- the same bits in the low number are for the known cells 5 and 14
pub low_does_not : decode (bounded Seven) tied (filling_word (2 ^ 5 + 2 ^ 14) 0) ≡ Found long
unfolding bounded within2 one_flipped two_flipped itself first_of flip is_codeword ones_in sum_over double times_power decode filled erasures distance
low_does_not = refl
