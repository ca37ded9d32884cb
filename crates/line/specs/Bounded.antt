-- Bounded-distance decoding. Document 01, "One line": the one codeword within 2 of a full word. It fails exactly if no
-- codeword lies within 2. Here it is a search: the word itself, else the word with one cell flipped, else with two.
use Rattle.std.specs.Prelude.{Bool, cond, List, ℕ, length}
use Rattle.laws.specs.Searches.{first_of}
use Rattle.degree.specs.declared.Degree.{Degree}
use Rattle.line.specs.Cells.{distance, flip}
use Rattle.line.specs.Codeword.{is_codeword}

pub data Answer : Type 0 where
  Found : List ℕ → Answer
  Failed : Answer

-- a failed word or line is given back as it came
abbrev pub or_back : List ℕ → Answer → List ℕ
or_back y (Found c) = c
or_back y Failed = y

abbrev pub or_else : Answer → Answer → Answer
or_else (Found c) b = Found c
or_else Failed b = b

module _ (passes : List ℕ → Bool) where
  unfoldable pub itself : List ℕ → Answer
  itself w = cond (passes w) (Found w) Failed

  -- the first that is found, the lowest place first
  unfoldable pub one_flipped : List ℕ → Answer
  one_flipped w = first_of or_else Failed (λ i. itself (flip i w)) (length w)

  unfoldable pub two_flipped : List ℕ → Answer
  two_flipped w = first_of or_else Failed (λ j. first_of or_else Failed (λ i. itself (flip i (flip j w))) j) (length w)

  unfoldable pub within2 : List ℕ → Answer
  within2 w = or_else (itself w) (or_else (one_flipped w) (two_flipped w))

unfoldable pub bounded : Degree → List ℕ → Answer
bounded d w = within2 (is_codeword d) w

-- Document 02, W-202: "how many cells it changed: 0, 1 or 2, and 0 where it fails"
abbrev pub changed : List ℕ → Answer → ℕ
changed w (Found c) = distance w c
changed w Failed = 0
