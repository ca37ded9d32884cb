-- Codewords. Document 01, "The code": a word is a codeword when its check sums s1 and s3 are 0 and its ones are even in number.
use Rattle.std.specs.Prelude.{◌≡◌, Bool, ◌&&◌, List, ℕ, eqb}
use Rattle.degree.specs.declared.Degree.{Degree}
use Rattle.degree.specs.Degree.{size}
use Rattle.field.specs.Syndrome.{s1, s3, parity}
use Rattle.line.specs.Cells.{IsWord}

pub record Codeword (d : Degree) (c : List ℕ) : Type 0 where
  pub word : IsWord (size d) c
  pub first : s1 d c ≡ 0
  pub third : s3 d c ≡ 0
  pub even : parity d c ≡ 0

-- the same, as a test of a full word
unfoldable pub is_codeword : Degree → List ℕ → Bool
is_codeword d w = eqb (parity d w) 0 && (eqb (s1 d w) 0 && eqb (s3 d w) 0)
