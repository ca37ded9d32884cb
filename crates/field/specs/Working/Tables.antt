-- What the tables of a degree hold. They are made once and lent; `FieldTables` keeps this, and nothing here has to be believed to read
-- what its functions answer.
use Rattle.std.specs.Prelude.{◌≡◌, List, ℕ, ◌+◌, ◌*◌, ◌<◌, length, get_or}
use Rattle.laws.specs.Working.Digits.{up_to}
use Rattle.degree.specs.declared.Degree.{Degree}
use Rattle.degree.specs.Degree.{size, order}
use Rattle.words.specs.Working.Sums.{ByteSums}
use Rattle.field.specs.Field.{power}
use Rattle.field.specs.declared.tables.FieldEntries.{FieldEntries}

-- the fixed table of powers
pub record Powers (d : Degree) (ps : List ℕ) : Type 0 where
  pub long : length ps ≡ order d
  pub at : (i : ℕ) → i < order d → get_or ps i 0 ≡ power d i

-- the check sums of a word whose one 1 is cell i, side by side in one number: s1 in 7 binary digits, s3 in the next 7, the
-- parity above them
unfoldable pub weight : Degree → ℕ → ℕ
weight d i =
    up_to (order d) (λ i. power d i) i + 128 * (up_to (order d) (λ i. power d (3 * i)) i + 128 * up_to (size d) (λ i. 1) i)

-- entry i, for each cell i: its weight
abbrev pub Weights : Degree → List ℕ → Type 0
Weights d t = (i : ℕ) → i < 128 → get_or t i 0 ≡ weight d i

-- entry α^i: the number i
abbrev pub Logs : Degree → List ℕ → Type 0
Logs d t = (i : ℕ) → i < order d → get_or t (power d i) 0 ≡ i

-- entry 256 j + x, for j below 16: the weights of the cells 8 j + i, summed over the bits i of x
abbrev pub Sums : Degree → List ℕ → Type 0
Sums d t = ByteSums (λ i. weight d i) 0 16 t

-- entries that are 0; of the logarithms each that is read is put
pub record Empty (e : FieldEntries) : Type 0 where
  pub weights : (i : ℕ) → get_or e.weights i 0 ≡ 0
  pub sums : (i : ℕ) → get_or e.sums i 0 ≡ 0

-- what is made of the powers, and at the end their number
pub record Filled (d : Degree) (e : FieldEntries) : Type 0 where
  pub weights : Weights d e.weights
  pub logs : Logs d e.logs
  pub sums : Sums d e.sums
  pub last : e.last ≡ order d
