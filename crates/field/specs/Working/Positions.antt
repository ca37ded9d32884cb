-- The error positions that belong to the first two check sums s1 and s3: none, one or two cells below n - 1 whose flips
-- would make both sums 0, or the answer that no such cells fit.
use Rattle.std.specs.Prelude.{Bool, true, false, ◌&&◌, ℕ, ◌*◌, ◌<◌, eqb}
use Rattle.std.specs.Int.Bits.{bit_xor}
use Rattle.laws.specs.Searches.{first_of}
use Rattle.degree.specs.declared.Degree.{Degree}
use Rattle.field.specs.declared.locate.Positions.{Positions}
use Rattle.field.specs.declared.locate.Positions.TheVariants.{Zero, One, Two, Unfit}
use Rattle.degree.specs.Degree.{order}
use Rattle.field.specs.Field.{power}

-- the sum of f over the positions
abbrev pub total : (ℕ → ℕ) → Positions → ℕ
total f Zero = 0
total f (One i) = f i
total f (Two i j) = bit_xor (f i) (f j)
total f Unfit = 0

-- the positions, where their sums are s1 and s3
unfoldable pub fitting : Degree → ℕ → ℕ → Positions → Positions
fitting d s1 s3 p =
    elim (eqb (total (λ i. power d i) p) s1 && eqb (total (λ i. power d (3 * i)) p) s3) [ true ↦ p | false ↦ Unfit ]

-- the first that fits
abbrev pub or_else : Positions → Positions → Positions
or_else Zero q = Zero
or_else (One i) q = One i
or_else (Two i j) q = Two i j
or_else Unfit q = q

-- the first that is found by f: at no position; else at one position i below n; else at two positions i < j below n
unfoldable pub searched : {A : Type 0} → (A → A → A) → A → (Positions → A) → ℕ → A
searched or_else none f n =
    or_else (f Zero)
    (or_else (first_of or_else none (λ i. f (One i)) n)
    (first_of or_else none (λ j. first_of or_else none (λ i. f (Two i j)) j) n))

-- the positions that fit, else none fit
unfoldable pub located : Degree → ℕ → ℕ → Positions
located d s1 s3 = searched or_else Unfit (fitting d s1 s3) (order d)

-- the positions without the answer of two: where the flip of two cells is of no use, they need not be searched
abbrev pub at_most_one : Positions → Positions
at_most_one Zero = Zero
at_most_one (One i) = One i
at_most_one (Two i j) = Unfit
at_most_one Unfit = Unfit

-- the positions that can be of use: two are of none where the ones of a word are odd in number
abbrev pub usable : (even : Bool) → Positions → Positions
usable true p = p
usable false p = at_most_one p

-- the positions are cells below n
abbrev pub Below : ℕ → Positions → Type 0
Below n Zero = Unit {0}
Below n (One i) = i < n
Below n (Two i j) = (i < n) × (j < n)
Below n Unfit = Unit {0}
