-- Small lines of degree 4, one for each clause of document 01, as one table: so that no clause can be left out, put in another's place or
-- counted otherwise, in the definition and in the code alike.
-- Assumes nothing.
use mathlib.Core.Path.{◌≡◌, refl}
use mathlib.Core.List.{List, [], ◌∷◌, map}
use Prim.Native.Nat.{ℕ}
use lib.ListN.{set}
use Rattle.degree.specs.declared.Degree.TheVariants.{Four}
use Rattle.field.specs.Field.{double, times_power}
use Rattle.laws.specs.Digits.{sum_over, ones_in}
use Rattle.laws.specs.Searches.{first_of}
use Rattle.laws.specs.Sums.{sum_to}
use Rattle.line.specs.declared.side.Side.TheVariants.{One, Two}
use Rattle.line.specs.declared.clause.Clause.{Clause}
use Rattle.line.specs.declared.clause.Clause.TheVariants.{Equal, Crowded, Both, Neither, Agreeing, Unchanged, Open, Afresh, Channel}
use Rattle.line.specs.Cells.{erasures, distance, filled, flip}
use Rattle.line.specs.Codeword.{is_codeword}
use Rattle.line.specs.Bounded.{itself, one_flipped, two_flipped, within2, bounded}
use Rattle.line.specs.Clauses.{reach, same, agrees, by_reach, clause, count}
use Rattle.line.proofs.Examples.{line, zeros, p4, p14}

-- an incoming line, the one cell at which the channel may differ and the channel's value there; the clause that settles that cell, and the
-- count of the line; filling zero
pub data Row : Type 0 where
  Settles : List ℕ → ℕ → ℕ → Clause → ℕ → Row

abbrev rows : List Row
rows =
    Settles zeros 0 0 Equal 2
    ∷ Settles p4 15 2 Crowded 2
    ∷ Settles zeros 0 1 Both 2
    ∷ Settles (line (0 ∷ 1 ∷ []) []) 2 1 Neither 2
    ∷ Settles (line [] (0 ∷ 1 ∷ 2 ∷ [])) 0 0 (Agreeing One) 2
    ∷ Settles (line (0 ∷ 1 ∷ []) (2 ∷ 5 ∷ [])) 2 1 (Agreeing Two) 2
    -- here the other filling is unchanged too: agreeing comes first
    ∷ Settles (line (0 ∷ 1 ∷ 2 ∷ []) (5 ∷ 11 ∷ [])) 3 2 (Agreeing Two) 2
    ∷ Settles (line [] (0 ∷ 1 ∷ 2 ∷ [])) 0 1 (Unchanged One) 2
    ∷ Settles (line (0 ∷ 1 ∷ 2 ∷ []) (5 ∷ [])) 11 2 (Unchanged Two) 2
    ∷ Settles (line (0 ∷ 1 ∷ 2 ∷ []) []) 0 2 (Open One) 3
    ∷ Settles (line [] (0 ∷ 1 ∷ [])) 2 1 (Open Two) 3
    ∷ Settles p14 0 0 Afresh 2
    ∷ Settles p14 10 1 Channel 0
    ∷ []

-- a row with what the definitions give in the place of its result
abbrev computed : Row → Row
computed (Settles y k x c n) = Settles y k x (clause (bounded Four) y (set y k x) 0 k) (count (bounded Four) y (set y k x) 0)

-- every row is as the definitions give it
pub clauses : map computed rows ≡ rows
unfolding bounded within2 one_flipped two_flipped itself first_of flip is_codeword ones_in sum_over double times_power filled erasures distance count sum_to reach same agrees by_reach clause
clauses = refl
