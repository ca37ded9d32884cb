-- The short clauses that settle a message, and the count of a line. Document 01, "Outgoing messages". The messages
-- themselves are defined without them (`Decoding`); that each clause gives the message is a law, and only the count names them.
use Rattle.std.specs.Prelude.{Bool, false, cond, not, ◌&&◌, ◌||◌, List, ℕ, ◌+◌, eqb, leb, length}
use Rattle.laws.specs.Sums.{sum_to}
use Rattle.line.specs.declared.side.Side.{Side}
use Rattle.line.specs.declared.side.Side.TheVariants.{One, Two}
use Rattle.line.specs.declared.clause.Clause.{Clause}
use Rattle.line.specs.declared.clause.Clause.TheVariants.{Equal, Crowded, Both, Neither, Agreeing, Unchanged, Open, Afresh, Channel}
use Rattle.line.specs.Cells.{cell, is_erased, erasures, few, distance, filled, designed_distance, radius}
use Rattle.line.specs.Bounded.{Answer, Found, Failed, or_back}
use Rattle.line.specs.Decoding.{replaced}

-- the decodings that a cell costs beyond the two of its line
abbrev pub cost : Clause → ℕ
cost Equal = 0
cost Crowded = 0
cost Both = 0
cost Neither = 0
cost (Agreeing s) = 0
cost (Unchanged s) = 0
cost (Open s) = 1
cost Afresh = 2
cost Channel = 0

abbrev pub other : Side → Side
other One = Two
other Two = One

-- what was found is a codeword within 2 of the word
abbrev pub near : Answer → List ℕ → Bool
near Failed w = false
near (Found c) w = leb (distance w c) radius

-- the first clause that fits, from: which fillings are in reach, is the channel cell unsure, which reached codewords agree
-- with the other replaced filling, which fillings are unchanged by the replacement
abbrev pub first_fit : (reach1 reach2 unsure agrees1 agrees2 same1 same2 : Bool) → Clause
first_fit reach1 reach2 unsure agrees1 agrees2 same1 same2 =
    cond (reach1 && reach2) Both
    (cond (not (reach1 || reach2) && not unsure) Neither
    (cond (reach1 && agrees1) (Agreeing One)
    (cond (reach2 && agrees2) (Agreeing Two)
    (cond (reach1 && same2) (Unchanged One)
    (cond (reach2 && same1) (Unchanged Two)
    (Open (cond (reach1 || same1) Two One)))))))

module _ (dec : List ℕ → Answer) where
  -- incoming line y, channel line r, filling word f, cell k
  module _ (y r : List ℕ) (f k : ℕ) where
    -- a filled word before and after the replacement
    abbrev pub before : Side → List ℕ
    before s = filled s y f

    abbrev pub after : Side → List ℕ
    after s = filled s (replaced y r k) f

    -- in reach: the incoming line's filled word decoded to a codeword that is within 2 of the replaced line's
    unfoldable pub reach : Side → Bool
    reach s = near (dec (before s)) (after s)

    -- the filling is unchanged by the replacement
    unfoldable pub same : Side → Bool
    same s = eqb (cell (before s) k) (cell (after s) k)

    -- cell k of an answer to the replaced line
    abbrev pub answer_cell : Answer → ℕ
    answer_cell a = cell (or_back (replaced y r k) a) k

    -- the codeword of filling s agrees at k with the other replaced filling
    unfoldable pub agrees : Side → Bool
    agrees s = eqb (answer_cell (dec (before s))) (cell (after (other s)) k)

    unfoldable pub by_reach : Clause
    by_reach =
        first_fit (reach One) (reach Two) (is_erased (cell r k)) (agrees One) (agrees Two) (same One) (same Two)

    -- the clause that settles cell k
    unfoldable pub clause : Clause
    clause =
        cond (few y)
        (cond (eqb (cell y k) (cell r k)) Equal
        (cond (few (replaced y r k)) by_reach Crowded))
        (cond (eqb (erasures y) designed_distance && (is_erased (cell y k) && not (is_erased (cell r k)))) Afresh Channel)

  -- the count of a line: 2 if fewer than 6 unsure cells come in, else 0, plus 1 for each open cell, plus 2 for each cell
  -- decoded afresh
  unfoldable pub count : List ℕ → List ℕ → ℕ → ℕ
  count y r f = cond (few y) 2 0 + sum_to (λ k. cost (clause y r f k)) (length y)
