-- What each of document 01's clauses gives. The messages are defined without the clauses; that each gives the message is a law.
use Rattle.std.specs.Prelude.{cond, List, ℕ}
use Rattle.line.specs.declared.side.Side.{Side}
use Rattle.line.specs.declared.side.Side.TheVariants.{One, Two}
use Rattle.line.specs.declared.clause.Clause.{Clause}
use Rattle.line.specs.declared.clause.Clause.TheVariants.{Equal, Crowded, Both, Neither, Agreeing, Unchanged, Open, Afresh, Channel}
use Rattle.line.specs.Cells.{cell}
use Rattle.line.specs.Bounded.{Answer, Failed}
use Rattle.line.specs.Decoding.{choice, replaced, decoded}
use Rattle.line.specs.Clauses.{near, before, after, answer_cell}

-- what was found, where it is near
abbrev pub if_near : Answer → List ℕ → Answer
if_near a w = cond (near a w) a Failed

-- the choice with a new answer for one filling
abbrev pub instead : List ℕ → Side → Answer → Answer → Answer → Answer
instead y One new a b = choice y new b
instead y Two new a b = choice y a new

-- incoming line y, channel line r, filling word f, cell k
module _ (dec : List ℕ → Answer) (y r : List ℕ) (f k : ℕ) where
  -- what a filling of the incoming line found
  abbrev found : Side → Answer
  found s = dec (before dec y r f k s)

  -- the same, where it is in reach
  abbrev reached : Side → Answer
  reached s = if_near (found s) (after dec y r f k s)

  -- the choice at an open cell: filling s is decoded once more, what the other one found counts where it is in reach
  abbrev pub open_choice : Side → Answer
  open_choice s = instead (replaced y r k) s (dec (after dec y r f k s)) (reached One) (reached Two)

  -- cell k of an answer to the replaced line
  abbrev at : Answer → ℕ
  at = answer_cell dec y r f k

  -- the message as the clause gives it
  unfoldable pub settled : Clause → ℕ
  settled Equal = cell (decoded dec y f) k
  settled Crowded = 2
  settled Both = at (choice (replaced y r k) (found One) (found Two))
  settled Neither = cell r k
  settled (Agreeing s) = at (found s)
  settled (Unchanged s) = at (found s)
  settled (Open s) = at (open_choice s)
  settled Afresh = cell (decoded dec (replaced y r k) f) k
  settled Channel = cell r k
