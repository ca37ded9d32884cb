-- The report of a call: the lent slice that its numbers are written to.
use Rattle.std.specs.Prelude.{◌≡◌, Bool, cond, List, [], ◌∷◌, ℕ, eqb, length}
use Rattle.line.specs.Refusals.{misfit}

-- what a call leaves in its report: the numbers where they fit, no more and no less, else the old ones. The length of a report is tested
-- with the lengths, as that of one of the lent slices (refusal 3). The numbers of a refused call are 0.
abbrev pub told : (numbers old : List ℕ) → List ℕ
told numbers old = cond (eqb (length old) (length numbers)) numbers old

-- the call answers as the entry does, returns the refusal and reports n numbers of the answer
pub record Told (A : Type 0) (n : ℕ) (refusal_of : A → ℕ) (numbers_of : A → List ℕ) (Done : List Bool → A → Type 0) (old new : List ℕ) (number : ℕ) : Type 0 where
  pub answer : A
  pub done : Done (misfit (length old) n ∷ []) answer
  pub refusal : number ≡ refusal_of answer
  pub report : new ≡ told (numbers_of answer) old
