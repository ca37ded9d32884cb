-- `Base::settle_left` meets its contract: the cells that are not left in the mask hold their messages, and the count lacks the costs of those that are.
-- Assumes nothing.
use mathlib.Core.List.{List}
use Prim.Native.Nat.{ℕ, ◌+◌, ◌*◌, ◌≤◌}
use Rattle.laws.proofs.Masks.{sum_mask}
use Rattle.degree.specs.declared.Degree.{Degree}
use Rattle.line.specs.Working.Fillings.{Based}
use Rattle.words.specs.Working.Word.{value, width}
use Rattle.line.proofs.Walking.{Walk}
use Rattle.line.proofs.clause.Base.settle_left.Given as goal

abbrev pub invariant-loop-left : goal.invariant-loop-left
invariant-loop-left l = (l.count + 2 * sum_mask (value l.left) (λ i. 1) width ≤ 258) × ((d : Degree) (ys rs : List ℕ) (f : ℕ) → Based d ys rs f l.self → Walk d ys rs f l.line l.count (value l.left))

abbrev pub decreases-loop-left : goal.decreases-loop-left
decreases-loop-left l = value l.left
