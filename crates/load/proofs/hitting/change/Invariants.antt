-- `hitting::change` meets its contract. The loop's invariant: the places from the one at hand on are left.
-- Assumes nothing.
use Rattle.std.proofs.Common.{◌≡◌, ℕ}
use Rattle.load.proofs.Changing.{Changing}
use Rattle.load.proofs.hitting.change.Given as goal

abbrev pub invariant-loop-place : goal.invariant-loop-place
invariant-loop-place g l = (f : ℕ → ℕ) → ((c x : ℕ) → goal.F-post g l.fn.by c x → x ≡ f c) → Changing f l.fn.places l.initial.cells l.cells l.place-index
