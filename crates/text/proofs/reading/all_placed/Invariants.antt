-- `reading::all_placed` meets its contract. The loop's invariant: `all` is the test of the bytes passed.
-- Assumes nothing.
use Prim.Native.Nat.{◌≤◌}
use mathlib.Core.Path.{◌≡◌}
use lib.ListN.{length}
use Rattle.laws.specs.Tests.{every}
use Rattle.text.specs.Text.{byte}
use Rattle.text.specs.Working.Characters.{placed}
use Rattle.text.proofs.reading.all_placed.Given as goal

abbrev pub invariant-loop-p : goal.invariant-loop-p
invariant-loop-p l = (l.p ≤ length l.text) × (l.all ≡ every (λ p. placed l.n p (byte l.text p)) l.p)
