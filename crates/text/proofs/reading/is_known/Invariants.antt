-- `reading::is_known` meets its contract. The loop's invariant: `all` is the test of the bytes passed.
-- Assumes nothing.
use Prim.Native.Nat.{◌≤◌}
use mathlib.Core.Path.{◌≡◌}
use lib.ListN.{length}
use Rattle.laws.specs.Tests.{every}
use Rattle.text.specs.Text.{byte}
use Rattle.text.specs.Working.Characters.{is_known}
use Rattle.text.proofs.reading.is_known.Given as goal

abbrev pub invariant-loop-byte : goal.invariant-loop-byte
invariant-loop-byte l = (l.byte-index ≤ length l.text) × (l.all ≡ every (λ p. is_known (byte l.text p)) l.byte-index)
