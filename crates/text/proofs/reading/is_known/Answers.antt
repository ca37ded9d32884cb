-- `reading::is_known` meets its contract. The loop's invariant: `all` is the test of the bytes passed.
-- Assumes nothing.
use mathlib.Core.Path.{◌≡◌, ap, ◌∙◌}
use native.Mathlib.Omega.{arith}
use lib.ListN.{length}
use Rattle.laws.specs.Tests.{every}
use Rattle.text.specs.Text.{byte, known}
use Rattle.text.specs.Working.Characters.{is_known}
use Rattle.text.proofs.reading.is_known.Goals as goal

pub returns : goal.returns
unfolding known
returns c =
    let s = c.args.text.now in
    let e : c.loop-byte.byte-index ≡ length s = omega (arith, c.loop-byte.invariant.0) in
    c.loop-byte.invariant.1 ∙ ap (every (λ p. is_known (byte s p))) e
