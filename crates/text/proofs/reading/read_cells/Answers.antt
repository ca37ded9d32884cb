-- `reading::read_cells` meets its contract. The loop's invariant: the cells of the first i lines are written.
-- Assumes nothing.
use Prim.Native.Nat.{◌+◌, ◌*◌}
use mathlib.Core.Path.{refl, ap, ◌∙◌}
use mathlib.Core.List.{map}
use native.Mathlib.Omega.{arith}
use Rattle.std.proofs.Common.{rules}
use Rattle.text.specs.Text.{cell_of, cells_of}
use Rattle.array.proofs.WrittenLines.{part_at, lining_start, lining_put, lining_all}
use Rattle.text.proofs.WritingLaws.{cells_even}
use Rattle.text.proofs.reading.read_cells.Goals as goal

pub loop-i-init : goal.loop-i-init
loop-i-init c =
    lining_start (cells_even cell_of c.args.n c.args.text.now c.requires.1) (omega (arith, c.requires.2))

pub loop-i-preserved : goal.loop-i-preserved
loop-i-preserved c =
    lining_put c.loop-i.invariant c.loop-i-test.true _
    (c.turn_line.ensures cell_of (λ x y p. search rules) ∙ ap (map cell_of) (part_at (c.loop-i.i * (c.args.n + 1)) c.args.n c.args.text.now refl))

pub returns : goal.returns
unfolding cells_of
returns c = lining_all c.loop-i.invariant c.requires.2 (omega arith)
