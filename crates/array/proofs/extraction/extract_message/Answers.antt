-- `extraction::extract_message` meets its contract. The loop's invariant: the first i message rows are copied.
-- Assumes nothing.
use native.Mathlib.Omega.{arith}
use Prim.Native.Nat.{◌*◌}
use mathlib.Core.Path.{sym, ap₂, ◌∙◌}
use Rattle.array.specs.Encoding.{extracted}
use Rattle.line.proofs.Bounds.{size_le, room_le}
use Rattle.array.proofs.Loops.{taking_start, taking_next, taking_end}
use Rattle.array.proofs.extraction.extract_message.Goals as goal

pub loop-i-init : goal.loop-i-init
loop-i-init c =
    let n = c.size_of-n.ensures in
    let r = room_le c.args.d n c.message_cells-k.ensures c.check_cells-p.ensures in
    let k = c.message_cells-k.ensures in
    taking_start _ _ _ _ _ r (size_le c.args.d n) (c.requires.0 ∙ ap₂ ◌*◌ (sym n) (sym n)) (c.requires.1 ∙ ap₂ ◌*◌ (sym k) (sym k))

pub loop-i-preserved : goal.loop-i-preserved
loop-i-preserved c =
    taking_next c.loop-i.invariant c.loop-i-test.true _ c.copy_cells.ensures

pub returns : goal.returns
unfolding extracted
returns c =
    let k = c.message_cells-k.ensures in
    taking_end c.loop-i.invariant (c.requires.1 ∙ ap₂ ◌*◌ (sym k) (sym k)) (omega arith)
    ∙ rw (c.size_of-n.ensures, k, c.check_cells-p.ensures)
