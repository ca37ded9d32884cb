-- `packing::PackedRows::pack` meets its contract. The loop's invariant: the first i rows are packed.
-- Assumes nothing.
use native.Mathlib.Omega.{arith}
use Rattle.array.proofs.PackedLaws.{packing_start, packing_next, packing_end}
use Rattle.array.proofs.packing.PackedRows.pack.Goals as goal

pub loop-i-init : goal.loop-i-init
loop-i-init c = packing_start c.args.d _ c.size_of-n.ensures c.requires.1

pub loop-i-preserved : goal.loop-i-preserved
loop-i-preserved c =
    packing_next c.args.d c.requires.0 c.loop-i.invariant c.size_of-n.ensures c.loop-i-test.true c.pack-l.ensures c.put.ensures

pub returns : goal.returns
returns c = packing_end c.args.d c.requires.0 c.loop-i.invariant c.size_of-n.ensures (omega arith)
