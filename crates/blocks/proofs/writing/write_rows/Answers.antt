-- `writing::write_rows` meets its contract. The loop's invariant: the first i bytes are written and added.
-- Assumes nothing.
use native.Mathlib.Omega.{arith}
use mathlib.Core.Path.{sym}
use Prim.Native.Nat.{◌<◌}
use lib.ListN.{length}
use Rattle.blocks.specs.Blocks.{packed}
use Rattle.blocks.proofs.PackedCells.{length_packed, packed_at}
use Rattle.blocks.proofs.Passing.{summing_start, summing_room, summing_next, putting_start, putting_long, putting_next}
use Rattle.blocks.proofs.writing.write_rows.Goals as goal

pub loop-i-init : goal.loop-i-init
loop-i-init c = (summing_start _ _, putting_start _ _ (sym (length_packed _ _)))

pub with_byte-so_far-requires : goal.with_byte-so_far-requires
with_byte-so_far-requires c =
    let l = c.loop-i in
    let e = length_packed (length c.args.bytes.now) c.args.cells.now in
    summing_room l.invariant.0 (rw e c.requires.0) (omega (arith, e, putting_long l.invariant.1, c.loop-i-test.true))

pub loop-i-preserved : goal.loop-i-preserved
loop-i-preserved c =
    let l = c.loop-i in
    let n = length c.args.bytes.now in
    let h : l.i < n = omega (arith, putting_long l.invariant.1, c.loop-i-test.true) in
    let in-range : l.i < length (packed n c.args.cells.now) = rw (length_packed n c.args.cells.now) h in
    let e = packed_at n c.args.cells.now l.i h c.packed_byte-packed.ensures in
    (summing_next l.invariant.0 _ e in-range c.with_byte-so_far.ensures.0 c.with_byte-so_far.ensures.1, putting_next l.invariant.1 _ e in-range)
