-- `reading::read_filler` meets its contract. The loop's invariant: the bytes passed are added, and tested.
-- Assumes nothing.
use Rattle.std.proofs.Common.{arith, refl, ap, ◌∙◌}
use lib.Seq.{take_all}
use Rattle.line.specs.Refusals.{at_most}
use Rattle.blocks.proofs.Passing.{summing_start, summing_room, summing_next, summing_end, zeros_start, zeros_next}
use Rattle.blocks.proofs.reading.read_filler.Goals as goal

pub loop-byte-init : goal.loop-byte-init
loop-byte-init c = (summing_start _ _, zeros_start c.args.bytes.now)

pub with_byte-so_far-requires : goal.with_byte-so_far-requires
with_byte-so_far-requires c = summing_room c.loop-byte.invariant.0 c.requires c.loop-byte-test.true

pub loop-byte-preserved : goal.loop-byte-preserved
loop-byte-preserved c =
    let l = c.loop-byte in
    let h = c.loop-byte-test.true in
    let t = c.with_byte-so_far.ensures in
    (summing_next l.invariant.0 _ refl h t.0 t.1, zeros_next c.args.bytes.now l.byte-index h l.invariant.1)

pub returns : goal.returns
returns c =
    let l = c.loop-byte in
    let h = c.loop-byte-test.false in
    let e = summing_end l.invariant.0 (omega arith) in
    (e.0, l.invariant.1 ∙ ap (at_most 0) (take_all l.byte-index c.args.bytes.now (omega arith)), e.1)
