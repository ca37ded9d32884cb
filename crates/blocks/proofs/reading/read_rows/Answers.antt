-- `reading::read_rows` meets its contract. The loop's invariant: the first i bytes are added and put apart.
-- Assumes nothing.
use native.Mathlib.Omega.{arith}
use mathlib.Core.Path.{refl}
use Rattle.blocks.proofs.Passing.{summing_start, summing_room, summing_next, summing_end, apart_start, apart_next, apart_end}
use Rattle.blocks.proofs.reading.read_rows.Goals as goal

pub loop-i-init : goal.loop-i-init
loop-i-init c = (summing_start _ _, apart_start _ _ c.requires.1)

pub with_byte-so_far-requires : goal.with_byte-so_far-requires
with_byte-so_far-requires c = let l = c.loop-i in summing_room l.invariant.0 c.requires.0 c.loop-i-test.true

pub loop-i-preserved : goal.loop-i-preserved
loop-i-preserved c =
    let l = c.loop-i in
    let h = c.loop-i-test.true in
    let four = c.four_cells.ensures in
    (summing_next l.invariant.0 _ refl h c.with_byte-so_far.ensures.0 c.with_byte-so_far.ensures.1, apart_next l.invariant.1 _ refl h four.0 c.put_four.ensures)

pub returns : goal.returns
returns c =
    let l = c.loop-i in
    let e = summing_end l.invariant.0 (omega arith) in
    (e.0, apart_end l.invariant.1 (omega arith), e.1)
