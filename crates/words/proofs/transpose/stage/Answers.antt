-- `transpose::stage` meets its contract. The loop's invariant: the first q blocks are done. By the mask's test the blocks' words are
-- the stage bit by bit.
-- Assumes nothing.
use mathlib.Core.Path.{◌≡◌, refl}
use native.Mathlib.Omega.{arith}
use Rattle.words.proofs.SwapLaws.{staged_next, crossed}
use Rattle.words.proofs.transpose.stage.Goals as goal

pub loop-q-preserved : goal.loop-q-preserved
loop-q-preserved c =
    let l = c.loop-q in
    staged_next _ _ _ l.q _ l.a _ refl l.invariant c.swap_block.ensures

pub returns : goal.returns
returns c =
    let l = c.loop-q in
    let e : l.q ≡ c.args.k = omega arith in
    crossed c.args.k c.args.j c.args.m c.requires.2 _ _ c.requires.1 (rw e at l.invariant)
