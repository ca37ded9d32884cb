-- `iterations::run` meets its contract. The loop's invariant: what is left of the plain decoding, from the array at hand on, ends
-- with what all of it ends with.
-- Assumes nothing.
use native.Mathlib.Omega.{arith}
use borrow.Author.Rules.{rules}
use Rattle.array.proofs.RunLaws.{run_start, run_next, run_end}
use Rattle.array.proofs.iterations.run.Goals as goal

pub loop-k-init : goal.loop-k-init
loop-k-init c = run_start _ _ _ _ _ _ _

pub loop-k-preserved : goal.loop-k-preserved
loop-k-preserved c =
    run_next c.loop-k.invariant c.size_of-n.ensures c.loop-k-test.true (search rules) c.iterate-c.ensures

pub returns : goal.returns
returns c = run_end c.loop-k.invariant c.size_of-n.ensures (omega arith)
