-- `codes::Code::weights` meets its contract. The loop's invariant: the first weights are written. Assumes nothing.
use Rattle.std.proofs.Common.{replicate, refl, rules}
use Rattle.second.specs.Working.Codes.{weight_of}
use Rattle.second.specs.Working.Loops.{written}
use Rattle.second.proofs.Loops.{written_next}
use Rattle.second.proofs.codes.Code.weights.Goals as goal

pub loop-i-init : goal.loop-i-init
unfolding written
loop-i-init c = (search rules, refl)

pub loop-i-preserved : goal.loop-i-preserved
loop-i-preserved c =
    let turn = c.loop-i in
    (search rules, rw (c.power-in-loop-i.ensures.0, c.power.ensures.0) (written_next (λ k. k) (weight_of c.args.self.n) turn.i (replicate 128 0) turn.invariant.1))
