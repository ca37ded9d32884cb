-- `codewords::Decoder::syndrome` meets its contract. The loop's invariant: the weights of the first cells are added. Assumes nothing.
use Rattle.std.proofs.Common.{cond, eqb, get_or, refl, rules}
use Rattle.second.specs.Working.Loops.{xored}
use Rattle.second.proofs.Loops.{xored_next}
use Rattle.second.proofs.codewords.Decoder.syndrome.Goals as goal

pub loop-i-init : goal.loop-i-init
unfolding xored
loop-i-init c = (search rules, refl)

pub loop-i-preserved : goal.loop-i-preserved
loop-i-preserved c =
    let turn = c.loop-i in
    let s = c.args in
    (search rules, rw c.added-sum.ensures (xored_next (λ k. cond (eqb (get_or s.word k 0) 1) (get_or s.self.now.weights k 0) 0) turn.i turn.invariant.1))
