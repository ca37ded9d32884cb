-- `codes::Code::remainder` meets its contract. The loop's invariant: the rest after the steps made. Assumes nothing.
use Rattle.std.proofs.Common.{refl, rules}
use Rattle.second.specs.Working.Encoding.{remainder_of}
use Rattle.second.proofs.Loops.{remainder_next}
use Rattle.second.proofs.codes.Code.remainder.Goals as goal

pub loop-j-init : goal.loop-j-init
unfolding remainder_of
loop-j-init c = (search rules, refl, search rules)

pub loop-j-preserved : goal.loop-j-preserved
loop-j-preserved c =
    let turn = c.loop-j in
    let s = c.args in
    (search rules, rw (c.divide-rest.ensures.0, c.coefficient.ensures.0, c.saturating_sub-last.ensures) (remainder_next s.self.n s.line turn.j turn.invariant.1), search rules)
