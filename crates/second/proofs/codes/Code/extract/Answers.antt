-- `codes::Code::extract` meets its contract. The loop's invariant: the first cells are written. Assumes nothing.
use Rattle.std.proofs.Common.{get_or, refl, rules}
use Rattle.second.specs.Working.Loops.{written}
use Rattle.second.specs.Working.Encoding.{message_place}
use Rattle.second.proofs.Loops.{written_next}
use Rattle.second.proofs.codes.Code.extract.Goals as goal

pub loop-p-init : goal.loop-p-init
unfolding written
loop-p-init c = (search rules, refl)

pub loop-p-preserved : goal.loop-p-preserved
loop-p-preserved c =
    let turn = c.loop-p in
    let s = c.args in
    (search rules, rw c.message_place.ensures.0 (written_next (λ k. k) (λ k. get_or s.cells.now (message_place s.self.n k) 0) turn.p s.message.now turn.invariant.1))
