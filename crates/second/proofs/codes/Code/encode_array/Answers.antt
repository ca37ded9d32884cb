-- `codes::Code::encode_array` meets its contract. The loop's invariant: the first lines are encoded. Assumes nothing.
use Rattle.std.proofs.Common.{refl, rules}
use Rattle.second.specs.Working.Encoding.{encoded_to}
use Rattle.second.proofs.Loops.{encoded_next}
use Rattle.second.proofs.codes.Code.encode_array.Goals as goal

pub loop-i-init : goal.loop-i-init
unfolding encoded_to
loop-i-init c = (search rules, refl)

pub loop-i-preserved : goal.loop-i-preserved
loop-i-preserved c =
    let turn = c.loop-i in
    let s = c.args in
    (search rules, rw (c.put_line.ensures, c.encode_line-line.ensures, c.take_line.ensures) (encoded_next s.self.n turn.i s.cells.now turn.invariant.1))
