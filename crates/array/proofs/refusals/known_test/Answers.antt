-- `array::refusals::known_test` meets its contract: the iterations first, then what is lent, at the size of the degree.
-- Assumes nothing.
use Rattle.array.proofs.Refusing.{decode_iterations, decode_lengths}
use Rattle.array.proofs.refusals.known_test.Goals as goal

pub returns-then-iterations : goal.returns-then-iterations
returns-then-iterations c =
    let s = c.args in
    decode_iterations s.d s.iterations s.received.now s.filling.now s.cells.now c.if-iterations.true

pub returns-else-iterations : goal.returns-else-iterations
returns-else-iterations c =
    let s = c.args in
    decode_lengths s.d s.iterations s.received.now s.filling.now s.cells.now c.lent_test.result
    c.if-iterations.false c.size_of-n.ensures c.lent_test.ensures
