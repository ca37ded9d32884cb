-- `array::entry::decode` meets its contract: a call that is taken is answered by `decode_array`, one that is refused leaves all as it came.
-- Assumes nothing.
use Rattle.array.proofs.Refusing.{decode_takes}
use Rattle.array.proofs.DecodeLaws.{done_taken, done_refused}
use Rattle.array.proofs.entry.decode.Goals as goal

pub decode_array-requires : goal.decode_array-requires
decode_array-requires c =
    let s = c.args in
    let h = decode_takes s.degree s.iterations s.received.now s.filling.now s.cells.now c.in-Ok.d (rw c.in-Ok.is at c.decode_test.ensures) in
    (h.0, h.1, h.2, h.3)

pub returns-in-Ok : goal.returns-in-Ok
returns-in-Ok c =
    let s = c.args in
    done_taken s.degree s.iterations s.received.now s.filling.now s.cells.now (rw c.in-Ok.is at c.decode_test.ensures) c.decode_array.ensures

pub returns-in-Err : goal.returns-in-Err
returns-in-Err c =
    let s = c.args in
    done_refused s.degree s.iterations s.received.now s.filling.now s.cells.now c.in-Err.why (rw c.in-Err.is at c.decode_test.ensures)
