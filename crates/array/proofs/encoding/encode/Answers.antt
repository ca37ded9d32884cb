-- `array::encoding::encode` meets its contract: the tests of a taken call say that what is lent is of the right form.
-- Assumes nothing.
use Rattle.std.proofs.Common.{refl}
use Rattle.std.proofs.lemmas.Result.{err_from_is_err_and}
use Rattle.array.proofs.Refusing.{coding_taken, message_bits}
use Rattle.array.proofs.EncodeLaws.{encoded_taken, encoded_refused}
use Rattle.array.proofs.encoding.encode.Goals as goal

pub encode_array-requires : goal.encode_array-requires
encode_array-requires c =
    let s = c.args in
    let h = c.in_ok-d.ensures in
    (message_bits s.degree s.message.now s.cells.now c.in_ok-d.d h, (coding_taken 1 s.degree s.message.now s.cells.now s.message.now c.in_ok-d.d h).1)

pub returns : goal.returns
returns c =
    let s = c.args in
    encoded_taken s.degree s.message.now s.cells.now c.in_ok-d.ensures c.encode_array.ensures

pub returns-in_err-d : goal.returns-in_err-d
returns-in_err-d c =
    let s = c.args in
    let p = err_from_is_err_and c.from_residual.result c.from_residual.ensures.1 in
    rw (p.1, p.2) (encoded_refused s.degree s.message.now s.cells.now _ refl c.in_err-d.ensures)
