-- `refusals::load_test` meets its contract: the tests of encode, then those of the seed and of the cells to be hit.
-- Assumes nothing.
use Rattle.std.proofs.lemmas.Result.{err_from_is_err_and}
use Rattle.load.proofs.Refusing.{load_last, load_refused}
use Rattle.load.proofs.refusals.load_test.Goals as goal

pub returns : goal.returns
returns c =
    let s = c.args in
    load_last s.degree s.seed s.wrong s.unsure s.message.now s.cells.now c.in_ok-d.d c.hits_test.result c.in_ok-d.ensures c.hits_test.ensures

pub returns-in_err-d : goal.returns-in_err-d
returns-in_err-d c =
    let s = c.args in
    let p = err_from_is_err_and c.from_residual.result c.from_residual.ensures.1 in
    rw (p.1, p.2) (load_refused s.degree s.seed s.wrong s.unsure s.message.now s.cells.now _ c.in_err-d.ensures)
