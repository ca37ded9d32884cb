-- `line::refusals::line_test` meets its contract: the degree is tested first, then what `lent_test` tests.
-- Assumes nothing.
use Rattle.std.proofs.lemmas.Result.{err_from_is_err_and}
use Rattle.line.proofs.Refusing.{line_known, line_unknown}
use Rattle.line.proofs.refusals.line_test.Goals as goal

pub returns-in_err-d : goal.returns-in_err-d
returns-in_err-d c =
    let s = c.args in
    let p = err_from_is_err_and c.from_residual.result c.from_residual.ensures.1 in
    rw (p.1, p.2) (line_unknown s.bound s.degree s.cells.now c.in_err-d.ensures.0)

pub returns : goal.returns
returns c =
    let s = c.args in
    line_known s.bound s.degree s.cells.now c.in_ok-d.d c.lent_test.result c.in_ok-d.ensures c.cells.ensures c.lent_test.ensures
