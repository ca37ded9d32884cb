-- `array::refusals::decode_test` meets its contract: the degree is tested first, then what `known_test` tests.
-- Assumes nothing.
use Rattle.std.proofs.lemmas.Result.{err_from_is_err_and}
use Rattle.array.specs.Refusals.{decode_tests}
use Rattle.array.proofs.refusals.decode_test.Goals as goal

pub returns-in_err-d : goal.returns-in_err-d
unfolding decode_tests
returns-in_err-d c =
    let p = err_from_is_err_and c.from_residual.result c.from_residual.ensures.1 in
    rw (p.1, p.2, c.in_err-d.ensures.0)
