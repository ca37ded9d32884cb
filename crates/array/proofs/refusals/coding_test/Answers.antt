-- `array::refusals::coding_test` meets its contract: the degree is tested first, then what is lent, at the sizes of the degree.
-- Assumes nothing.
use Rattle.std.proofs.lemmas.Result.{err_from_is_err_and}
use mathlib.Core.Path.{sym, ◌∙◌}
use lib.ListN.{length}
use Rattle.line.proofs.Refusing.{known_size}
use Rattle.array.specs.Refusals.{coding_tests}
use Rattle.array.proofs.Refusing.{known_message, square_misfit, lent_known}
use Rattle.array.proofs.refusals.coding_test.Goals as goal

pub returns : goal.returns
unfolding coding_tests
returns c =
    let s = c.args in
    let d = c.in_ok-d.d in
    let e = c.in_ok-d.ensures in
    lent_known s.degree _ _ s.bound s.read.now d c.lent_test.result e
    (square_misfit (length s.message.now) (c.message_cells-k.ensures ∙ sym (known_message s.degree d e)))
    (square_misfit (length s.cells.now) (c.size_of-n.ensures ∙ sym (known_size s.degree d e))) c.lent_test.ensures

pub returns-in_err-d : goal.returns-in_err-d
unfolding coding_tests
returns-in_err-d c =
    let p = err_from_is_err_and c.from_residual.result c.from_residual.ensures.1 in
    rw (p.1, p.2, c.in_err-d.ensures.0)
