-- `array::refusals::row_test` meets its contract: the degree is tested first, then what is lent, at the size of the degree.
-- Assumes nothing.
use Rattle.std.proofs.lemmas.Result.{err_from_is_err_and}
use Prim.Native.Nat.{ℕ}
use mathlib.Core.Path.{sym, ap, ◌∙◌}
use lib.Dec.{leb}
use lib.ListN.{length}
use Rattle.line.proofs.Refusing.{known_size}
use Rattle.array.specs.Refusals.{row_tests}
use Rattle.array.proofs.Refusing.{square_misfit, lent_known}
use Rattle.array.proofs.refusals.row_test.Goals as goal

pub returns : goal.returns
unfolding row_tests
returns c =
    let s = c.args in
    let d = c.in_ok-d.d in
    let e = c.in_ok-d.ensures in
    let n = c.size_of-n.ensures ∙ sym (known_size s.degree d e) in
    lent_known s.degree _ _ 2 s.cells.now d c.lent_test.result e (square_misfit (length s.cells.now) n) (ap (λ (x : ℕ). leb x s.index) n) c.lent_test.ensures

pub returns-in_err-d : goal.returns-in_err-d
unfolding row_tests
returns-in_err-d c =
    let p = err_from_is_err_and c.from_residual.result c.from_residual.ensures.1 in
    rw (p.1, p.2, c.in_err-d.ensures.0)
