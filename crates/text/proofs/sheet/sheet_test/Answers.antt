-- `text::sheet::sheet_test` meets its contract: a first line that names a degree has two bytes, and the lines after it are tested.
-- Assumes nothing.
use Rattle.std.proofs.Common.{◌≡◌, None, Some, sym, ap, ◌∙◌, arith}
use Rattle.std.proofs.lemmas.Result.{err_from_is_err_and}
use Rattle.degree.specs.Degree.{named}
use Rattle.line.specs.declared.refusals.Refusal.TheVariants.{BadDegree}
use Rattle.text.specs.Text.{first_line, sheet_tests}
use Rattle.text.proofs.SheetLaws.{sheet_known, rest_is}
use Rattle.text.proofs.sheet.sheet_test.Goals as goal

pub returns-in_err-number : goal.returns-in_err-number
unfolding sheet_tests
returns-in_err-number c =
    let none : c.first_line.result ≡ None = grind arith in
    let bad : c.in_err-number.field-0.0 ≡ BadDegree = grind arith in
    let zero : first_line c.args.input.now ≡ 0 = rw none at c.first_line.ensures in
    let p = err_from_is_err_and c.from_residual.result c.from_residual.ensures.1 in
    rw (p.1, p.2, bad, zero)

pub returns-in_err-d : goal.returns-in_err-d
unfolding sheet_tests
returns-in_err-d c =
    let some : c.first_line.result ≡ Some c.in_ok-number.number = grind arith in
    let same = rw some at c.first_line.ensures in
    let p = err_from_is_err_and c.from_residual-in_err-d.result c.from_residual-in_err-d.ensures.1 in
    rw (p.1, p.2, ap named (sym same) ∙ c.in_err-d.ensures.0)

pub returns : goal.returns
returns c =
    let s = c.args in
    let some : c.first_line.result ≡ Some c.in_ok-number.number = grind arith in
    let same = rw some at c.first_line.ensures in
    sheet_known s.input.now c.in_ok-d.d c.lines_test.result (rest_is s.input.now) (ap named (sym same) ∙ c.in_ok-d.ensures) c.lines_test.ensures
