-- `line::row::update_row` meets its contract: a row that is not written holds the new line already, since a line packs one list only.
-- Assumes nothing.
use mathlib.Core.Path.{refl, sym, ◌∙◌}
use borrow.Author.Tests.{eqb-true}
use Rattle.line.proofs.RowLaws.{none_differing}
use Rattle.line.proofs.row.update_row.Goals as goal

pub returns-else-not-is_zero : goal.returns-else-not-is_zero
returns-else-not-is_zero c =
    let z = eqb-true _ 0 (sym c.is_zero.ensures ∙ c.if-not-is_zero.false) in
    record { long = refl; cells = λ n cs p q. none_differing c.differing.ensures z p q }
