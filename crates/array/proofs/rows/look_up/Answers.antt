-- `array::rows::look_up` meets its contract: the tests of a taken look-up say that the row lies within the cells.
-- Assumes nothing.
use Rattle.std.proofs.Common.{[], sym, ◌∙◌, arith}
use Rattle.degree.specs.Degree.{size}
use Rattle.line.proofs.Refusing.{given_taken}
use Rattle.array.specs.Arrays.{line}
use Rattle.array.specs.Refusals.{row_tests}
use Rattle.array.proofs.Refusing.{row_taken, row_room, row_part_lem}
use Rattle.array.proofs.rows.look_up.Goals as goal

-- the row lies within the cells, and its end fits
pub overflow_mul-at : goal.overflow_mul-at
overflow_mul-at c =
    let s = c.args in
    let h = row_taken s.degree s.cells.now s.index c.in_ok-d.d c.in_ok-d.ensures in
    omega (arith, row_room c.in_ok-d.d s.index c.size_of-n.ensures h.1, h.0)

pub overflow_add-result : goal.overflow_add-result
overflow_add-result c =
    let s = c.args in
    let h = row_taken s.degree s.cells.now s.index c.in_ok-d.d c.in_ok-d.ensures in
    omega (arith, row_room c.in_ok-d.d s.index c.size_of-n.ensures h.1, h.0)

pub slice_bounds-result-end : goal.slice_bounds-result-end
slice_bounds-result-end c =
    let s = c.args in
    let h = row_taken s.degree s.cells.now s.index c.in_ok-d.d c.in_ok-d.ensures in
    omega (arith, row_room c.in_ok-d.d s.index c.size_of-n.ensures h.1, h.0)

pub returns-clause-part : goal.returns-clause-part
returns-clause-part c =
    let s = c.args in
    row_part_lem s.cells.now s.index c.size_of-n.ensures
    ∙ sym (given_taken (row_tests s.degree s.cells.now s.index []) s.degree (λ d. line (size d) s.cells.now s.index) [] c.in_ok-d.ensures)
