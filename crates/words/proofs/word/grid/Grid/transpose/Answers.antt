-- `words::word::grid::Grid::transpose` meets its contract: by its quarters, of which a narrow grid has one.
-- Assumes nothing.
use mathlib.Core.Path.{refl}
use native.Mathlib.Omega.{arith}
use lib.ListN.{drop}
use lib.Seq.{take_at, drop_at}
use borrow.Author.Rules.{rules}
use Rattle.words.proofs.GridLaws.{narrow_small, narrow_quarters, grid_turned}
use Rattle.words.proofs.word.grid.Grid.transpose.Goals as goal

pub returns-then-size-le64 : goal.returns-then-size-le64
returns-then-size-le64 c =
    let g = c.args.self.now in
    let y = c.transpose_block.new.numbers in
    let t = c.transpose_block.ensures.turned in
    λ within.
    grid_turned g _ (narrow_small _ (omega arith) g g (search rules) (search rules) within)
    (narrow_quarters _ (omega arith) g _ (search rules) (search rules) within (rw (take_at y (drop 64 g.low) 64 t.long) t) (drop_at y (drop 64 g.low) 64 t.long) refl)

pub returns-else-size-le64 : goal.returns-else-size-le64
returns-else-size-le64 c = λ within. grid_turned c.args.self.now _ c.transpose_quarters.ensures.fits c.transpose_quarters.ensures.turned
