-- `words::word::grid::transpose_quarters` meets its contract: the two halves of each list are transposed, and the inner two exchanged.
-- Assumes nothing.
use Rattle.words.proofs.GridLaws.{quarters}
use Rattle.words.proofs.word.grid.transpose_quarters.Goals as goal

pub returns-clause-turned : goal.returns-clause-turned
returns-clause-turned c =
    let low = c.split_at_mut-first.ensures in
    let high = c.split_at_mut-below.ensures in
    let swapped = c.swap_with_slice.ensures in
    let first = rw low.front at c.transpose_block.ensures in
    let right = rw low.back at c.transpose_block-2.ensures in
    let below = rw high.front at c.transpose_block-3.ensures in
    let last = rw high.back at c.transpose_block-4.ensures in
    quarters _ _ _ _ _ _ first.turned right.turned below.turned last.turned swapped.after swapped.other_after
