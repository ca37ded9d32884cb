-- `iterations::iterate` meets its contract, from what its two halves ensure.
-- Assumes nothing.
use Rattle.array.proofs.RunLaws.{iteration_done}
use Rattle.array.proofs.iterations.iterate.Goals as goal

pub returns : goal.returns
returns c =
    let args = c.args in
    iteration_done args.tables.now.degree args.filling.now c.size_of-n.ensures c.row_half-a.ensures c.column_half-b.ensures
