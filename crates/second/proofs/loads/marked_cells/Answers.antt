-- `loads::marked_cells` meets its contract. Assumes nothing.
use Rattle.second.specs.Working.Loads.{marked_cells}
use Rattle.second.proofs.loads.marked_cells.Goals as goal

pub returns : goal.returns
unfolding marked_cells
returns c =
    rw (c.change_back.ensures, c.put_marks.ensures, c.put_draws.ensures)
