-- `loads::sent_cells` meets its contract. Assumes nothing.
use Rattle.second.specs.Working.Loads.{sent_cells}
use Rattle.second.proofs.loads.sent_cells.Goals as goal

pub returns : goal.returns
unfolding sent_cells
returns c = rw (c.encode_array.ensures, c.put_message.ensures)
