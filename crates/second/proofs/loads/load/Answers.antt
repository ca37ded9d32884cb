-- `loads::load` meets its contract: what is not refused fits. Assumes nothing.
use Rattle.std.proofs.Common.{arith}
use Rattle.second.specs.Working.Loads.{loaded_cells}
use Rattle.second.proofs.loads.load.Goals as goal

pub returns-clause-left : goal.returns-clause-left
unfolding loaded_cells
returns-clause-left c =
    (λ e. rw (c.put_damaged.ensures, c.marked_cells-marks.ensures, c.sent_cells-sent.ensures, c.of_degree-code.ensures.0), λ h. absurd (omega arith))
