-- `files::any_sheet` meets its contract: the sheet is of zeros at first.
use Rattle.std.proofs.Common.{arith}
use Rattle.second.proofs.Ranges.{below_zeros}
use Rattle.damage.proofs.files.any_sheet.Goals as goal

pub loop-cell-init : goal.loop-cell-init
loop-cell-init c = below_zeros 4096 3 (omega arith)
