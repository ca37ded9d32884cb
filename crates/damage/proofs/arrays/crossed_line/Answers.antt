-- `arrays::crossed_line` meets its contract: the line is of zeros at first.
use Rattle.std.proofs.Common.{arith, rules}
use Rattle.second.proofs.Ranges.{below_zeros}
use Rattle.damage.proofs.arrays.crossed_line.Goals as goal

pub loop-j-init : goal.loop-j-init
loop-j-init c = (search rules, λ h. below_zeros 128 3 (omega arith))
