-- `lines::fill` meets its contract. The loop's invariant: the word is made of bits so far. Assumes nothing.
use Rattle.std.proofs.Common.{arith}
use Rattle.second.proofs.Ranges.{below_zeros}
use Rattle.second.proofs.lines.fill.Goals as goal

pub loop-i-init : goal.loop-i-init
loop-i-init c = λ h. below_zeros 128 2 (omega arith)
