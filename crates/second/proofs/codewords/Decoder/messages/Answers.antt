-- `codewords::Decoder::messages` is safe and meets its contract. Assumes nothing.
use Rattle.std.proofs.Common.{arith, rules}
use Rattle.second.proofs.Ranges.{below_zeros}
use Rattle.second.proofs.codewords.Decoder.messages.Goals as goal

pub loop-k-init : goal.loop-k-init
loop-k-init c = (search rules, search rules, λ h g. below_zeros 128 3 (omega arith))
