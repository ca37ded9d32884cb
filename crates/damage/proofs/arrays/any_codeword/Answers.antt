-- `arrays::any_codeword` meets its contract: the cells of a sent array are bits, and so are those of its row. Assumes nothing.
use Rattle.std.proofs.Common.{arith}
use Rattle.second.proofs.Ranges.{below_zeros, below_taken}
use Rattle.damage.proofs.arrays.any_codeword.Goals as goal

pub returns : goal.returns
returns c =
    rw c.take_line.ensures (below_taken _ 0 2 _ (omega arith) (c.make_sent.ensures (below_zeros 16384 2 (omega arith))))
