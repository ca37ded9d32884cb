-- `codewords::Decoder::decode_array` meets its contract: a line counts 258 at most. Assumes nothing.
use Rattle.std.proofs.Common.{◌*◌, ◌≤◌}
use Rattle.second.specs.Working.Loops.{Below}
use Rattle.second.proofs.codewords.Decoder.decode_array.Given as goal

abbrev pub invariant-loop-w : goal.invariant-loop-w
invariant-loop-w l = (l.sum ≤ 258 * l.w) × (Below 3 l.received → Below 3 l.initial.cells → Below 3 l.cells)
