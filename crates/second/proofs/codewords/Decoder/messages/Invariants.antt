-- `codewords::Decoder::messages` is safe and meets its contract. Assumes nothing.
use Rattle.std.proofs.Common.{◌+◌, ◌*◌, ◌≤◌}
use Rattle.second.specs.Working.Loops.{Below}
use Rattle.second.proofs.codewords.Decoder.messages.Given as goal

abbrev pub invariant-loop-k : goal.invariant-loop-k
invariant-loop-k l = (l.k ≤ l.self.code.n) × (l.count ≤ 2 + 2 * l.k) × (Below 3 l.incoming → Below 3 l.channel → Below 3 l.line)
