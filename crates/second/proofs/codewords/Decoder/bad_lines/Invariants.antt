-- `codewords::Decoder::bad_lines` meets its contract. The loop's invariant: the first lines are counted. Assumes nothing.
use Rattle.std.proofs.Common.{◌≡◌, ◌≤◌}
use Rattle.laws.specs.Sums.{sum_to}
use Rattle.second.specs.Working.Arrays.{is_bad}
use Rattle.second.proofs.codewords.Decoder.bad_lines.Given as goal

abbrev pub invariant-loop-i : goal.invariant-loop-i
invariant-loop-i l = (l.i ≤ l.self.code.n) × (l.bad ≡ sum_to (is_bad l.self.code.n l.first l.self.weights l.cells) l.i) × (l.bad ≤ l.i)
