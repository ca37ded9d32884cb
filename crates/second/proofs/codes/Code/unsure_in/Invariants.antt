-- `codes::Code::unsure_in` meets its contract. The loop's invariant: the cells of the first rows are counted. Assumes nothing.
use Rattle.std.proofs.Common.{◌≡◌, ◌*◌, ◌≤◌}
use Rattle.laws.specs.Sums.{sum_to}
use Rattle.second.specs.Working.Arrays.{unsure_of}
use Rattle.second.proofs.codes.Code.unsure_in.Given as goal

abbrev pub invariant-loop-i : goal.invariant-loop-i
invariant-loop-i l = (l.i ≤ l.self.n) × (l.many ≡ sum_to (unsure_of l.self.n l.cells) l.i) × (l.many ≤ 128 * l.i)
