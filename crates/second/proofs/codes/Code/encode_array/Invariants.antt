-- `codes::Code::encode_array` meets its contract. The loop's invariant: the first lines are encoded. Assumes nothing.
use Rattle.std.proofs.Common.{◌≡◌, ◌≤◌}
use Rattle.second.specs.Working.Encoding.{encoded_to}
use Rattle.second.proofs.codes.Code.encode_array.Given as goal

abbrev pub invariant-loop-i : goal.invariant-loop-i
invariant-loop-i l = (l.i ≤ l.i-end) × (l.cells ≡ encoded_to l.self.n l.i l.initial.cells)
