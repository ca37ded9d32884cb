-- `codes::Code::remainder` meets its contract. The loop's invariant: the rest after the steps made. Assumes nothing.
use Rattle.std.proofs.Common.{◌≡◌, ◌<◌, ◌≤◌}
use Rattle.second.specs.Working.Encoding.{remainder_of}
use Rattle.second.proofs.codes.Code.remainder.Given as goal

abbrev pub invariant-loop-j : goal.invariant-loop-j
invariant-loop-j l = (l.j ≤ l.last) × (l.rest ≡ remainder_of l.self.n l.line l.j) × (l.rest < 16384)
