-- `codes::Code::weights` meets its contract. The loop's invariant: the first weights are written. Assumes nothing.
use Rattle.std.proofs.Common.{◌≡◌, ◌≤◌, replicate}
use Rattle.second.specs.Working.Codes.{weight_of}
use Rattle.second.specs.Working.Loops.{written}
use Rattle.second.proofs.codes.Code.weights.Given as goal

abbrev pub invariant-loop-i : goal.invariant-loop-i
invariant-loop-i l = (l.i ≤ l.last) × (l.weights ≡ written (λ k. k) (weight_of l.self.n) l.i (replicate 128 0))
