-- `codes::Code::put_line` meets its contract. The loop's invariant: the first cells are written. Assumes nothing.
use Rattle.std.proofs.Common.{◌≡◌, ◌≤◌, get_or}
use Rattle.second.specs.Working.Loops.{written}
use Rattle.second.specs.Working.Arrays.{place_of}
use Rattle.second.proofs.codes.Code.put_line.Given as goal

abbrev pub invariant-loop-j : goal.invariant-loop-j
invariant-loop-j l = (l.j ≤ l.self.n) × (l.cells ≡ written (place_of l.self.n l.i) (λ k. get_or l.line k 0) l.j l.initial.cells)
