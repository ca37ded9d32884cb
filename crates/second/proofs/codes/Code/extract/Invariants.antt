-- `codes::Code::extract` meets its contract. The loop's invariant: the first cells are written. Assumes nothing.
use Rattle.std.proofs.Common.{◌≡◌, ◌≤◌, get_or}
use Rattle.second.specs.Working.Loops.{written}
use Rattle.second.specs.Working.Encoding.{message_place}
use Rattle.second.proofs.codes.Code.extract.Given as goal

abbrev pub invariant-loop-p : goal.invariant-loop-p
invariant-loop-p l = (l.p ≤ l.p-end) × (l.message ≡ written (λ k. k) (λ k. get_or l.cells (message_place l.self.n k) 0) l.p l.initial.message)
