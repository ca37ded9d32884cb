-- `codes::Code::put_message` meets its contract. The loop's invariant: the first cells are written. Assumes nothing.
use Rattle.std.proofs.Common.{◌≡◌, ◌≤◌, get_or}
use Rattle.second.specs.Working.Loops.{written}
use Rattle.second.specs.Working.Encoding.{message_place}
use Rattle.second.proofs.codes.Code.put_message.Given as goal

abbrev pub invariant-loop-p : goal.invariant-loop-p
invariant-loop-p l = (l.p ≤ l.p-end) × (l.cells ≡ written (message_place l.self.n) (λ k. get_or l.message k 0) l.p l.initial.cells)
