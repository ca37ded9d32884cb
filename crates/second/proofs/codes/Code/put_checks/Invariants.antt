-- `codes::Code::put_checks` meets its contract. The loop's invariant: the first cells are written. Assumes nothing.
use Rattle.std.proofs.Common.{◌≡◌, ◌/◌, ◌%◌, ◌^◌, ◌≤◌}
use Rattle.second.specs.Working.Loops.{written}
use Rattle.second.proofs.codes.Code.put_checks.Given as goal

abbrev pub invariant-loop-i : goal.invariant-loop-i
invariant-loop-i l = (l.i ≤ l.i-end) × (l.checked ≡ written (λ k. k) (λ k. l.checks / 2 ^ k % 2) l.i l.initial.checked)
