-- `loads::change_back` meets its contract. The loop's invariant: the first places have changed. Assumes nothing.
use Rattle.std.proofs.Common.{◌≡◌, ◌≤◌}
use Rattle.second.specs.Working.Loads.{changed_to}
use Rattle.second.proofs.loads.change_back.Given as goal

abbrev pub invariant-loop-k : goal.invariant-loop-k
invariant-loop-k l = (l.k ≤ l.last) × (l.marks ≡ changed_to l.draws l.k l.initial.marks)
