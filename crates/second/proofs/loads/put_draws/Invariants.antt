-- `loads::put_draws` meets its contract. The loop's invariant: the first draws are made, and s is that of the last. Assumes nothing.
use Rattle.std.proofs.Common.{◌≡◌, ◌+◌, ◌-◌, ◌≤◌}
use Rattle.second.specs.Working.Loops.{written}
use Rattle.second.specs.Working.Loads.{shifted_times, draw_of}
use Rattle.second.proofs.loads.put_draws.Given as goal

abbrev pub invariant-loop-k : goal.invariant-loop-k
invariant-loop-k l = (l.k ≤ l.last) × (l.s ≡ shifted_times l.seed l.k) × (l.draws ≡ written (λ j. l.last - j) (λ j. draw_of l.seed (j + 1)) l.k l.initial.draws)
