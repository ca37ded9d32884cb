-- `codes::Code::power` meets its contract. The loop's invariant: x is the power of the turns made. Assumes nothing.
use Rattle.std.proofs.Common.{◌≡◌, ◌<◌, ◌≤◌}
use Rattle.second.specs.Working.Codes.{power_of}
use Rattle.second.proofs.codes.Code.power.Given as goal

abbrev pub invariant-loop : goal.invariant-loop
invariant-loop l = (l.counter ≤ l.exponent) × (l.x ≡ power_of l.self.n l.counter) × (l.x < 128)
