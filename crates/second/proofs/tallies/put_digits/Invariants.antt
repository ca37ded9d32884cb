-- The digits still to write, and then those written, are the digits of the number.
use Rattle.std.proofs.Common.{◌≡◌, ◌++◌, take, drop}
use Rattle.second.specs.Working.Digits.{last_digits}
use Rattle.second.proofs.tallies.put_digits.Given as goal

abbrev pub invariant-loop-i : goal.invariant-loop-i
invariant-loop-i l = (last_digits l.i l.rest ++ drop l.i (take l.many l.digits) ≡ last_digits l.many l.number) × (drop l.many l.digits ≡ drop l.many l.initial.digits)
