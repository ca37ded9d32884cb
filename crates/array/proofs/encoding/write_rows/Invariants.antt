-- `encoding::write_rows` meets its contract. The loop's invariant: the first i rows are written, the others as they were.
-- Assumes nothing.
use Rattle.laws.specs.Digits.{digits}
use Rattle.words.specs.Working.Sums.{chosen_sum}
use Rattle.array.proofs.WrittenLines.{Lining}
use Rattle.array.proofs.encoding.write_rows.Given as goal

abbrev pub invariant-loop-i : goal.invariant-loop-i
invariant-loop-i l = Lining l.n (λ j. digits l.n (chosen_sum l.units l.words l.k j)) l.n l.initial.cells l.cells l.i
